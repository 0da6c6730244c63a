-- Requests leave what the running jobs hold that aren't named.
use Rattle.std.proofs.Common.{ℕ, ◌≡◌, ◌∙◌, Bool, true, false, ◌&&◌, ◌||◌, not, cond, List, [], ◌∷◌, map, find, sum_by, Option, Some, None, nat_eq, refl, sym, ap, subst, arith, inl, inr}
use Rattle.std.specs.Prelude.{unwrap_or}
use Rattle.std.proofs.lemmas.Bool.{both_ways, cases_Bool, cond_both}
use Rattle.std.proofs.lemmas.List.Sums.{sum_by-cons}
use Rattle.request_data.specs.declared.report.Done.{Done}
use Rattle.request_data.specs.declared.report.Report.{Report as Told}
use Rattle.request_data.specs.declared.state.Final.{Final}
use Rattle.request_data.specs.declared.state.Final.TheVariants as final
use Rattle.request_data.specs.declared.state.JobState.{JobState}
use Rattle.request_data.specs.declared.state.JobState.TheVariants.{Pending, Running, Completing, Ended}
use Rattle.request_data.specs.declared.target.Target.{Target}
use Rattle.request_data.specs.declared.target.Targets.TheVariants.{List as Listed, User}
use Rattle.request_data.specs.declared.request.NodeOrder.TheVariants as order
use Rattle.request_data.specs.declared.request.Request.{Request}
use Rattle.job_table.specs.declared.change.Change.{Change}
use Rattle.job_table.specs.declared.change.Change.TheVariants.{Start, Leave, CancelPending, CancelRequeue, DropPart, SetHold, SetLimit, SetNice}
use Rattle.job_table.specs.declared.record.JobRecord.{JobRecord}
use Rattle.job_table.specs.declared.record.Part.{Part}
use Rattle.job_table.specs.Changes.{changed, not_again, off_node, parts_off, with_left}
use Rattle.job_table.specs.JobStates.{is_pending, is_running, left}
use Rattle.job_table.specs.Targets.{is_named, is_named_by}
use Rattle.ctl_state.specs.State.{State}
use Rattle.ctl_state.specs.Verdicts.{stamped}
use Rattle.ctl_nodes.specs.Failing.{lost_after}
use Rattle.ctl_jobs.specs.declared.action.Action.{Action}
use Rattle.ctl_jobs.specs.declared.action.Action.TheVariants as act
use Rattle.ctl_jobs.specs.Actions.{cancelled_in, done_to}
use Rattle.ctl_jobs.specs.Changing.{are_naming, change_after, done_if, done_where, may_do}
use Rattle.ctl_node_side.specs.Answering.{is_restarted}
use Rattle.ctl_node_side.specs.Reporting.{after_told, done_of, is_at, is_batch_host, is_last_start, is_listed, report_after, reported, script_over, told_over}
use Rattle.ctl_node_side.specs.Restarting.{met}
use Rattle.ctl_core.specs.Step.{made, raised, state_after}
use Rattle.list_lemmas.proofs.Filters.{filter-all}
use Rattle.step_lemmas.proofs.Making.{AsksCancel, AsksRequeue, ByAction, ByPass, ByReport, ByUpdateNode, MayMake}
use Rattle.step_lemmas.proofs.Steps.{step_is}
use Rattle.sacct_book.specs.Naming.{changed_by, run_by_others, target_of}
use Rattle.sacct_book.specs.Requests.{may_change_running}
use Rattle.sacct_book.specs.Running.{cpus_run_by}
use Rattle.sacct_book.proofs.Named.{counts, counts_if, if-fails, if-passes, run-filtered}
use Rattle.sacct_book.proofs.Quiet.{made-leaves, still-none}

-- ---- what no change touches of a job

record HasItsNumbers (job after : JobRecord) : Type 0 where
  pub id : after.id ≡ job.id
  pub array : after.array ≡ job.array
  pub index : after.index ≡ job.index

itself : (job : JobRecord) → HasItsNumbers job job
itself job = record { id = refl; array = refl; index = refl }

twice : (job middle after : JobRecord) → HasItsNumbers job middle → HasItsNumbers middle after → HasItsNumbers job after
twice job middle after first second = record {
  id = second.id ∙ first.id;
  array = second.array ∙ first.array;
  index = second.index ∙ first.index;
}

named-alike : (id : ℕ) (index : Option ℕ) (job after : JobRecord) → HasItsNumbers job after
    → is_named_by id index after ≡ is_named_by id index job
named-alike id None job after same = rw (same.id, same.array) refl
named-alike id (Some index) job after same = rw (same.array, same.index) refl

all-alike : (targets : List Target) (job after : JobRecord) → HasItsNumbers job after
    → are_naming targets after ≡ are_naming targets job
all-alike [] job after same = refl
all-alike (target ∷ targets) job after same =
    ap (λ b. b || are_naming targets after) (named-alike target.id target.index job after same)
    ∙ ap (λ b. is_named target job || b) (all-alike targets job after same)

again-numbers : (job : JobRecord) (state : JobState) → HasItsNumbers job (not_again job state)
again-numbers job Pending = itself job
again-numbers job Running = itself job
again-numbers job (Completing final.Completed) = itself job
again-numbers job (Completing final.Cancelled) = itself job
again-numbers job (Completing final.Failed) = itself job
again-numbers job (Completing final.Timeout) = itself job
again-numbers job (Completing final.NodeFail) = itself job
again-numbers job (Completing final.Requeue) = record { id = refl; array = refl; index = refl }
again-numbers job (Ended end) = itself job

left-numbers : (now : ℕ) (end : Final) (parts : List Part) (job : JobRecord)
    → HasItsNumbers job (with_left now end parts job)
left-numbers now end [] job = record { id = refl; array = refl; index = refl }
left-numbers now end (part ∷ later) job = record { id = refl; array = refl; index = refl }

off-numbers : (now node : ℕ) (job : JobRecord) (state : JobState) → HasItsNumbers job (off_node now node job state)
off-numbers now node job Pending = itself job
off-numbers now node job Running = itself job
off-numbers now node job (Completing end) = left-numbers now end (parts_off node job.parts) job
off-numbers now node job (Ended end) = itself job

changed-numbers : (change : Change) (job : JobRecord) → HasItsNumbers job (changed change job)
changed-numbers (Start now parts nodes) job = record { id = refl; array = refl; index = refl }
changed-numbers (Leave end now exit) job =
    cond_both (is_running job.state) _ job (HasItsNumbers job) (λ runs. record { id = refl; array = refl; index = refl })
    (λ not. itself job)
changed-numbers (CancelPending now) job =
    cond_both (is_pending job.state) _ job (HasItsNumbers job) (λ waits. record { id = refl; array = refl; index = refl })
    (λ not. itself job)
changed-numbers CancelRequeue job = again-numbers job job.state
changed-numbers (DropPart node now) job = off-numbers now node job job.state
changed-numbers (SetHold by) job = record { id = refl; array = refl; index = refl }
changed-numbers (SetLimit limit) job = record { id = refl; array = refl; index = refl }
changed-numbers (SetNice nice) job = record { id = refl; array = refl; index = refl }

cancelled-numbers : (now : ℕ) (job : JobRecord) (state : JobState) → HasItsNumbers job (cancelled_in now job state)
cancelled-numbers now job Pending = changed-numbers (CancelPending now) job
cancelled-numbers now job Running = changed-numbers (Leave final.Cancelled now None) job
cancelled-numbers now job (Completing end) = changed-numbers CancelRequeue job
cancelled-numbers now job (Ended end) = itself job

-- ---- lists of jobs

-- each becomes another with its numbers, which holds the same while it runs where it isn't named
map-others : (targets : List Target) (place : ℕ) (f : JobRecord → JobRecord) (jobs : List JobRecord)
    → ((job : JobRecord) → HasItsNumbers job (f job))
    → ((job : JobRecord) → are_naming targets job ≡ false → counts place (f job) ≡ counts place job)
    → run_by_others targets (map f jobs) place ≡ run_by_others targets jobs place
map-others targets place f jobs numbers same =
    run-filtered other place (map f jobs) ∙ by jobs ∙ sym (run-filtered other place jobs)
  where
    other : JobRecord → Bool
    other job = not (are_naming targets job)

    each : (job : JobRecord) → counts_if other place (f job) ≡ counts_if other place job
    each job =
        let alike : other (f job) ≡ other job = ap not (all-alike targets job (f job) (numbers job)) in
        elim (cases_Bool (are_naming targets job)) [
          | inr off ↦
              if-passes other place (f job) (alike ∙ ap not off) ∙ same job off
              ∙ sym (if-passes other place job (ap not off))
          | inl on ↦
              if-fails other place (f job) (alike ∙ ap not on) ∙ sym (if-fails other place job (ap not on))
        ]

    by : (jobs : List JobRecord) → sum_by (counts_if other place) (map f jobs) ≡ sum_by (counts_if other place) jobs
    by [] = refl
    by (job ∷ jobs) =
        omega (
          arith,
          sum_by-cons (counts_if other place) (f job) (map f jobs),
          sum_by-cons (counts_if other place) job jobs,
          each job,
          by jobs,
        )

-- where none is named
none-named : (jobs : List JobRecord) (place : ℕ) → run_by_others [] jobs place ≡ cpus_run_by jobs place
none-named jobs place = ap (λ some. cpus_run_by some place) (filter-all jobs)

abbrev IsLeft : List Target → ℕ → List JobRecord → List JobRecord → Type 0
IsLeft targets place jobs after = run_by_others targets after place ≡ run_by_others targets jobs place

-- ---- what is done to jobs that are named

change-others : (targets : List Target) (place : ℕ) (s : State) (now : ℕ) (user : List ℕ) (action : Action)
    → ((job : JobRecord) → HasItsNumbers job (done_to now user action job))
    → IsLeft targets place s.jobs (change_after s now user action (are_naming targets)).jobs
change-others targets place s now user action numbers =
    let named = are_naming targets in
    map-others targets place (done_if s now user action named) s.jobs
    (λ job. cond_both (named job && may_do s user action job) (done_to now user action job) job (HasItsNumbers job)
    (λ done. numbers job) (λ not. itself job))
    (λ job off. ap (λ b. counts place (done_where s now user action b job)) off)

-- ---- reports

-- of a job that isn't named nothing is told to be over
undone : (job : JobRecord) (done : List Done) → are_naming (map target_of done) job ≡ false
    → find (λ (one : Done). is_last_start job one.start) done ≡ None
undone job [] none = refl
undone job (one ∷ later) none =
    cond_both (is_last_start job one.start) (Some one) (find (λ (other : Done). is_last_start job other.start) later)
    (λ found. found ≡ None)
    (λ is. absurd (both_ways (nat_eq job.id one.start.id) (first none) (own is)))
    (λ not. undone job later (rest none))
  where
    first : are_naming (map target_of (one ∷ later)) job ≡ false → nat_eq job.id one.start.id ≡ false
    first off = by (nat_eq job.id one.start.id) _ _ off
      where
        by : (own array others : Bool) → ((own || array) || others) ≡ false → own ≡ false
        by own array others off = grind arith

    rest : are_naming (map target_of (one ∷ later)) job ≡ false → are_naming (map target_of later) job ≡ false
    rest off = by (is_named (target_of one) job) (are_naming (map target_of later) job) off
      where
        by : (first others : Bool) → (first || others) ≡ false → others ≡ false
        by first others off = grind arith

    own : is_last_start job one.start ≡ true → nat_eq job.id one.start.id ≡ true
    own on = by (nat_eq job.id one.start.id) _ on
      where
        by : (id number : Bool) → (id && number) ≡ true → id ≡ true
        by id number on = grind arith

-- a completing job runs no more, also once it has left a node
left-still : (end : Final) → is_running (left end) ≡ false
left-still final.Completed = refl
left-still final.Cancelled = refl
left-still final.Failed = refl
left-still final.Timeout = refl
left-still final.NodeFail = refl
left-still final.Requeue = refl

pub left-counts : (place now : ℕ) (end : Final) (parts : List Part) (job : JobRecord) → job.state ≡ Completing end
    → counts place (with_left now end parts job) ≡ 0
left-counts place now end [] job is = still-none place (with_left now end [] job) (left-still end)
left-counts place now end (part ∷ later) job is =
    still-none place (with_left now end (part ∷ later) job) (ap is_running is)

off-counts : (place now node : ℕ) (job : JobRecord) (state : JobState) → job.state ≡ state
    → counts place (off_node now node job state) ≡ counts place job
off-counts place now node job Pending is = refl
off-counts place now node job Running is = refl
off-counts place now node job (Completing end) is =
    left-counts place now end (parts_off node job.parts) job is ∙ sym (still-none place job (ap is_running is))
off-counts place now node job (Ended end) is = refl

told-numbers : (now node : ℕ) (told : Told) (job : JobRecord) (done : Option Done)
    → HasItsNumbers job (after_told now node told job done)
told-numbers now node told job None =
    cond_both (is_listed told job) job (changed (DropPart node now) job) (HasItsNumbers job) (λ listed. itself job)
    (λ not. changed-numbers (DropPart node now) job)
told-numbers now node told job (Some done) =
    twice job (script_over now node done job) (told_over now node done job)
    (cond_both (is_batch_host node job.parts) _ job (HasItsNumbers job) (λ host. changed-numbers (Leave _ now _) job)
    (λ not. itself job))
    (changed-numbers (DropPart node now) (script_over now node done job))

told-counts : (place now node : ℕ) (told : Told) (job : JobRecord) (done : Option Done) → done ≡ None
    → counts place (after_told now node told job done) ≡ counts place job
told-counts place now node told job over is =
    ap (λ one. counts place (after_told now node told job one)) is
    ∙ cond_both (is_listed told job) job (changed (DropPart node now) job)
    (λ (after : JobRecord). counts place after ≡ counts place job)
    (λ listed. refl) (λ not. off-counts place now node job job.state refl)

reported-others : (place now node : ℕ) (told : Told) (jobs : List JobRecord)
    → IsLeft (map target_of told.done) place jobs (map (reported now node told) jobs)
reported-others place now node told jobs =
    map-others (map target_of told.done) place (reported now node told) jobs
    (λ job. cond_both (is_at node job) (after_told now node told job (done_of told job)) job (HasItsNumbers job)
    (λ there. told-numbers now node told job (done_of told job)) (λ not. itself job))
    (λ job off. cond_both (is_at node job) (after_told now node told job (done_of told job)) job
    (λ (after : JobRecord). counts place after ≡ counts place job)
    (λ there. told-counts place now node told job (done_of told job) (undone job told.done off)) (λ not. refl))

report-others : (place : ℕ) (s : State) (now : ℕ) (told : Told) (node : ℕ) → is_restarted s told ≡ false
    → IsLeft (map target_of told.done) place s.jobs (report_after (met s now node told) now node told).jobs
report-others place s now told node same =
    subst (λ (t : State). IsLeft (map target_of told.done) place s.jobs (report_after t now node told).jobs)
    (sym (ap (λ b. cond b (stamped now (lost_after s now (nat_eq node))) s) same))
    (reported-others place now node told s.jobs)

-- ---- any request

from-some : {X : Type 0} (x y : X) → Some x ≡ Some y → x ≡ y
from-some x y same = ap (λ one. unwrap_or one x) same

-- those of targets that are told
told-left : (targets told : List Target) (place : ℕ) (jobs after : List JobRecord) → Some told ≡ Some targets
    → IsLeft told place jobs after → IsLeft targets place jobs after
told-left targets told place jobs after is left =
    subst (λ (some : List Target). IsLeft some place jobs after) (from-some told targets is) left

mild : (targets : List Target) (place : ℕ) (s : State) (now : ℕ) (user : List ℕ) (request : Request) (after : State)
    → may_change_running request ≡ false → Some [] ≡ Some targets → MayMake s now user request after
    → IsLeft targets place s.jobs after.jobs
mild targets place s now user request after quiet is kind =
    told-left targets [] place s.jobs after.jobs is
    (none-named after.jobs place ∙ made-leaves place s now user request after quiet kind ∙ sym (none-named s.jobs place))

no-targets : {targets : List Target} → None ≡ Some targets → ⊥
no-targets is = grind arith

if-heard : (targets : List Target) (place : ℕ) (s : State) (now : ℕ) (told : Told) (node : ℕ) (restarted : Bool)
    → is_restarted s told ≡ restarted → cond restarted None (Some (map target_of told.done)) ≡ Some targets
    → IsLeft targets place s.jobs (report_after (met s now node told) now node told).jobs
if-heard targets place s now told node true same is = absurd (no-targets is)
if-heard targets place s now told node false same is =
    told-left targets (map target_of told.done) place s.jobs (report_after (met s now node told) now node told).jobs is
    (report-others place s now told node same)

made-others : (targets : List Target) (place : ℕ) (s : State) (now : ℕ) (user : List ℕ) (request : Request)
    (after : State) → changed_by s request ≡ Some targets → MayMake s now user request after → IsLeft targets place s.jobs after.jobs
made-others targets place s now user request after is (ByAction action named (AsksCancel (Listed listed))) =
    told-left targets listed place s.jobs after.jobs is
    (change-others listed place s now user act.Cancel (λ job. cancelled-numbers now job job.state))
made-others targets place s now user request after is (ByAction action named (AsksCancel (User owner))) =
    absurd (no-targets is)
made-others targets place s now user request after is (ByAction action named (AsksRequeue target)) =
    told-left targets (target ∷ []) place s.jobs after.jobs is
    (change-others (target ∷ []) place s now user act.Requeue (λ job. changed-numbers (Leave final.Requeue now None) job))
made-others targets place s now user request after is (ByUpdateNode nodes order.Down) = absurd (no-targets is)
made-others targets place s now user request after is (ByReport told node found) =
    if-heard targets place s now told node (is_restarted s told) refl is
made-others targets place s now user request after is ByPass = absurd (no-targets is)
made-others targets place s now user request after is kind = mild targets place s now user request after refl is kind

-- Whatever a request does, the jobs that aren't named by the targets that it may change hold what they held.
pub others-stay : (s : State) (now : ℕ) (user : List ℕ) (request : Request) (targets : List Target)
    → changed_by s request ≡ Some targets → (place : ℕ)
    → run_by_others targets (state_after s now user request).jobs place ≡ run_by_others targets s.jobs place
others-stay s now user request targets is place =
    step_is (λ (t : State). IsLeft targets place s.jobs t.jobs) s now user request refl
    (λ reply after made. made-others targets place s (raised s now) user request after is made.kind)

-- Where they name none, all hold what they held.
pub nothing-changed : (s : State) (now : ℕ) (user : List ℕ) (request : Request) → changed_by s request ≡ Some []
    → (place : ℕ) → cpus_run_by (state_after s now user request).jobs place ≡ cpus_run_by s.jobs place
nothing-changed s now user request is place =
    sym (none-named (state_after s now user request).jobs place) ∙ others-stay s now user request [] is place
    ∙ none-named s.jobs place
