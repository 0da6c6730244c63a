-- What becomes of the jobs at each request.
use Rattle.std.proofs.Common.{ℕ, ◌≡◌, ◌≤◌, ◌∙◌, Bool, true, ◌&&◌, not, List, [], ◌∷◌, map, All, Option, Some, None, if◌then◌else◌, refl, ap, subst, sym, arith, nat_eq}
use Rattle.std.specs.List.{enumerate_from}
use Rattle.std.proofs.lemmas.Bool.{cond_both, not-false}
use Rattle.std.proofs.lemmas.List.Elements.{All-cons, All-nil}
use Rattle.plain_data.specs.declared.array.ArraySpec.{ArraySpec}
use Rattle.plain_data.specs.declared.job.JobDesc.{JobDesc}
use Rattle.plain_data.specs.Confs.{ConfView}
use Rattle.backfill_planner.specs.declared.Placed.{Placed}
use Rattle.request_data.specs.declared.report.Report.{Report as Told}
use Rattle.request_data.specs.declared.request.Request.{Request}
use Rattle.request_data.specs.declared.request.Request.TheVariants.{UpdateNode, Report, Pass, Reconfigure}
use Rattle.request_data.specs.declared.state.Final.TheVariants as final
use Rattle.request_data.specs.declared.request.NodeOrder.{NodeOrder}
use Rattle.job_table.specs.declared.record.JobRecord.{JobRecord}
use Rattle.job_table.specs.declared.change.Change.TheVariants.{Leave, Start}
use Rattle.job_table.specs.Changes.{changed}
use Rattle.job_table.specs.JobStates.{is_pending}
use Rattle.job_table.specs.Table.{has_id}
use Rattle.ctl_state.specs.Events.{started_as}
use Rattle.ctl_state.specs.State.{State}
use Rattle.ctl_state.specs.Verdicts.{stamped}
use Rattle.ctl_jobs.specs.declared.action.Action.{Action}
use Rattle.ctl_jobs.specs.Changing.{done_if}
use Rattle.ctl_nodes.specs.Failing.{after_loss, lost_after}
use Rattle.ctl_nodes.specs.Updating.{lost_by}
use Rattle.ctl_pass.specs.Limits.{is_over, timed_out}
use Rattle.ctl_pass.specs.Passing.{outcome}
use Rattle.ctl_pass.specs.Preempting.{preempted, victims_in}
use Rattle.ctl_pass.specs.Readiness.{goes, jobs_left, placements}
use Rattle.ctl_pass.specs.Starting.{Started, begun, may_start, start_of, started}
use Rattle.ctl_node_side.specs.Answering.{is_restarted}
use Rattle.ctl_node_side.specs.Passes.{after_pass}
use Rattle.ctl_node_side.specs.Reporting.{report_after, reported}
use Rattle.ctl_node_side.specs.Restarting.{met}
use Rattle.ctl_node_side.specs.Silence.{any_silent, silent_at, silenced, without_silent}
use Rattle.ctl_jobs.specs.Submission.{Basis, new_jobs, task}
use Rattle.ctl_reconfigure.specs.Reconfiguring.{job_after as job_moved}
use Rattle.ctl_core.specs.Step.{raised, state_after}
use Rattle.step_lemmas.proofs.Making.{Asks, ByAction, ByPass, ByReconfigure, ByReport, BySubmit, ByUpdateNode, MayMake}
use Rattle.step_lemmas.proofs.Steps.{step_is}
use Rattle.user_laws.specs.Staying.{HasGone}
use Rattle.user_laws.proofs.Changes.{leave_goes, loss_goes}
use Rattle.user_laws.proofs.Lists.{Turns, turns_append, turns_filter, turns_itself, turns_map, turns_on}
use Rattle.user_laws.proofs.Old.{found_by_pass, gone_was_old, silenced_job}
use Rattle.ctl_pass.proofs.Preempted.{preempted-id as gone-id}

-- ---- what each request makes of a job

-- the job once the daemon of the node at a place was restarted, if it was
abbrev pub met_job : State → ℕ → ℕ → Told → JobRecord → JobRecord
met_job s now node report job = if is_restarted s report then after_loss now (nat_eq node) job else job

-- What a request makes of a job: a pass leaves it its number, and any request may leave it as it is.
pub data Becomes (s : State) (now : ℕ) (user : List ℕ) : Request → JobRecord → JobRecord → Type 0 where
  Acted : {request : Request} {job : JobRecord} (action : Action) (named : JobRecord → Bool) → Asks request action named
      → Becomes s now user request job (done_if s now user action named job)
  Lost : {job : JobRecord} (nodes : List (List ℕ)) (order : NodeOrder)
      → Becomes s now user (UpdateNode nodes order) job (after_loss now (lost_by s.nodes nodes order) job)
  Heard : {job : JobRecord} (report : Told) (node : ℕ)
      → Becomes s now user (Report report) job (reported now node report (met_job s now node report job))
  Moved : {job : JobRecord} (conf : ConfView) (bytes : ℕ)
      → Becomes s now user (Reconfigure conf bytes) job (job_moved s conf job)
  Passed : {job after : JobRecord} → after.id ≡ job.id → Becomes s now user Pass job after
  Same : {request : Request} {job : JobRecord} → Becomes s now user request job job

-- new jobs have the next numbers, wait, and were never started
pub record IsNew (s : State) (job : JobRecord) : Type 0 where
  pub above : s.next_id ≤ job.id
  pub waits : is_pending job.state ≡ true
  pub never : job.starts ≡ 0
  pub nothing : job.parts ≡ []

abbrev pub JobsTurn : State → ℕ → List ℕ → Request → List JobRecord → Type 0
JobsTurn s now user request jobs = Turns (Becomes s now user request) (HasGone s now request) (IsNew s) s.jobs jobs

-- ---- each request

tasks-new : (s : State) (now : ℕ) (user : List ℕ) (desc : JobDesc) (basis : Basis) (indices : List (ℕ × ℕ))
    → All (IsNew s) (map (task s now user desc basis) indices)
tasks-new s now user desc basis [] = All-nil (IsNew s)
tasks-new s now user desc basis ((place, index) ∷ later) =
    All-cons (IsNew s) (task s now user desc basis (place, index)) (map (task s now user desc basis) later)
    (record { above = omega arith; waits = refl; never = refl; nothing = refl }) (tasks-new s now user desc basis later)

pub jobs_new : (s : State) (now : ℕ) (user : List ℕ) (desc : JobDesc) (basis : Basis) (array : Option ArraySpec)
    → All (IsNew s) (new_jobs s now user desc basis array)
unfolding new_jobs
jobs_new s now user desc basis None =
    All-cons (IsNew s) _ [] (record { above = omega arith; waits = refl; never = refl; nothing = refl }) (All-nil (IsNew s))
jobs_new s now user desc basis (Some array) = tasks-new s now user desc basis (enumerate_from 0 array.indices)

met-turns : (s : State) (now node : ℕ) (report : Told)
    → Turns (λ (job after : JobRecord). after ≡ met_job s now node report job) (λ job. ⊥) (λ job. ⊥) s.jobs
    (met s now node report).jobs
met-turns s now node report =
    let R = λ (job after : JobRecord). after ≡ met_job s now node report job in
    cond_both (is_restarted s report) (stamped now (lost_after s now (nat_eq node))) s
    (λ (t : State). Turns R (λ job. ⊥) (λ job. ⊥) s.jobs t.jobs)
    (λ is. turns_map R (λ job. ⊥) (λ job. ⊥) (after_loss now (nat_eq node)) s.jobs (λ job. rw is refl))
    (λ not. turns_itself R (λ job. ⊥) (λ job. ⊥) s.jobs (λ job. rw not refl))

report-turns : (s : State) (now : ℕ) (user : List ℕ) (report : Told) (node : ℕ)
    → JobsTurn s now user (Report report) (report_after (met s now node report) now node report).jobs
report-turns s now user report node =
    let None_ = λ (job : JobRecord). ⊥ in
    let Met = λ (job after : JobRecord). after ≡ met_job s now node report job in
    let Told_ = λ (job after : JobRecord). after ≡ reported now node report job in
    turns_on (Becomes s now user (Report report)) Met Told_ None_ None_ None_ (IsNew s) s.jobs
    (met s now node report).jobs (report_after (met s now node report) now node report).jobs
    (λ x y z one two. subst (Becomes s now user (Report report) x) (sym (two ∙ ap (reported now node report) one))
    (Heard report node)) (λ x never. never) (λ x y one never. never) (met-turns s now node report)
    (turns_map Told_ None_ (IsNew s) (reported now node report) (met s now node report).jobs (λ job. refl))

-- ---- a pass

abbrev SameId : JobRecord → JobRecord → Type 0
SameId job after = after.id ≡ job.id

start-turns : (Gone Came : JobRecord → Type 0) (s : State) (now : ℕ) (jobs : List JobRecord) (plan : List Placed)
    → Turns SameId (λ job. ⊥) (λ job. ⊥) jobs (started s now jobs plan).jobs
unfolding started
start-turns Gone Came s now jobs [] = turns_itself SameId (λ job. ⊥) (λ job. ⊥) jobs (λ job. refl)
start-turns Gone Came s now jobs (placed ∷ later) =
    let start = start_of s.nodes jobs placed in
    let None_ = λ (job : JobRecord). ⊥ in
    cond_both (nat_eq placed.start now && may_start s jobs placed.id) _ _
    (λ (all : Started). Turns SameId None_ None_ jobs all.jobs)
    (λ starts. turns_on SameId SameId SameId None_ None_ None_ None_ jobs (begun now jobs start)
    (started s now (begun now jobs start) later).jobs (λ x y z one two. two ∙ one) (λ x never. never)
    (λ x y one never. never)
    (turns_map SameId None_ None_ (started_as now placed.id start.parts start.nodes) jobs
    (λ job. cond_both (has_id placed.id job) (changed (Start now start.parts start.nodes) job) job (SameId job)
    (λ is. refl) (λ not. refl)))
    (start-turns None_ None_ s now (begun now jobs start) later))
    (λ stays. start-turns None_ None_ s now jobs later)

silence-turns : (s : State) (now : ℕ)
    → Turns (λ (job after : JobRecord). after ≡ silenced_job s now job) (λ job. ⊥) (λ job. ⊥) s.jobs (silenced s now).jobs
silence-turns s now =
    let R = λ (job after : JobRecord). after ≡ silenced_job s now job in
    cond_both (any_silent s now) (without_silent s now) s
    (λ (t : State). Turns R (λ job. ⊥) (λ job. ⊥) s.jobs t.jobs)
    (λ is. turns_map R (λ job. ⊥) (λ job. ⊥) (after_loss now (silent_at s now)) s.jobs (λ job. rw is refl))
    (λ not. turns_itself R (λ job. ⊥) (λ job. ⊥) s.jobs (λ job. rw not refl))

found-turns : (s : State) (now : ℕ)
    → Turns (λ (job after : JobRecord). after ≡ found_by_pass s now job) (λ job. ⊥) (λ job. ⊥) s.jobs
    (map (timed_out now) (silenced s now).jobs)
found-turns s now =
    let None_ = λ (job : JobRecord). ⊥ in
    let One = λ (job after : JobRecord). after ≡ silenced_job s now job in
    let Two = λ (job after : JobRecord). after ≡ timed_out now job in
    turns_on (λ (job after : JobRecord). after ≡ found_by_pass s now job) One Two None_ None_ None_ None_
    s.jobs (silenced s now).jobs (map (timed_out now) (silenced s now).jobs)
    (λ x y z one two. two ∙ ap (timed_out now) one) (λ x never. never) (λ x y one never. never)
    (silence-turns s now)
    (turns_map Two None_ None_ (timed_out now) (silenced s now).jobs (λ job. refl))

-- what is left of the jobs, as the pass found them
pub left_turns : (s : State) (now : ℕ)
    → Turns (λ (job after : JobRecord). after ≡ found_by_pass s now job) (HasGone s now Pass) (λ job. ⊥) s.jobs
    (jobs_left (silenced s now) now)
left_turns s now =
    let t = silenced s now in
    let None_ = λ (job : JobRecord). ⊥ in
    let Found = λ (job after : JobRecord). after ≡ found_by_pass s now job in
    let Same = λ (job after : JobRecord). after ≡ job in
    let Out = λ (job : JobRecord). goes t now job ≡ true in
    turns_on Found Found Same (HasGone s now Pass) None_ Out None_ s.jobs (map (timed_out now) t.jobs) (jobs_left t now)
    (λ x y z one two. two ∙ one) (λ x never. absurd never)
    (λ x y one out. gone_was_old s now x (subst (λ (job : JobRecord). goes t now job ≡ true) one out))
    (found-turns s now)
    (turns_filter Same Out None_ (λ job. not (goes t now job)) (map (timed_out now) t.jobs) (λ job. refl)
    (λ job out. not-false (goes t now job) out))

found-id : (s : State) (now : ℕ) (job : JobRecord) → (found_by_pass s now job).id ≡ job.id
found-id s now job =
    let lost = silenced_job s now job in
    let over : (timed_out now lost).id ≡ lost.id =
    cond_both (is_over now lost) (changed (Leave final.Timeout now None) lost) lost (SameId lost)
    (λ is. (leave_goes final.Timeout now None lost).id) (λ not. refl) in
    over ∙ cond_both (any_silent s now) (after_loss now (silent_at s now) job) job (SameId job)
    (λ is. (loss_goes now (silent_at s now) job).id) (λ not. refl)

pass-turns : (s : State) (now : ℕ) (user : List ℕ) → JobsTurn s now user Pass (after_pass s now).jobs
pass-turns s now user =
    let t = silenced s now in
    let None_ = λ (job : JobRecord). ⊥ in
    let Found = λ (job after : JobRecord). after ≡ found_by_pass s now job in
    let begun = (outcome t now).jobs in
    let gone = victims_in t now in
    turns_on (Becomes s now user Pass) SameId SameId (HasGone s now Pass) (HasGone s now Pass) None_ (IsNew s) s.jobs begun
    (after_pass s now).jobs (λ x y z one two. Passed (two ∙ one)) (λ x out. out) (λ x y one never. absurd never)
    (turns_on SameId Found SameId (HasGone s now Pass) (HasGone s now Pass) None_ None_ s.jobs (jobs_left t now) begun
    (λ x y z one two. two ∙ ap (λ (job : JobRecord). job.id) one ∙ found-id s now x) (λ x out. out)
    (λ x y one never. absurd never) (left_turns s now)
    (start-turns None_ None_ t now (jobs_left t now) (placements t now)))
    (turns_map SameId None_ (IsNew s) (preempted now gone) begun (gone-id now gone))

-- ---- every request

turns-by : (s : State) (now : ℕ) (user : List ℕ) (request : Request) (after : State) → MayMake s now user request after
    → JobsTurn s now user request after.jobs
turns-by s now user request after (BySubmit desc basis found) =
    turns_append _ _ (IsNew s) s.jobs (new_jobs s now user desc basis desc.array) (λ job. Same)
    (jobs_new s now user desc basis desc.array)
turns-by s now user request after (ByAction action named asks) =
    turns_map _ _ (IsNew s) (done_if s now user action named) s.jobs (λ job. Acted action named asks)
turns-by s now user request after (ByUpdateNode nodes order) =
    turns_map _ _ (IsNew s) (after_loss now (lost_by s.nodes nodes order)) s.jobs (λ job. Lost nodes order)
turns-by s now user request after (ByReport report node found) = report-turns s now user report node
turns-by s now user request after ByPass = pass-turns s now user
turns-by s now user request after (ByReconfigure conf bytes) =
    turns_map _ _ (IsNew s) (job_moved s conf) s.jobs (λ job. Moved conf bytes)
turns-by s now user request after other = turns_itself _ _ (IsNew s) s.jobs (λ job. Same)

-- What a step does to jobs: nothing, or what its request makes of each.
pub step_turns : (s : State) (now : ℕ) (user : List ℕ) (request : Request)
    → JobsTurn s (raised s now) user request (state_after s now user request).jobs
step_turns s now user request =
    let moment = raised s now in
    step_is (λ (t : State). JobsTurn s moment user request t.jobs) s now user request
    (turns_itself (Becomes s moment user request) (HasGone s moment request) (IsNew s) s.jobs (λ job. Same))
    (λ reply after is. turns-by s moment user request after is.kind)
