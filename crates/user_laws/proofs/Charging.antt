-- No step changes what an association has used at its moment: whoever leaves Running is charged just that.
use Rattle.std.proofs.Common.{ℕ, ◌≡◌, ◌≤◌, ◌<◌, ◌+◌, ◌-◌, ◌*◌, ◌∙◌, min, Bool, true, false, ◌&&◌, not, cond, List, [], ◌∷◌, map, length, None, refl, sym, ap, arith, nat_eq, slice_get}
use Rattle.std.specs.Prelude.{unwrap_or}
use Rattle.std.specs.List.{list_any}
use Rattle.std.proofs.Math.Nat.{mul-zero, sub_self}
use Rattle.std.proofs.lemmas.Bool.{and_parts, cond_both, not-false}
use Rattle.std.proofs.lemmas.List.Elements.{All-head, All-weaker}
use Rattle.plain_data.specs.Confs.{ConfView}
use Rattle.plain_data.specs.declared.job.JobDesc.{JobDesc}
use Rattle.backfill_planner.specs.declared.Placed.{Placed}
use Rattle.request_data.specs.declared.report.Report.{Report as Told}
use Rattle.request_data.specs.declared.request.Request.{Request}
use Rattle.request_data.specs.declared.state.Final.TheVariants as final
use Rattle.job_table.specs.declared.record.JobRecord.{JobRecord}
use Rattle.job_table.specs.declared.record.Part.{Part}
use Rattle.job_table.specs.declared.change.Change.TheVariants.{Leave, Start}
use Rattle.job_table.specs.Changes.{changed}
use Rattle.job_table.specs.JobStates.{is_ended, is_pending, is_running}
use Rattle.job_table.specs.Table.{has_id, is_old}
use Rattle.job_table.specs.Usage.{cpus_held, greatest_usage, used_by}
use Rattle.ctl_state.specs.Events.{become, started_as}
use Rattle.ctl_state.specs.Soundness.{IsSound}
use Rattle.ctl_state.specs.State.{State, last_moment}
use Rattle.ctl_state.specs.Verdicts.{stamped}
use Rattle.ctl_waiting.specs.Usage.{running_usage, usage_at, used_running}
use Rattle.ctl_jobs.specs.Changing.{done_if}
use Rattle.ctl_nodes.specs.Failing.{after_loss, lost_after}
use Rattle.ctl_nodes.specs.Updating.{lost_by}
use Rattle.ctl_pass.specs.Limits.{is_over, timed_out}
use Rattle.ctl_pass.specs.Passing.{begun_in}
use Rattle.ctl_pass.specs.Preempting.{preempted, victims_in}
use Rattle.ctl_pass.specs.Readiness.{goes, jobs_left, placements}
use Rattle.ctl_pass.specs.Starting.{Started, begun, may_start, start_of, started}
use Rattle.ctl_node_side.specs.Answering.{is_restarted}
use Rattle.ctl_node_side.specs.Passes.{after_pass}
use Rattle.ctl_node_side.specs.Reporting.{report_after, reported}
use Rattle.ctl_node_side.specs.Restarting.{met}
use Rattle.ctl_node_side.specs.Silence.{any_silent, silent_at, silenced, without_silent}
use Rattle.ctl_jobs.specs.Submission.{Basis, new_arrays, new_jobs, submit_after}
use Rattle.ctl_reconfigure.specs.Reconfiguring.{job_after as job_moved, reconfigured}
use Rattle.ctl_core.specs.Step.{raised, state_after}
use Rattle.step_lemmas.proofs.Making.{ByAction, ByPass, ByReconfigure, ByReport, BySubmit, ByUpdateNode, MayMake}
use Rattle.step_lemmas.proofs.Steps.{step_is}
use Rattle.user_laws.specs.Using.{cpus_run_by}
use Rattle.user_laws.proofs.Changes.{GoesOn, done_if_goes, goes_itself, leave_goes, loss_goes, moved_cpus, report_goes}
use Rattle.user_laws.proofs.Starting.{Passes, pass_may}
use Rattle.user_laws.proofs.States.{ended_still, waits_still}
use Rattle.user_laws.proofs.Turning.{jobs_new, IsNew}
use Rattle.user_laws.proofs.Using.{append_same, charged_same, filter_same, grows_in_time, map_goes_on, map_same, shown, still_uses, usage_is, usage_of, uses}
use Rattle.daemon_world.proofs.Starting.{Waits, MayStart, may_start_later, may_start_on}

-- each association has used as much at the moment
abbrev IsUsed : ℕ → State → State → Type 0
IsUsed now s after = (place : ℕ) → usage_of now place after.usage after.jobs ≡ usage_of now place s.usage s.jobs

used-itself : (now : ℕ) (s : State) → IsUsed now s s
used-itself now s = λ place. refl

-- the jobs go on, and whoever leaves Running is charged
become-used : (now : ℕ) (f : JobRecord → JobRecord) (s : State) → ((job : JobRecord) → GoesOn job (f job))
    → IsUsed now s (become now (map f s.jobs) s)
become-used now f s each =
    λ place. charged_same now place s.usage s.jobs (map f s.jobs) (map_goes_on f s.jobs each)

-- other jobs with the same totals that use as much
same-used : (now : ℕ) (s after : State) → after.usage ≡ s.usage
    → ((place : ℕ) → running_usage now after.jobs place ≡ running_usage now s.jobs place) → IsUsed now s after
same-used now s after totals same = λ place.
    ap (λ (n : ℕ). shown n (slice_get after.usage place)) (same place)
    ∙ ap (λ (all : List ℕ). shown (running_usage now s.jobs place) (slice_get all place)) totals

used-on : (now : ℕ) (s middle after : State) → IsUsed now s middle → IsUsed now middle after → IsUsed now s after
used-on now s middle after one two = λ place. two place ∙ one place

-- ---- each request

submit-used : (s : State) (now : ℕ) (user : List ℕ) (desc : JobDesc) (basis : Basis)
    → IsUsed now s (submit_after s (new_jobs s now user desc basis desc.array) (new_arrays s desc.array))
submit-used s now user desc basis =
    let new = new_jobs s now user desc basis desc.array in
    λ place. ap (λ (n : ℕ). shown n (slice_get s.usage place))
    (append_same now place s.jobs new
    (All-weaker (IsNew s) (λ (job : JobRecord). is_running job.state ≡ false)
    (λ job is. waits_still job.state is.waits) new (jobs_new s now user desc basis desc.array)))

-- jobs whose nodes are at other places hold what they held
moved-used : (s : State) (now : ℕ) (conf : ConfView) → IsUsed now s (reconfigured s now conf)
unfolding used_running used_by
moved-used s now conf =
    same-used now s (reconfigured s now conf) refl
    (λ place. map_same now place (λ (job : JobRecord). Unit {0}) (job_moved s conf) s.jobs (λ k d below. tt)
    (λ job any. ap (λ (held : ℕ).
    cond (nat_eq job.assoc place) (cond (is_running job.state) (held * (now - unwrap_or job.started 0)) 0) 0)
    (moved_cpus s conf job.parts)))

met-used : (s : State) (now node : ℕ) (report : Told) → IsUsed now s (met s now node report)
met-used s now node report =
    cond_both (is_restarted s report) (stamped now (lost_after s now (nat_eq node))) s (IsUsed now s)
    (λ is. become-used now (after_loss now (nat_eq node)) s (loss_goes now (nat_eq node))) (λ not. used-itself now s)

report-used : (s : State) (now node : ℕ) (report : Told) → IsUsed now s (report_after (met s now node report) now node report)
report-used s now node report =
    let t = met s now node report in
    used-on now s t (become now (map (reported now node report) t.jobs) t) (met-used s now node report)
    (become-used now (reported now node report) t (report_goes now node report))

-- ---- a pass

silence-used : (s : State) (now : ℕ) → IsUsed now s (silenced s now)
silence-used s now =
    cond_both (any_silent s now) (without_silent s now) s (IsUsed now s)
    (λ is. become-used now (after_loss now (silent_at s now)) s (loss_goes now (silent_at s now)))
    (λ not. used-itself now s)

over-goes : (now : ℕ) (job : JobRecord) → GoesOn job (timed_out now job)
over-goes now job =
    cond_both (is_over now job) (changed (Leave final.Timeout now None) job) job (GoesOn job)
    (λ over. leave_goes final.Timeout now None job) (λ not. goes_itself job)

gone-goes : (now : ℕ) (gone : List ℕ) (job : JobRecord) → GoesOn job (preempted now gone job)
gone-goes now gone job =
    cond_both (list_any (λ id. has_id id job) gone) (changed (Leave final.Requeue now None) job) job (GoesOn job)
    (λ goes. leave_goes final.Requeue now None job) (λ not. goes_itself job)

gone-still : (s : State) (now : ℕ) (job : JobRecord) → not (goes s now job) ≡ false → is_running job.state ≡ false
gone-still s now job out =
    let old = (and_parts (is_old s.settings.min_job_age now job) _ (not-false (goes s now job) out)).0 in
    ended_still job.state (and_parts (is_ended job.state) _ old).0

left-used : (s : State) (now place : ℕ)
    → running_usage now (jobs_left s now) place ≡ running_usage now (map (timed_out now) s.jobs) place
left-used s now place =
    filter_same now place (λ job. not (goes s now job)) (map (timed_out now) s.jobs) (gone-still s now)

-- who starts now has used nothing yet
start-uses : (now place : ℕ) (parts : List Part) (names : List (List ℕ)) (job : JobRecord)
    → uses now place (changed (Start now parts names) job) ≡ 0
unfolding used_running used_by
start-uses now place parts names job =
    let after = changed (Start now parts names) job in
    none (nat_eq job.assoc place) (cpus_held after * (now - now))
    (ap (λ (n : ℕ). cpus_held after * n) (sub_self now) ∙ mul-zero (cpus_held after))
  where
    none : (same : Bool) (n : ℕ) → n ≡ 0 → cond same n 0 ≡ 0
    none false n is = refl
    none true n is = is

starts-used : (s : State) (now : ℕ) (jobs : List JobRecord) (plan : List Placed) (place : ℕ) → MayStart jobs plan
    → running_usage now (started s now jobs plan).jobs place ≡ running_usage now jobs place
unfolding started
starts-used s now jobs [] place may = refl
starts-used s now jobs (placed ∷ later) place may =
    let start = start_of s.nodes jobs placed in
    let waits = All-head (λ (placed : Placed). Waits jobs placed.id) placed later may.wait in
    cond_both (nat_eq placed.start now && may_start s jobs placed.id) _ _
    (λ (after : Started). running_usage now after.jobs place ≡ running_usage now jobs place)
    (λ starts. starts-used s now (begun now jobs start) later place
    (may_start_on now jobs start placed later refl may)
    ∙ map_same now place (λ (job : JobRecord). has_id placed.id job ≡ true → is_pending job.state ≡ true)
    (started_as now placed.id start.parts start.nodes) jobs waits
    (λ job wait. cond_both (has_id placed.id job) (changed (Start now start.parts start.nodes) job) job
    (λ (after : JobRecord). uses now place after ≡ uses now place job)
    (λ is. start-uses now place start.parts start.nodes job
    ∙ sym (still_uses now place job (waits_still job.state (wait is))))
    (λ not. refl)))
    (λ stays. starts-used s now jobs later place (may_start_later jobs placed later may))

pass-used : Passes → (s : State) (now : ℕ) → IsSound s → s.moment ≤ now → now ≤ last_moment
    → IsUsed now s (after_pass s now)
pass-used passes s now sound later in_time =
    let t = silenced s now in
    let over = become now (map (timed_out now) t.jobs) t in
    let begun = begun_in t now in
    let gone = victims_in t now in
    let may = pass_may passes s now sound later in_time in
    used-on now s t (after_pass s now) (silence-used s now)
    (used-on now t over (after_pass s now) (become-used now (timed_out now) t (over-goes now))
    (used-on now over begun (after_pass s now)
    (same-used now over begun refl
    (λ place. starts-used t now (jobs_left t now) (placements t now) place may ∙ left-used t now place))
    (become-used now (preempted now gone) begun (gone-goes now gone))))

-- ---- every request

used-by : Passes → (s : State) (now : ℕ) (user : List ℕ) (request : Request) (after : State) → IsSound s
    → s.moment ≤ now → now ≤ last_moment → MayMake s now user request after → IsUsed now s after
used-by passes s now user request after sound later in_time (BySubmit desc basis found) =
    submit-used s now user desc basis
used-by passes s now user request after sound later in_time (ByAction action named asks) =
    become-used now (done_if s now user action named) s (done_if_goes s now user action named)
used-by passes s now user request after sound later in_time (ByUpdateNode nodes order) =
    become-used now (after_loss now (lost_by s.nodes nodes order)) s (loss_goes now (lost_by s.nodes nodes order))
used-by passes s now user request after sound later in_time (ByReport report node found) = report-used s now node report
used-by passes s now user request after sound later in_time ByPass = pass-used passes s now sound later in_time
used-by passes s now user request after sound later in_time (ByReconfigure conf bytes) = moved-used s now conf
used-by passes s now user request after sound later in_time other = used-itself now s

-- A step leaves what each association has used at its moment.
pub step_used : Passes → (s : State) (now : ℕ) (user : List ℕ) (request : Request) (place : ℕ) → IsSound s
    → usage_at (state_after s now user request) (raised s now) place ≡ usage_at s (raised s now) place
step_used passes s now user request place sound =
    let moment = raised s now in
    let used = step_is (IsUsed moment s) s now user request (used-itself moment s)
    (λ reply after is. used-by passes s moment user request after sound (omega arith)
    (omega (arith, sound.moment, is.in_time)) is.kind) in
    usage_is (state_after s now user request) moment place ∙ used place ∙ sym (usage_is s moment place)

-- From the state's moment to the step's it has grown by what ran.
pub step_grows : Passes → (s : State) (now : ℕ) (user : List ℕ) (request : Request) (place : ℕ) → IsSound s
    → place < length s.assocs
    → usage_at (state_after s now user request) (raised s now) place
    ≡ min (usage_at s s.moment place + (raised s now - s.moment) * cpus_run_by s place) greatest_usage
step_grows passes s now user request place sound below =
    let later : raised s now ≡ s.moment + (raised s now - s.moment) = omega arith in
    step_used passes s now user request place sound
    ∙ ap (λ (moment : ℕ). usage_at s moment place) later
    ∙ grows_in_time s s.moment (raised s now - s.moment) place sound (omega arith) below
