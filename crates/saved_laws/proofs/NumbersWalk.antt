-- What each request makes of the numbers of jobs and arrays.
use Rattle.std.proofs.Common.{ℕ, ◌≡◌, ◌∙◌, ◌+◌, ◌<◌, ◌≤◌, Bool, true, false, ◌&&◌, not, List, [], ◌∷◌, ◌++◌, map, drop, length, zero, suc, All, Option, Some, None, IfSome, nat_eq, refl, ap, sym, subst, arith}
use Rattle.std.specs.Prelude.{is_none, nat_lt, option_and_then}
use Rattle.std.specs.List.{enumerate_from}
use Rattle.std.proofs.lemmas.Bool.{cond_both, ltb-false}
use Rattle.std.proofs.lemmas.List.{length-map, map-append}
use Rattle.std.proofs.lemmas.List.Elements.{All-map}
use Rattle.std.proofs.lemmas.List.FromFn.{length-enumerate_from}
use Rattle.plain_data.specs.declared.array.ArraySpec.{ArraySpec}
use Rattle.plain_data.specs.declared.job.JobDesc.{JobDesc}
use Rattle.backfill_planner.specs.declared.Placed.{Placed}
use Rattle.reply_data.specs.declared.refusal.Refusal.{Refusal}
use Rattle.reply_data.specs.declared.refusal.Refusal.TheVariants.{JobIdsSpent, JobTableFull}
use Rattle.run_limits.specs.Submitting.{submit_limits}
use Rattle.request_data.specs.declared.report.Report.{Report as Told}
use Rattle.request_data.specs.declared.request.Request.{Request}
use Rattle.job_table.specs.declared.record.JobRecord.{JobRecord}
use Rattle.ctl_state.specs.Events.{started_as}
use Rattle.ctl_state.specs.Counted.{counted_of}
use Rattle.ctl_state.specs.Refusals.{first_refusal, refused_if}
use Rattle.ctl_state.specs.Soundness.{IsSound}
use Rattle.ctl_state.specs.State.{State, last_job_id}
use Rattle.ctl_jobs.specs.Submission.{Basis, at_once_of, basis_of, beside_unended, count_of_jobs, lone_job, new_arrays, new_jobs, refusals_by, refusals_of_room, refusals_under, submit_refusals, task}
use Rattle.ctl_jobs.specs.declared.action.Action.{Action}
use Rattle.ctl_jobs.specs.Changing.{done_if}
use Rattle.ctl_nodes.specs.Failing.{after_loss}
use Rattle.ctl_nodes.specs.Updating.{lost_by}
use Rattle.ctl_pass.specs.Limits.{timed_out}
use Rattle.ctl_pass.specs.Passing.{outcome}
use Rattle.ctl_pass.specs.Preempting.{preempted, victims_in}
use Rattle.ctl_pass.specs.Readiness.{arrays_left, goes as is_gone, jobs_left, placements}
use Rattle.ctl_pass.specs.Starting.{Started, begun, may_start, start_of, started}
use Rattle.ctl_node_side.specs.Answering.{is_restarted}
use Rattle.ctl_node_side.specs.Reporting.{reported}
use Rattle.ctl_node_side.specs.Restarting.{met}
use Rattle.ctl_node_side.specs.Silence.{any_silent, silent_at, silenced}
use Rattle.ctl_reconfigure.specs.Reconfiguring.{job_after as job_moved}
use Rattle.ctl_core.specs.Step.{refusals_of}
use Rattle.step_lemmas.proofs.Making.{ByAction, ByPass, ByReconfigure, ByReport, BySubmit, ByUpdateNode, MayMake}
use Rattle.saved_laws.specs.Kept.{AreIndices, IsInTypes, Numbers, numbers_of}
use Rattle.saved_laws.proofs.NamesKept.{fixed_stays, numbers_fixed}
use Rattle.saved_laws.proofs.NumbersKept.{AreFew, array_added, lone_added, numbers_at, thinned}
use Rattle.saved_laws.proofs.Walks.{StaysTrue, done_if_true, loss_true, preempted_true, reported_true, started_true, timed_true}

-- the jobs of the state are few, and its arrays those of which there are tasks
abbrev pub Numbered : ℕ → State → Type 0
Numbered limit s = AreFew limit s.next_id s.arrays (map numbers_of s.jobs)

-- ---- walks leave the numbers

has-numbers : (job : JobRecord) → StaysTrue (λ (one : JobRecord). numbers_of one ≡ numbers_of job)
has-numbers job =
    fixed_stays (λ (one : JobRecord). numbers_of one ≡ numbers_of job) (numbers_fixed (numbers_of job))

same-numbers : (f : JobRecord → JobRecord) → ((job : JobRecord) → numbers_of (f job) ≡ numbers_of job)
    → (jobs : List JobRecord) → map numbers_of (map f jobs) ≡ map numbers_of jobs
same-numbers f each [] = refl
same-numbers f each (job ∷ jobs) =
    ap (λ one. one ∷ map numbers_of (map f jobs)) (each job)
    ∙ ap (λ later. numbers_of job ∷ later) (same-numbers f each jobs)

done-numbers : (s : State) (now : ℕ) (user : List ℕ) (action : Action) (named : JobRecord → Bool) (jobs : List JobRecord)
    → map numbers_of (map (done_if s now user action named) jobs) ≡ map numbers_of jobs
done-numbers s now user action named jobs =
    same-numbers (done_if s now user action named)
    (λ job. done_if_true (λ (one : JobRecord). numbers_of one ≡ numbers_of job) (has-numbers job) s now user action named job refl)
    jobs

loss-numbers : (now : ℕ) (lost : ℕ → Bool) (jobs : List JobRecord)
    → map numbers_of (map (after_loss now lost) jobs) ≡ map numbers_of jobs
loss-numbers now lost jobs =
    same-numbers (after_loss now lost)
    (λ job. loss_true (λ (one : JobRecord). numbers_of one ≡ numbers_of job) (has-numbers job) now lost job refl) jobs

reported-numbers : (now node : ℕ) (report : Told) (jobs : List JobRecord)
    → map numbers_of (map (reported now node report) jobs) ≡ map numbers_of jobs
reported-numbers now node report jobs =
    same-numbers (reported now node report)
    (λ job. reported_true (λ (one : JobRecord). numbers_of one ≡ numbers_of job) (has-numbers job) now node report job refl) jobs

timed-numbers : (now : ℕ) (jobs : List JobRecord) → map numbers_of (map (timed_out now) jobs) ≡ map numbers_of jobs
timed-numbers now jobs =
    same-numbers (timed_out now)
    (λ job. timed_true (λ (one : JobRecord). numbers_of one ≡ numbers_of job) (has-numbers job) now job refl) jobs

started-numbers : (s : State) (now : ℕ) (jobs : List JobRecord) (plan : List Placed)
    → map numbers_of (started s now jobs plan).jobs ≡ map numbers_of jobs
unfolding started
started-numbers s now jobs [] = refl
started-numbers s now jobs (placed ∷ later) =
    let start = start_of s.nodes jobs placed in
    cond_both (nat_eq placed.start now && may_start s jobs placed.id) _ _
    (λ (out : Started). map numbers_of out.jobs ≡ map numbers_of jobs)
    (λ starts. started-numbers s now (begun now jobs start) later
    ∙ same-numbers (λ (job : JobRecord). started_as now start.id start.parts start.nodes job)
    (λ job. started_true (λ (one : JobRecord). numbers_of one ≡ numbers_of job) (has-numbers job) now start.id start.parts
    start.nodes job refl) jobs)
    (λ stays. started-numbers s now jobs later)

gone-numbers : (now : ℕ) (gone : List ℕ) (jobs : List JobRecord)
    → map numbers_of (map (preempted now gone) jobs) ≡ map numbers_of jobs
gone-numbers now gone jobs =
    same-numbers (λ (job : JobRecord). preempted now gone job)
    (λ job. preempted_true (λ (one : JobRecord). numbers_of one ≡ numbers_of job) (has-numbers job) now gone job refl) jobs

-- ---- what each request makes

met-numbered : (limit : ℕ) (s : State) (now node : ℕ) (report : Told) → Numbered limit s
    → Numbered limit (met s now node report)
met-numbered limit s now node report few =
    cond_both (is_restarted s report) _ s (Numbered limit)
    (λ restarted. subst (AreFew limit s.next_id s.arrays) (sym (loss-numbers now (nat_eq node) s.jobs)) few) (λ not. few)

silenced-numbered : (limit : ℕ) (s : State) (now : ℕ) → Numbered limit s → Numbered limit (silenced s now)
silenced-numbered limit s now few =
    cond_both (any_silent s now) _ s (Numbered limit)
    (λ some. subst (AreFew limit s.next_id s.arrays) (sym (loss-numbers now (silent_at s now) s.jobs)) few) (λ none. few)

-- ---- a submission has room

pub passed : (one : Option Refusal) (later : List (Option Refusal)) → first_refusal (one ∷ later) ≡ None
    → (one ≡ None) × (first_refusal later ≡ None)
passed None later is = (refl, is)
passed (Some refusal) later is = absurd (cc)

passed-all : (ones later : List (Option Refusal)) → first_refusal (ones ++ later) ≡ None → first_refusal later ≡ None
passed-all [] later is = is
passed-all (one ∷ ones) later is = passed-all ones later (passed one (ones ++ later) is).1

pub later-none : (n : ℕ) (refusals : List (Option Refusal)) → first_refusal refusals ≡ None
    → first_refusal (drop n refusals) ≡ None
later-none zero refusals is = is
later-none (suc n) [] is = refl
later-none (suc n) (one ∷ later) is = later-none n later (passed one later is).1

pub not-refused : (stands : Bool) (refusal : Refusal) → refused_if stands refusal ≡ None → stands ≡ false
not-refused true refusal is = absurd (cc)
not-refused false refusal is = refl

-- there is room for its jobs
has-room : (s : State) (moment : ℕ) (user : List ℕ) (desc : JobDesc) (basis : Basis) → basis_of s user desc ≡ Some basis
    → first_refusal (submit_refusals s moment user desc) ≡ None
    → length s.jobs + count_of_jobs desc.array ≤ s.settings.max_job_count
has-room s moment user desc basis is none =
    let count = count_of_jobs desc.array in
    let based : first_refusal (refusals_by s moment user desc (basis_of s user desc)) ≡ None =
    later-none 4 (submit_refusals s moment user desc) none in
    let under : first_refusal (refusals_under s moment user desc basis) ≡ None =
    subst (λ basis. first_refusal (refusals_by s moment user desc basis) ≡ None) is based in
    let limits = submit_limits (beside_unended s) (counted_of (lone_job s moment user desc basis)) count in
    let counted : first_refusal (limits ++ refusals_of_room s count) ≡ None =
    later-none 7 (refusals_under s moment user desc basis) under in
    let room = passed-all limits (refusals_of_room s count) counted in
    let full = nat_lt s.settings.max_job_count (length s.jobs + count) in
    let table = passed (refused_if full JobTableFull)
    (refused_if (nat_lt (last_job_id + 1) (s.next_id + count)) JobIdsSpent ∷ []) room in
    ltb-false s.settings.max_job_count (length s.jobs + count) (not-refused full JobTableFull table.0)

-- ---- its jobs

tasks-numbers : (s : State) (moment : ℕ) (user : List ℕ) (desc : JobDesc) (basis : Basis) (ones : List (ℕ × ℕ))
    → map numbers_of (map (task s moment user desc basis) ones) ≡ map (numbers_at s.next_id (at_once_of desc)) ones
tasks-numbers s moment user desc basis [] = refl
tasks-numbers s moment user desc basis (one ∷ ones) =
    ap (λ later. numbers_at s.next_id (at_once_of desc) one ∷ later) (tasks-numbers s moment user desc basis ones)

-- the numbers after a submission of this array, or none
submitted : (limit : ℕ) (s : State) (moment : ℕ) (user : List ℕ) (desc : JobDesc) (basis : Basis) (array : Option ArraySpec)
    → desc.array ≡ array → Numbered limit s → All (λ (job : JobRecord). job.id < s.next_id) s.jobs
    → IfSome array (λ (array : ArraySpec). AreIndices array.indices)
    → length s.jobs + count_of_jobs array ≤ limit
    → AreFew limit (s.next_id + length (new_jobs s moment user desc basis array)) (s.arrays ++ new_arrays s array)
    (map numbers_of (s.jobs ++ new_jobs s moment user desc basis array))
unfolding new_jobs
submitted limit s moment user desc basis None is few below types room =
    let job = lone_job s moment user desc basis in
    subst (AreFew limit (s.next_id + 1) (s.arrays ++ [])) (sym (map-append numbers_of s.jobs (job ∷ [])))
    (lone_added limit s.next_id s.arrays (map numbers_of s.jobs) (numbers_of job) few
    (All-map (λ (job : Numbers). job.id < s.next_id) numbers_of s.jobs below) refl
    (record { array = refl; index = refl; at_once = alone desc is }) (omega (arith, room, length-map s.jobs numbers_of)))
  where
    alone : (desc : JobDesc) → desc.array ≡ None → is_none (at_once_of desc) ≡ true
    alone desc is = ap (λ (found : Option ArraySpec). is_none (option_and_then (λ (array : ArraySpec). array.most) found)) is
submitted limit s moment user desc basis (Some array) is few below types room =
    let new = map (task s moment user desc basis) (enumerate_from 0 array.indices) in
    let long : length new ≡ length array.indices =
    length-map (enumerate_from 0 array.indices) (task s moment user desc basis)
    ∙ length-enumerate_from 0 array.indices in
    let numbers : map numbers_of (s.jobs ++ new)
    ≡ map numbers_of s.jobs ++ map (numbers_at s.next_id (at_once_of desc)) (enumerate_from 0 array.indices) =
    map-append numbers_of s.jobs new
    ∙ ap (λ later. map numbers_of s.jobs ++ later) (tasks-numbers s moment user desc basis (enumerate_from 0 array.indices)) in
    subst (AreFew limit (s.next_id + length new) (s.arrays ++ record { id = s.next_id; indices = array.indices } ∷ [])) (sym numbers)
    (subst (λ count. AreFew limit (s.next_id + count) (s.arrays ++ record { id = s.next_id; indices = array.indices } ∷ [])
    (map numbers_of s.jobs ++ map (numbers_at s.next_id (at_once_of desc)) (enumerate_from 0 array.indices))) (sym long)
    (array_added limit s.next_id s.arrays (map numbers_of s.jobs) array.indices (at_once_of desc) few
    (All-map (λ (job : Numbers). job.id < s.next_id) numbers_of s.jobs below) types
    (omega (arith, room, length-map s.jobs numbers_of))))

-- ---- a pass

passed-over : (limit : ℕ) (s : State) (now : ℕ) → Numbered limit s
    → AreFew limit s.next_id (arrays_left (jobs_left s now) s.arrays)
    (map numbers_of (started s now (jobs_left s now) (placements s now)).jobs)
passed-over limit s now few =
    let timed : AreFew limit s.next_id s.arrays (map numbers_of (map (timed_out now) s.jobs)) =
    subst (AreFew limit s.next_id s.arrays) (sym (timed-numbers now s.jobs)) few in
    let left : AreFew limit s.next_id (arrays_left (jobs_left s now) s.arrays) (map numbers_of (jobs_left s now)) =
    thinned limit s.next_id s.arrays (map (timed_out now) s.jobs) (λ (job : JobRecord). not (is_gone s now job)) timed in
    subst (AreFew limit s.next_id (arrays_left (jobs_left s now) s.arrays))
    (sym (started-numbers s now (jobs_left s now) (placements s now))) left

pub made_numbered : (limit : ℕ) (s : State) (moment : ℕ) (user : List ℕ) (request : Request) (after : State)
    → IsSound s → s.settings.max_job_count ≤ limit → IsInTypes request → first_refusal (refusals_of s moment user request) ≡ None
    → Numbered limit s → MayMake s moment user request after → Numbered limit after
made_numbered limit s moment user request after sound most types none few (BySubmit desc basis found) =
    submitted limit s moment user desc basis desc.array refl few sound.below_next types
    (omega (arith, has-room s moment user desc basis found none, most))
made_numbered limit s moment user request after sound most types none few (ByAction action named asks) =
    subst (AreFew limit s.next_id s.arrays) (sym (done-numbers s moment user action named s.jobs)) few
made_numbered limit s moment user request after sound most types none few (ByUpdateNode names order) =
    subst (AreFew limit s.next_id s.arrays) (sym (loss-numbers moment (lost_by s.nodes names order) s.jobs)) few
made_numbered limit s moment user request after sound most types none few (ByReport report node found) =
    let t = met s moment node report in
    subst (AreFew limit t.next_id t.arrays) (sym (reported-numbers moment node report t.jobs))
    (met-numbered limit s moment node report few)
made_numbered limit s moment user request after sound most types none few ByPass =
    let t = silenced s moment in
    subst (AreFew limit t.next_id (arrays_left (jobs_left t moment) t.arrays))
    (sym (gone-numbers moment (victims_in t moment) (outcome t moment).jobs))
    (passed-over limit t moment (silenced-numbered limit s moment few))
made_numbered limit s moment user request after sound most types none few (ByReconfigure conf bytes) =
    subst (AreFew limit s.next_id s.arrays) (sym (same-numbers (job_moved s conf) (λ job. refl) s.jobs)) few
made_numbered limit s moment user request after sound most types none few kind = few
