-- Through every event a start of a job ends once, and then it is settled how.
use Rattle.std.proofs.Common.{ℕ, ◌≡◌, ◌≤◌, ◌+◌, Bool, true, false, ◌&&◌, not, List, [], ◌∷◌, map, All, Option, Some, None, refl, arith, inl, inr, ◌⊎◌, nat_eq}
use Rattle.std.specs.List.{enumerate_from}
use Rattle.std.proofs.lemmas.Bool.{both_ways, cond_both}
use Rattle.std.proofs.lemmas.List.Elements.{All-append, All-cons, All-filter, All-map, All-nil, All-weaker}
use Rattle.plain_data.specs.declared.array.ArraySpec.{ArraySpec}
use Rattle.plain_data.specs.Confs.{ConfView}
use Rattle.plain_data.specs.declared.job.JobDesc.{JobDesc}
use Rattle.request_data.specs.declared.report.Report.{Report as Told}
use Rattle.request_data.specs.declared.request.NodeOrder.{NodeOrder}
use Rattle.request_data.specs.declared.request.Request.{Request}
use Rattle.request_data.specs.declared.request.Request.TheVariants.{Pass}
use Rattle.job_table.specs.declared.record.JobRecord.{JobRecord}
use Rattle.job_table.specs.declared.record.Part.{Part}
use Rattle.job_table.specs.declared.change.Change.TheVariants.{Start}
use Rattle.job_table.specs.Changes.{changed}
use Rattle.job_table.specs.JobStates.{is_pending}
use Rattle.ctl_state.specs.Soundness.{IsSound}
use Rattle.ctl_state.specs.State.{State, last_moment}
use Rattle.ctl_state.specs.Verdicts.{stamped}
use Rattle.ctl_jobs.specs.declared.action.Action.{Action}
use Rattle.ctl_jobs.specs.Actions.{done_to}
use Rattle.ctl_jobs.specs.Changing.{change_after, done_if, may_do}
use Rattle.ctl_nodes.specs.Failing.{after_loss, lost_after}
use Rattle.ctl_nodes.specs.Updating.{lost_by, update_after}
use Rattle.ctl_pass.specs.Limits.{timed_out}
use Rattle.ctl_pass.specs.Passing.{outcome, pass_after}
use Rattle.ctl_pass.specs.Preempting.{preempted, victims_in}
use Rattle.ctl_pass.specs.Readiness.{goes as gone, jobs_left, placements, ready}
use Rattle.ctl_node_side.specs.Answering.{is_restarted}
use Rattle.ctl_node_side.specs.Reporting.{report_after, reported}
use Rattle.ctl_node_side.specs.Passes.{after_pass}
use Rattle.ctl_node_side.specs.Restarting.{met}
use Rattle.ctl_node_side.specs.Silence.{any_silent, silent_at, silenced, without_silent}
use Rattle.ctl_jobs.specs.Submission.{Basis, new_arrays, new_jobs, submit_after, task}
use Rattle.ctl_reconfigure.specs.Reconfiguring.{job_after, reconfigured}
use Rattle.ctl_core.specs.Sizes.{size_of}
use Rattle.ctl_core.specs.Step.{raised, state_after}
use Rattle.step_lemmas.proofs.Making.{ByAction, ByPass, ByReconfigure, ByReport, BySubmit, ByUpdateNode, MayMake}
use Rattle.step_lemmas.proofs.Steps.{step_is}
use Rattle.ctl_node_side.proofs.Silent.{silenced_raised}
use Rattle.daemon_world.proofs.Requests.{Passes, pass_may}
use Rattle.daemon_world.proofs.Settling.{Settles, done_settles, gone_settles, loss_settles, moved_settles, over_settles, report_settles, settles_itself}
use Rattle.daemon_world.proofs.Starting.{MayStart, starts_all}

-- What jobs may have that no event takes from them: it stays where a start is settled, comes to a new job, and to one
-- that starts once more.
pub record Lasts (s : State) (Q : JobRecord → Type 0) : Type 0 where
  pub settles : (job after : JobRecord) → Settles job after → Q job → Q after
  pub new : (job : JobRecord) → s.next_id ≤ job.id → job.starts ≡ 0 → Q job
  pub starts : (job : JobRecord) (now : ℕ) (parts : List Part) (names : List (List ℕ)) → is_pending job.state ≡ true
      → job.starts ≤ s.size → Q job → Q (changed (Start now parts names) job)

-- the state goes on: what lasts of the jobs lasts, and its size and next number don't fall
pub record Goes (s after : State) (Q : JobRecord → Type 0) : Type 0 where
  pub all : All Q after.jobs
  pub size : after.size ≡ s.size
  pub next : s.next_id ≤ after.next_id

-- ---- jobs that change

map-settles : (Q : JobRecord → Type 0) (change : JobRecord → JobRecord) (jobs : List JobRecord)
    → ((job after : JobRecord) → Settles job after → Q job → Q after)
    → ((job : JobRecord) → Settles job (change job)) → All Q jobs → All Q (map change jobs)
map-settles Q change jobs keeps each all =
    All-map Q change jobs
    (All-weaker Q (λ (job : JobRecord). Q (change job)) (λ job has. keeps job (change job) (each job) has) jobs all)

change-goes : (s : State) (Q : JobRecord → Type 0) → Lasts s Q → (now : ℕ) (user : List ℕ) (action : Action)
    (named : JobRecord → Bool) → All Q s.jobs → Goes s (change_after s now user action named) Q
change-goes s Q lasts now user action named all = record {
  all = map-settles Q (done_if s now user action named) s.jobs lasts.settles
      (λ job. cond_both (named job && may_do s user action job) (done_to now user action job) job (Settles job)
      (λ is. done_settles now user action job) (λ not. settles_itself job)) all;
  size = refl;
  next = omega arith;
}

update-goes : (s : State) (Q : JobRecord → Type 0) → Lasts s Q → (now : ℕ) (names : List (List ℕ)) (state : NodeOrder)
    → All Q s.jobs → Goes s (update_after s now names state) Q
update-goes s Q lasts now names state all = record {
  all = map-settles Q (after_loss now (lost_by s.nodes names state)) s.jobs lasts.settles
      (loss_settles now (lost_by s.nodes names state)) all;
  size = refl;
  next = omega arith;
}

loss-goes : (s : State) (Q : JobRecord → Type 0) → Lasts s Q → (now : ℕ) (lost : ℕ → Bool) → All Q s.jobs
    → All Q (map (after_loss now lost) s.jobs)
loss-goes s Q lasts now lost all =
    map-settles Q (after_loss now lost) s.jobs lasts.settles (loss_settles now lost) all

met-goes : (s : State) (Q : JobRecord → Type 0) → Lasts s Q → (now place : ℕ) (report : Told) → All Q s.jobs
    → Goes s (met s now place report) Q
met-goes s Q lasts now place report all =
    cond_both (is_restarted s report) (stamped now (lost_after s now (nat_eq place))) s (λ (t : State). Goes s t Q)
    (λ some. record { all = loss-goes s Q lasts now (nat_eq place) all; size = refl; next = omega arith })
    (λ none. record { all = all; size = refl; next = omega arith })

report-goes : (s : State) (Q : JobRecord → Type 0) → Lasts s Q → (now place : ℕ) (report : Told) → All Q s.jobs
    → Goes s (report_after (met s now place report) now place report) Q
report-goes s Q lasts now place report all =
    let came = met-goes s Q lasts now place report all in
    record {
      all = map-settles Q (reported now place report) (met s now place report).jobs lasts.settles
          (report_settles now place report) came.all;
      size = came.size;
      next = came.next;
    }

silence-goes : (s : State) (Q : JobRecord → Type 0) → Lasts s Q → (now : ℕ) → All Q s.jobs → Goes s (silenced s now) Q
silence-goes s Q lasts now all =
    cond_both (any_silent s now) (without_silent s now) s (λ (t : State). Goes s t Q)
    (λ some. record { all = loss-goes s Q lasts now (silent_at s now) all; size = refl; next = omega arith })
    (λ none. record { all = all; size = refl; next = omega arith })

reconfigured-goes : (s : State) (Q : JobRecord → Type 0) → Lasts s Q → (moment : ℕ) (conf : ConfView) → All Q s.jobs
    → Goes s (reconfigured s moment conf) Q
reconfigured-goes s Q lasts moment conf all = record {
  all = map-settles Q (job_after s conf) s.jobs lasts.settles
      (λ job. moved_settles (job_after s conf job).parts (job_after s conf job).partition job) all;
  size = refl;
  next = omega arith;
}

-- ---- starts

-- what lasts, and that a job that waits was started no more often than there is size
record MayGo (size : ℕ) (Q : JobRecord → Type 0) (job : JobRecord) : Type 0 where
  pub has : Q job
  pub few : is_pending job.state ≡ true → job.starts ≤ size

pass-goes : (s t : State) (Q : JobRecord → Type 0) → Lasts s Q → (now : ℕ) → t.size ≡ s.size → s.next_id ≤ t.next_id
    → MayStart (ready t now).jobs (placements t now) → All Q t.jobs
    → All (λ (job : JobRecord). job.starts ≤ s.size) t.jobs → Goes s (pass_after t now) Q
pass-goes s t Q lasts now size next may all few =
    let Few = λ (job : JobRecord). job.starts ≤ s.size in
    let Both = MayGo s.size Q in
    let stay : JobRecord → Bool = λ job. not (gone t now job) in
    let over = map (timed_out now) t.jobs in
    let left = All-filter stay Q over (map-settles Q (timed_out now) t.jobs lasts.settles (over_settles now) all) in
    let few_left = All-filter stay Few over
    (map-settles Few (timed_out now) t.jobs (λ job after settles fewer. omega (arith, settles.starts, fewer))
    (over_settles now) few) in
    let begin : All Both (jobs_left t now) = λ k d below. record {
      has = left k d below;
      few = λ waits. few_left k d below;
    } in
    let begun : All Q (outcome t now).jobs =
    All-weaker Both Q (λ job both. both.has) (outcome t now).jobs
    (starts_all Both t now (λ job parts names waits both. record {
      has = lasts.starts job now parts names waits (both.few waits) both.has;
      few = λ never. absurd (both_ways false refl never);
    }) (jobs_left t now) (placements t now) may begin) in
    record {
      all = map-settles Q (preempted now (victims_in t now)) (outcome t now).jobs lasts.settles
          (gone_settles now (victims_in t now)) begun;
      size = size;
      next = next;
    }

whole-pass-goes : Passes → (s : State) (Q : JobRecord → Type 0) → Lasts s Q → (now : ℕ) → IsSound s → s.moment ≤ now
    → now ≤ last_moment → All Q s.jobs → All (λ (job : JobRecord). job.starts ≤ s.size) s.jobs
    → Goes s (after_pass s now) Q
whole-pass-goes passes s Q lasts now sound raised in_time all few =
    let t = silenced s now in
    let sound' = passes.silence s now sound raised in_time in
    let went = silence-goes s Q lasts now all in
    let Few = λ (job : JobRecord). job.starts ≤ s.size in
    let few_left : All Few t.jobs =
    cond_both (any_silent s now) (without_silent s now) s (λ (t : State). All Few t.jobs)
    (λ some. map-settles Few (after_loss now (silent_at s now)) s.jobs
    (λ job after settles fewer. omega (arith, settles.starts, fewer)) (loss_settles now (silent_at s now)) few)
    (λ none. few) in
    pass-goes s t Q lasts now went.size went.next
    (pass_may passes t now sound' (silenced_raised s now raised) in_time) went.all few_left

-- ---- new jobs

-- they have the next numbers, and were never started
abbrev IsNew : State → JobRecord → Type 0
IsNew s job = (s.next_id ≤ job.id) × (job.starts ≡ 0)

tasks-new : (s : State) (now : ℕ) (user : List ℕ) (desc : JobDesc) (basis : Basis)
    (indices : List (ℕ × ℕ)) → All (IsNew s) (map (task s now user desc basis) indices)
tasks-new s now user desc basis [] = All-nil (IsNew s)
tasks-new s now user desc basis ((place, index) ∷ later) =
    All-cons (IsNew s) (task s now user desc basis (place, index)) (map (task s now user desc basis) later)
    (omega arith, refl) (tasks-new s now user desc basis later)

jobs-new : (s : State) (now : ℕ) (user : List ℕ) (desc : JobDesc) (basis : Basis) (array : Option ArraySpec)
    → All (IsNew s) (new_jobs s now user desc basis array)
unfolding new_jobs
jobs-new s now user desc basis None = All-cons (IsNew s) _ [] (omega arith, refl) (All-nil (IsNew s))
jobs-new s now user desc basis (Some array) =
    tasks-new s now user desc basis (enumerate_from 0 array.indices)

submit-goes : (s : State) (Q : JobRecord → Type 0) → Lasts s Q → (now : ℕ) (user : List ℕ) (desc : JobDesc)
    (basis : Basis) → All Q s.jobs
    → Goes s (submit_after s (new_jobs s now user desc basis desc.array) (new_arrays s desc.array)) Q
submit-goes s Q lasts now user desc basis all =
    let jobs = new_jobs s now user desc basis desc.array in
    record {
      all = All-append Q s.jobs jobs all
          (All-weaker (IsNew s) Q (λ job new. lasts.new job new.0 new.1) jobs
          (jobs-new s now user desc basis desc.array));
      size = refl;
      next = omega arith;
    }

-- ---- each request

goes-made : Passes → (s : State) (Q : JobRecord → Type 0) → Lasts s Q → (moment : ℕ) (user : List ℕ)
    (request : Request) (after : State) → IsSound s → s.moment ≤ moment → moment ≤ last_moment → All Q s.jobs
    → All (λ (job : JobRecord). job.starts ≤ s.size) s.jobs → MayMake s moment user request after → Goes s after Q
goes-made passes s Q lasts moment user request after sound later in_time all few (BySubmit desc basis found) =
    submit-goes s Q lasts moment user desc basis all
goes-made passes s Q lasts moment user request after sound later in_time all few (ByAction action named asks) =
    change-goes s Q lasts moment user action named all
goes-made passes s Q lasts moment user request after sound later in_time all few (ByUpdateNode nodes order) =
    update-goes s Q lasts moment nodes order all
goes-made passes s Q lasts moment user request after sound later in_time all few (ByReport report node found) =
    report-goes s Q lasts moment node report all
goes-made passes s Q lasts moment user request after sound later in_time all few ByPass =
    whole-pass-goes passes s Q lasts moment sound later in_time all few
goes-made passes s Q lasts moment user request after sound later in_time all few (ByReconfigure conf bytes) =
    reconfigured-goes s Q lasts moment conf all
goes-made passes s Q lasts moment user request after sound later in_time all few other =
    record { all = all; size = refl; next = omega arith }

-- the next state: what lasts lasts, and it has grown where an entry was made
pub record GoesOn (s after : State) (Q : JobRecord → Type 0) : Type 0 where
  pub all : All Q after.jobs
  pub size : (after.jobs ≡ s.jobs) ⊎ (s.size + 1 ≤ after.size)
  pub not_less : s.size ≤ after.size
  pub next : s.next_id ≤ after.next_id

sized : (request : Request) → 1 ≤ size_of request
sized Pass = omega arith
sized request = omega arith

pub step_goes : Passes → (s : State) (Q : JobRecord → Type 0) → Lasts s Q → (now : ℕ) (user : List ℕ)
    (request : Request) → IsSound s → All Q s.jobs → All (λ (job : JobRecord). job.starts ≤ s.size) s.jobs
    → GoesOn s (state_after s now user request) Q
step_goes passes s Q lasts now user request sound all few =
    step_is (λ (t : State). GoesOn s t Q) s now user request
    (record { all = all; size = inl refl; not_less = omega arith; next = omega arith })
    (λ reply after is.
    let went = goes-made passes s Q lasts (raised s now) user request after sound (omega arith)
    (omega (arith, sound.moment, is.in_time)) all few is.kind in
    record {
      all = went.all;
      size = inr (omega (arith, went.size, sized request));
      not_less = omega (arith, went.size);
      next = went.next;
    })
