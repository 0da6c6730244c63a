-- A submission whose jobs rank below leaves the plan of all others.
use Rattle.std.proofs.Common.{ℕ, ◌≡◌, ◌≤◌, ◌+◌, ◌*◌, ◌∙◌, Bool, true, false, not, List, [], ◌∷◌, ◌++◌, map, filter, All, Option, Some, None, length, take, if◌then◌else◌, refl, sym, ap, subst, inl, inr}
use Rattle.std.specs.Prelude.{flat_map}
use Rattle.std.specs.List.{list_any}
use Rattle.std.proofs.Math.Seq.{take-append_seam}
use Rattle.std.proofs.lemmas.Bool.{and_parts, both_ways, cases_Bool, cond_both, not-false}
use Rattle.std.proofs.lemmas.List.{append-nil, map-append}
use Rattle.std.proofs.lemmas.List.Concat.{flat_map-append}
use Rattle.std.proofs.lemmas.List.Elements.{All-append, All-head, All-tail, All-weaker}
use Rattle.plain_data.specs.declared.conf.Settings.{Settings}
use Rattle.plain_data.specs.declared.job.JobDesc.{JobDesc}
use Rattle.resource_profile.specs.declared.Hold.{Hold}
use Rattle.backfill_planner.specs.declared.job.PlanJob.{PlanJob}
use Rattle.backfill_planner.specs.Bases.{BaseView}
use Rattle.backfill_planner.specs.Plans.{plan_of}
use Rattle.reply_data.specs.declared.reply.Reply.{Reply}
use Rattle.request_data.specs.declared.request.Request.TheVariants.{Submit}
use Rattle.request_data.specs.declared.state.Final.TheVariants as final
use Rattle.request_data.specs.declared.state.JobState.{JobState}
use Rattle.request_data.specs.declared.state.JobState.TheVariants.{Pending, Running, Completing, Ended}
use Rattle.node_state.specs.declared.record.NodeRecord.{NodeRecord}
use Rattle.job_table.specs.declared.record.JobRecord.{JobRecord}
use Rattle.job_table.specs.declared.record.Part.{Part}
use Rattle.job_table.specs.declared.change.Change.TheVariants.{Leave}
use Rattle.job_table.specs.Changes.{changed}
use Rattle.job_table.specs.JobStates.{is_ended, is_holding, is_running}
use Rattle.job_table.specs.Table.{is_old}
use Rattle.ctl_state.specs.declared.record.ArrayRecord.{ArrayRecord}
use Rattle.ctl_state.specs.Holding.{has_members}
use Rattle.ctl_state.specs.Holds.{holds_of_job}
use Rattle.ctl_state.specs.Planning.{room_of}
use Rattle.ctl_state.specs.Soundness.{IsKept, IsSound}
use Rattle.ctl_state.specs.State.{State, last_moment}
use Rattle.ctl_nodes.specs.Failing.{after_loss, loses, off_lost}
use Rattle.ctl_pass.specs.Limits.{is_over, timed_out}
use Rattle.ctl_pass.specs.Readiness.{base_of, goes, jobs_left, planned, ready}
use Rattle.ctl_node_side.specs.Silence.{any_silent, silent_at, silenced, without_silent}
use Rattle.ctl_jobs.specs.Submission.{Basis, basis_of, made_under, new_arrays, new_jobs, submit_after}
use Rattle.ctl_core.specs.Sizes.{size_of}
use Rattle.ctl_core.specs.Step.{entered, raised, state_after}
use Rattle.user_laws.specs.Planning.{plan_at, ranked_at}
use Rattle.user_laws.proofs.Lists.{all_mapped}
use Rattle.step_lemmas.proofs.Making.{MakesBy, made_by}
use Rattle.step_lemmas.proofs.Steps.{step_is}
use Rattle.user_laws.proofs.Turning.{jobs_new, IsNew}

-- ---- what jobs hold that are left

-- the job holds nothing
abbrev IsEmpty : JobRecord → Type 0
IsEmpty job = job.parts ≡ []

-- who has ended holds nothing
abbrev IsFree : JobRecord → Type 0
IsFree job = is_ended job.state ≡ true → job.parts ≡ []

no-hold : (now : ℕ) (job : JobRecord) → IsEmpty job → holds_of_job now job ≡ []
no-hold now job empty = rw empty refl

filter-holds : (now : ℕ) (stays : JobRecord → Bool) (jobs : List JobRecord)
    → All (λ (job : JobRecord). stays job ≡ false → holds_of_job now job ≡ []) jobs
    → flat_map (holds_of_job now) (filter stays jobs) ≡ flat_map (holds_of_job now) jobs
filter-holds now stays [] none = refl
filter-holds now stays (job ∷ jobs) none =
    let Nothing = λ (job : JobRecord). stays job ≡ false → holds_of_job now job ≡ [] in
    let rest = filter-holds now stays jobs (All-tail Nothing job jobs none) in
    elim (cases_Bool (stays job)) [
      | inl is ↦ rw is (ap (λ (holds : List Hold). holds_of_job now job ++ holds) rest)
      | inr out ↦
          rw out
          (rest ∙ sym (ap (λ (first : List Hold). first ++ flat_map (holds_of_job now) jobs)
          (All-head Nothing job jobs none out)))
    ]

none-hold : (now : ℕ) (jobs : List JobRecord) → All IsEmpty jobs → flat_map (holds_of_job now) jobs ≡ []
none-hold now [] all = refl
none-hold now (job ∷ jobs) all =
    ap (λ (first : List Hold). first ++ flat_map (holds_of_job now) jobs)
    (no-hold now job (All-head IsEmpty job jobs all))
    ∙ none-hold now jobs (All-tail IsEmpty job jobs all)

over-free : (now : ℕ) (job : JobRecord) → IsFree job → IsFree (timed_out now job)
over-free now job free =
    cond_both (is_over now job) (changed (Leave final.Timeout now None) job) job IsFree
    (λ over. cond_both (is_running job.state) (record job {
      state = Completing final.Timeout;
      ended = Some now;
      exit = None;
    }) job IsFree (λ ran ended. absurd (both_ways false refl ended)) (λ other. free))
    (λ not. free)

over-empty : (now : ℕ) (job : JobRecord) → IsEmpty job → IsEmpty (timed_out now job)
over-empty now job empty =
    cond_both (is_over now job) (changed (Leave final.Timeout now None) job) job IsEmpty
    (λ over. cond_both (is_running job.state) (record job {
      state = Completing final.Timeout;
      ended = Some now;
      exit = None;
    }) job IsEmpty (λ ran. empty) (λ other. empty))
    (λ not. empty)

left-holds : (t : State) (now : ℕ) → All IsFree t.jobs
    → flat_map (holds_of_job now) (jobs_left t now) ≡ flat_map (holds_of_job now) (map (timed_out now) t.jobs)
left-holds t now all =
    let Nothing = λ (job : JobRecord). not (goes t now job) ≡ false → holds_of_job now job ≡ [] in
    filter-holds now (λ job. not (goes t now job)) (map (timed_out now) t.jobs)
    (all_mapped IsFree Nothing (timed_out now) t.jobs
    (λ job free out. let after = timed_out now job in
    let old = (and_parts (is_old t.settings.min_job_age now after) _ (not-false (goes t now after) out)).0 in
    no-hold now after (over-free now job free (and_parts (is_ended after.state) _ old).0))
    all)

-- ---- a state with more jobs that hold nothing

record HasMore (more s : State) : Type 0 where
  pub new : List JobRecord
  pub jobs : more.jobs ≡ s.jobs ++ new
  pub empty : All IsEmpty new
  pub nodes : more.nodes ≡ s.nodes
  pub settings : more.settings ≡ s.settings

more-holds : (more s : State) (now : ℕ) → HasMore more s → All IsFree s.jobs
    → flat_map (holds_of_job now) (jobs_left more now) ≡ flat_map (holds_of_job now) (jobs_left s now)
more-holds more s now has all =
    let H = holds_of_job now in
    let over = timed_out now in
    let both = All-append IsFree s.jobs has.new all
    (All-weaker IsEmpty IsFree (λ job empty ended. empty) has.new has.empty) in
    left-holds more now (subst (All IsFree) (sym has.jobs) both)
    ∙ ap (λ (jobs : List JobRecord). flat_map H (map over jobs)) has.jobs
    ∙ ap (flat_map H) (map-append over s.jobs has.new)
    ∙ flat_map-append H (map over s.jobs) (map over has.new)
    ∙ ap (λ (rest : List Hold). flat_map H (map over s.jobs) ++ rest)
    (none-hold now (map over has.new) (all_mapped IsEmpty IsEmpty over has.new (over-empty now) has.empty))
    ∙ append-nil (flat_map H (map over s.jobs))
    ∙ sym (left-holds s now all)

made-of : List NodeRecord → List Hold → Settings → ℕ → BaseView
made-of nodes holds settings now =
    record { rooms = map room_of nodes; holds = holds; horizon = now + settings.bf_window * 60 }

more-base : (more s : State) (now : ℕ) → HasMore more s → All IsFree s.jobs
    → base_of (ready more now) now ≡ base_of (ready s now) now
unfolding base_of made-of
more-base more s now has all =
    let held = λ (t : State). flat_map (holds_of_job now) (jobs_left t now) in
    ap (λ (nodes : List NodeRecord). made-of nodes (held more) more.settings now) has.nodes
    ∙ ap (λ (settings : Settings). made-of s.nodes (held more) settings now) has.settings
    ∙ ap (λ (holds : List Hold). made-of s.nodes holds s.settings now) (more-holds more s now has all)

-- ---- nodes that fall silent leave it so

lost-empty : (now : ℕ) (lost : ℕ → Bool) (job : JobRecord) → IsEmpty job → IsEmpty (after_loss now lost job)
lost-empty now lost job empty =
    cond_both (loses lost job) (off_lost now lost job job.state) job IsEmpty
    (λ some. absurd (both_ways false refl
    (subst (λ (parts : List Part). list_any (λ (part : Part). lost part.node) parts ≡ true) empty some)))
    (λ none. empty)

silenced-more : (s : State) (now k n : ℕ) (new : List JobRecord) (arrays : List ArrayRecord) → All IsEmpty new
    → HasMore (silenced (entered k n (submit_after s new arrays)) now) (silenced s now)
silenced-more s now k n new arrays empty = by (any_silent s now)
  where
    by : (some : Bool) → HasMore
        (if some then without_silent (entered k n (submit_after s new arrays)) now
        else entered k n (submit_after s new arrays))
        (if some then without_silent s now else s)
    by true = record {
      new = map (after_loss now (silent_at s now)) new;
      jobs = map-append (after_loss now (silent_at s now)) s.jobs new;
      empty = all_mapped IsEmpty IsEmpty (after_loss now (silent_at s now)) new (lost-empty now (silent_at s now)) empty;
      nodes = refl;
      settings = refl;
    }
    by false = record { new = new; jobs = refl; empty = empty; nodes = refl; settings = refl }

ended-empty : (job : JobRecord) (state : JobState) (parts : List Part) → has_members parts ≡ is_holding state
    → is_ended state ≡ true → parts ≡ []
ended-empty job state [] some ended = refl
ended-empty job Pending (part ∷ later) some ended = absurd (both_ways false refl ended)
ended-empty job Running (part ∷ later) some ended = absurd (both_ways false refl ended)
ended-empty job (Completing end) (part ∷ later) some ended = absurd (both_ways false refl ended)
ended-empty job (Ended end) (part ∷ later) some ended = absurd (both_ways false refl (sym some))

sound-free : (s : State) → IsSound s → All IsFree s.jobs
sound-free s sound =
    All-weaker (IsKept s.moment) IsFree
    (λ job kept ended. ended-empty job job.state job.parts kept.parts.some ended) s.jobs sound.jobs

-- ---- the plan

-- what the crates below promise
pub record Lowers : Type 0 where
  pub nothing : (base : BaseView) (ranked : List PlanJob) (now first : ℕ)
      → plan_of base (take first ranked) now
      ≡ take (length (plan_of base (take first ranked) now)) (plan_of base ranked now)
  pub silence : (s : State) (now : ℕ) → IsSound s → s.moment ≤ now → now ≤ last_moment → IsSound (silenced s now)

abbrev base_at : State → ℕ → BaseView
base_at s moment = base_of (ready (silenced s moment) moment) moment

submit-base : (s : State) (now moment k n : ℕ) (user : List ℕ) (desc : JobDesc) (basis : Option Basis)
    → All IsFree (silenced s moment).jobs
    → MakesBy (λ reply (after : State). base_at (entered k n after) moment ≡ base_at s moment)
    (made_under s now user desc basis)
submit-base s now moment k n user desc None all = tt
submit-base s now moment k n user desc (Some basis) all =
    let new = new_jobs s now user desc basis desc.array in
    let arrays = new_arrays s desc.array in
    more-base (silenced (entered k n (submit_after s new arrays)) moment) (silenced s moment) moment
    (silenced-more s moment k n new arrays
    (All-weaker (IsNew s) IsEmpty (λ job is. is.nothing) new (jobs_new s now user desc basis desc.array))) all

same-base : Lowers → (s : State) (now : ℕ) (user : List ℕ) (desc : JobDesc) (moment : ℕ) → IsSound s
    → s.moment ≤ moment → moment ≤ last_moment
    → base_at (state_after s now user (Submit desc)) moment ≡ base_at s moment
same-base lowers s now user desc moment sound later in_time =
    let free = sound-free (silenced s moment) (lowers.silence s moment sound later in_time) in
    let k = raised s now in
    let n = size_of (Submit desc) in
    step_is (λ (t : State). base_at t moment ≡ base_at s moment) s now user (Submit desc) refl
    (λ reply after is. made_by (λ (reply : Reply) (after : State). base_at (entered k n after) moment ≡ base_at s moment)
    (submit-base s k moment k n user desc (basis_of s user desc) free) is.makes)

-- a longer list of candidates that begins as this one has a plan that begins as its plan
plan-begins : Lowers → (base : BaseView) (one other lower : List PlanJob) (now : ℕ) → other ≡ one ++ lower
    → plan_of base one now ≡ take (length (plan_of base one now)) (plan_of base other now)
plan-begins lowers base one other lower now is =
    let Begins = λ (first : List PlanJob). plan_of base first now
    ≡ take (length (plan_of base first now)) (plan_of base (one ++ lower) now) in
    subst Begins (take-append_seam one lower) (lowers.nothing base (one ++ lower) now (length one))
    ∙ ap (λ (all : List PlanJob). take (length (plan_of base one now)) (plan_of base all now)) (sym is)

pub below_same : Lowers → (s : State) (now : ℕ) (user : List ℕ) (desc : JobDesc) (moment : ℕ) (lower : List PlanJob)
    → IsSound s → s.moment ≤ moment → moment ≤ last_moment
    → ranked_at (state_after s now user (Submit desc)) moment ≡ ranked_at s moment ++ lower
    → plan_at s moment
    ≡ take (length (plan_at s moment)) (plan_at (state_after s now user (Submit desc)) moment)
unfolding planned
below_same lowers s now user desc moment lower sound later in_time ranks =
    let t = state_after s now user (Submit desc) in
    let base = same-base lowers s now user desc moment sound later in_time in
    plan-begins lowers (base_at s moment) (ranked_at s moment) (ranked_at t moment) lower moment ranks
    ∙ ap (λ (one : BaseView). take (length (plan_of (base_at s moment) (ranked_at s moment) moment))
    (plan_of one (ranked_at t moment) moment)) (sym base)
