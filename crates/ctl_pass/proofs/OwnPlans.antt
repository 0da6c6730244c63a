-- Over the plan that a pass makes itself each job stands as it stood.
use Rattle.std.proofs.Common.{◌≡◌, ◌≢◌, ℕ, zero, suc, ◌≤◌, ◌<◌, Bool, true, List, [], ◌∷◌, length, get_or, AllPairs, Option, Some, None, IfSome, refl, sym, subst, arith, inl, inr}
use Rattle.std.proofs.lemmas.Bool.{cases_lt}
use Rattle.std.proofs.lemmas.List.{get_or_default}
use Rattle.resource_profile.specs.declared.NodeRoom.{NodeRoom}
use Rattle.resource_profile.specs.declared.Hold.{Hold}
use Rattle.resource_profile.specs.Counts.{IsTickedUpTo, ticked}
use Rattle.backfill_planner.specs.declared.Placed.{Placed}
use Rattle.backfill_planner.specs.declared.job.PlanJob.{PlanJob}
use Rattle.backfill_planner.specs.Bases.{BaseView}
use Rattle.backfill_planner.specs.Placements.{IsPlacement}
use Rattle.backfill_planner.specs.Plans.{PlannedView, holds_before, placed_of}
use Rattle.plan_keeper.specs.Steady.{AreSteady, CanStand, IsAsBefore, IsNamedOnce, others}
use Rattle.job_table.specs.declared.record.JobRecord.{JobRecord}
use Rattle.ctl_state.specs.Laws.{OrderKeepsApart}
use Rattle.ctl_state.specs.Soundness.{IsSound}
use Rattle.ctl_state.specs.State.{State}
use Rattle.ctl_waiting.specs.Candidates.{ranked}
use Rattle.ctl_pass.specs.Inputs.{CountsOver, IsSteppedOver, input_of}
use Rattle.ctl_pass.specs.Readiness.{RankedStays, base_of, ready}
use Rattle.ctl_pass.proofs.Ranks.{ranked-apart}

abbrev pub PlacementsAreFirst : Type 0
PlacementsAreFirst = (rooms : List NodeRoom) (holds : List Hold) (job : PlanJob) (lo hi : ℕ) (placed : Placed)
    → placed_of rooms holds job lo hi ≡ Some placed → IsPlacement rooms holds job lo hi placed

-- a placement within the seconds that were tried can stand
can-stand : (now horizon : ℕ) (placement : Option Placed)
    → ((placed : Placed) → placement ≡ Some placed → (now ≤ placed.start) × (placed.start ≤ horizon))
    → CanStand now horizon horizon placement
can-stand now horizon None within = omega arith
can-stand now horizon (Some placed) within = within placed refl

-- where all ids differ, each is named once
named-once : (jobs : List PlanJob) (place : ℕ) → AllPairs (λ (one other : PlanJob). one.id ≢ other.id) jobs → place < length jobs → IsNamedOnce jobs place
named-once jobs place apart below other d inside same = elim (cases_lt other place) [
  | inl before ↦ absurd (apart other place d before below same)
  | inr behind ↦ elim (cases_lt place other) [
    | inl after ↦ absurd (apart place other d after inside (sym same))
    | inr here ↦ omega (arith, behind, here)
  ]
]

as-before : PlacementsAreFirst → (base : BaseView) (jobs : List PlanJob) (now place : ℕ)
    → AllPairs (λ (one other : PlanJob). one.id ≢ other.id) jobs → place < length jobs
    → IsAsBefore (record { base = base; ranked = jobs; moment = now }) base jobs now place
as-before first base [] now place apart below = absurd (omega (arith, below))
as-before first base (one ∷ later) now place apart below =
    let jobs = one ∷ later in
    let job = get_or jobs place one in
    let same : (d : PlanJob) → get_or jobs place d ≡ job = λ d. get_or_default jobs place d one below in
    let holds = holds_before base jobs now place in
    record {
      job = job;
      is = same;
      before = place;
      there = below;
      was = λ d. rw (same d) (record { asks = refl; times = refl });
      once = named-once jobs place apart below;
      once_before = named-once jobs place apart below;
      nodes = λ node has. record { room = refl; cpus = λ second from until. refl; mem = λ second from until. refl };
      above = λ node has. refl;
      start = λ d. rw (same d) (can-stand now base.horizon (placed_of base.rooms holds job now base.horizon) (λ placed is.
          let placement = first base.rooms holds job now base.horizon placed is in (placement.from, placement.last)));
    }

are-steady : PlacementsAreFirst → (base : BaseView) (jobs : List PlanJob) (now : ℕ)
    → AllPairs (λ (one other : PlanJob). one.id ≢ other.id) jobs
    → AreSteady (record { base = base; ranked = jobs; moment = now }) base jobs now (λ place. true)
are-steady first base jobs now apart = record {
  later = omega arith;
  each = λ place below steady. as-before first base jobs now place apart below;
  above = λ place other node d before below steady one two. refl;
}

no-others : (place : ℕ) → others (λ place. true) place ≡ 0
unfolding others
no-others zero = refl
no-others (suc place) = omega (arith, no-others place)

not-ticked : (times before after : ℕ) → times ≤ 0 → after ≡ ticked before times → after ≡ before
not-ticked zero before after none is = is
not-ticked (suc times) before after none is = absurd (omega (arith, none))

pub counts-nothing : PlacementsAreFirst → OrderKeepsApart JobRecord → RankedStays → (s : State) (now before after : ℕ)
    → IsSound s → IsSteppedOver (input_of s now) s now before after → after ≡ before
counts-nothing first keeps stays s now before after sound stepped =
    let jobs = ranked (ready s now) now in
    let apart : AllPairs (λ (one other : PlanJob). one.id ≢ other.id) jobs =
    subst (λ (some : List PlanJob). AllPairs (λ (one other : PlanJob). one.id ≢ other.id) some) (sym (stays s now))
    (ranked-apart keeps s now sound.rising) in
    let up_to = stepped (λ place. true) (are-steady first (base_of (ready s now) now) jobs now apart) in
    not-ticked up_to.times before after (rw (no-others (length jobs)) at up_to.few) up_to.is

-- where nothing was counted
pub not-over : (kept : Option PlannedView) (s : State) (now count : ℕ)
    → IfSome kept (λ old. IsSteppedOver old s now count count)
not-over None s now count = tt
not-over (Some old) s now count = λ steady are. record { times = 0; few = omega arith; is = refl }

-- what a plan counts over an older one, where it is that of a pass
pub over-input : (kept : Option PlannedView) (s : State) (now before after : ℕ) (input : PlannedView)
    → input ≡ input_of s now
    → IfSome kept (λ old. CountsOver old input before after)
    → IfSome kept (λ old. IsSteppedOver old s now before after)
over-input kept s now before after input is over =
    subst (λ (one : PlannedView). IfSome kept (λ old. CountsOver old one before after)) is over
