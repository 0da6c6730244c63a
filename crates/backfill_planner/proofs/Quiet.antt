-- Where nothing ends behind the seconds that were tried, no set comes to fit.
use Rattle.std.proofs.Common.{◌≡◌, ◌≢◌, ℕ, ◌+◌, ◌≤◌, ◌<◌, List, All, arith, inl, inr, None}
use Rattle.std.proofs.lemmas.Bool.{cases_lt}
use Rattle.std.proofs.lemmas.List.Elements.{All-weaker}
use Rattle.resource_profile.specs.declared.NodeRoom.{NodeRoom}
use Rattle.resource_profile.specs.declared.Hold.{Hold}
use Rattle.backfill_planner.specs.LowerLaws.{LowerLaws}
use Rattle.backfill_planner.specs.declared.job.Barred.{Barred}
use Rattle.backfill_planner.specs.declared.job.PlanJob.{PlanJob}
use Rattle.backfill_planner.specs.Giving.{window_end}
use Rattle.backfill_planner.specs.Plans.{placed_of}
use Rattle.backfill_planner.specs.Lesser.{NoneBefore}
use Rattle.backfill_planner.specs.Sweeps.{NoneEnds}
use Rattle.backfill_planner.specs.Staying.{IsOutside}
use Rattle.backfill_planner.proofs.Rises.{none-until}
use Rattle.backfill_planner.proofs.Staying.{unplaced-again}
use Rattle.plain_data.specs.declared.seconds.TheConstants.{LAST_START}

not-then : (last hi until moment : ℕ) → IsOutside last hi until → last < moment → moment < hi + 1 → until ≢ moment
not-then last hi until moment (inl before) later below is = omega (arith, before, later, is)
not-then last hi until moment (inr behind) later below is = omega (arith, behind, below, is)

none-ends : (holds : List Hold) (barred : List Barred) (last hi : ℕ) → All (λ (hold : Hold). IsOutside last hi hold.until) holds → All (λ (time : Barred). IsOutside last hi time.until) barred → NoneEnds holds barred last (hi + 1)
none-ends holds barred last hi held times = record {
  holds_last = λ moment later below. All-weaker (λ (hold : Hold). IsOutside last hi hold.until) (λ (hold : Hold). hold.until ≢ moment) (λ hold outside. not-then last hi hold.until moment outside later below) holds held;
  times_last = λ moment later below. All-weaker (λ (time : Barred). IsOutside last hi time.until) (λ (time : Barred). time.until ≢ moment) (λ time outside. not-then last hi time.until moment outside later below) barred times;
}

pub none-comes : LowerLaws → (rooms : List NodeRoom) (holds : List Hold) (job : PlanJob) (now last hi : ℕ) → now ≤ last → hi ≤ LAST_START → last < window_end job last → NoneBefore rooms holds job now (last + 1) → All (λ (hold : Hold). IsOutside last hi hold.until) holds → All (λ (time : Barred). IsOutside last hi time.until) job.barred → placed_of rooms holds job now hi ≡ None
none-comes laws rooms holds job now last hi order low window none held times = elim (cases_lt last hi) [
  | inr within ↦ unplaced-again rooms holds job now last hi (omega (arith, within)) low none
  | inl later ↦ unplaced-again rooms holds job now hi hi (omega arith) low (λ second from below early. elim (cases_lt last second) [
    | inr tried ↦ none second from (omega (arith, tried)) early
    | inl behind ↦ none-until laws rooms holds job last (hi + 1) second (none-ends holds job.barred last hi held times) window (omega (arith, behind)) below (omega (arith, early)) (none last order (omega arith) (omega (arith, later, low)))
  ])
]
