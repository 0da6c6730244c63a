-- What the search over the seconds says, by the sets that fit.
use Rattle.std.proofs.Common.{◌≡◌, ℕ, ◌+◌, ◌-◌, ◌≤◌, ◌<◌, zero, suc, Bool, true, false, cond, List, arith, refl, inl, inr, Some, None, is_some, Option}
use Rattle.std.specs.Prelude.{find, option_map, option_and_then, MatchOption}
use Rattle.std.proofs.lemmas.Bool.{cases_lt}
use Rattle.resource_profile.specs.declared.NodeRoom.{NodeRoom}
use Rattle.resource_profile.specs.declared.Hold.{Hold}
use Rattle.resource_profile.specs.Choosing.{numbers_from, chosen}
use Rattle.backfill_planner.specs.LowerLaws.{LowerLaws}
use Rattle.backfill_planner.specs.declared.Placed.{Placed}
use Rattle.backfill_planner.specs.declared.job.PlanJob.{PlanJob}
use Rattle.backfill_planner.specs.Giving.{capacities}
use Rattle.backfill_planner.specs.Plans.{shares_of, placement_at, first_second, placed_of}
use Rattle.backfill_planner.specs.Placements.{FitsAt, IsPlacement}

-- the first number at which the test passes
record IsFirstNumber (test : ℕ → Bool) (lo end n : ℕ) : Type 0 where
  from : lo ≤ n
  below : n < end
  passes : test n ≡ true
  before : (m : ℕ) → lo ≤ m → m < n → test m ≡ false

find-step : (test : ℕ → Bool) (lo end : ℕ) (here : Bool) (later : Option ℕ) → lo < end → test lo ≡ here → MatchOption later ((n : ℕ) → lo + 1 ≤ n → n < end → test n ≡ false) (IsFirstNumber test (lo + 1) end) → MatchOption (cond here (Some lo) later) ((n : ℕ) → lo ≤ n → n < end → test n ≡ false) (IsFirstNumber test lo end)
find-step test lo end true later below passes rest = record { from = omega arith; below = below; passes = passes; before = λ m low high. absurd (omega (arith, low, high)) }
find-step test lo end false None below fails rest = λ n low high. elim (cases_lt lo n) [
  | inl after ↦ rest n (omega (arith, after)) high
  | inr at ↦ let same : n ≡ lo = omega (arith, at, low) in rw same fails
]
find-step test lo end false (Some n) below fails rest = record {
  from = omega (arith, rest.from);
  below = rest.below;
  passes = rest.passes;
  before = λ m low high. elim (cases_lt lo m) [
    | inl after ↦ rest.before m (omega (arith, after)) high
    | inr at ↦ let same : m ≡ lo = omega (arith, at, low) in rw same fails
  ];
}

find-is : (test : ℕ → Bool) (lo count end : ℕ) → lo + count ≡ end → MatchOption (find test (numbers_from lo count)) ((n : ℕ) → lo ≤ n → n < end → test n ≡ false) (IsFirstNumber test lo end)
unfolding numbers_from
find-is test lo zero end whole = λ n low high. absurd (omega (arith, low, high, whole))
find-is test lo (suc count) end whole =
    find-step test lo end (test lo) (find test (numbers_from (lo + 1) count)) (omega (arith, whole)) refl (find-is test (lo + 1) count end (omega (arith, whole)))

-- what the placement at a second says
placement-is : LowerLaws → (rooms : List NodeRoom) (holds : List Hold) (job : PlanJob) (start : ℕ) → MatchOption (placement_at rooms holds job start) ((set : List ℕ) → ¬ FitsAt rooms holds job start set) (IsPlacement rooms holds job start start)
unfolding placement_at
placement-is laws rooms holds job start = by (chosen (capacities rooms holds job start) job.need) refl
  where
    by : (found : Option (List ℕ)) → chosen (capacities rooms holds job start) job.need ≡ found
        → MatchOption (option_map (λ set. record { id = job.id; start = start; parts = shares_of rooms holds job start set }) found) ((set : List ℕ) → ¬ FitsAt rooms holds job start set) (IsPlacement rooms holds job start start)
    by None is = λ set. laws.none (capacities rooms holds job start) job.need set is
    by (Some set) is = record {
      id = refl;
      from = omega arith;
      last = omega arith;
      set = set;
      is_chosen = laws.some (capacities rooms holds job start) job.need set is;
      parts = refl;
      first = λ second other low high. absurd (omega (arith, low, high));
    }

none_fits : LowerLaws → (rooms : List NodeRoom) (holds : List Hold) (job : PlanJob) (start : ℕ) (set : List ℕ) → is_some (placement_at rooms holds job start) ≡ false → ¬ FitsAt rooms holds job start set
none_fits laws rooms holds job start set nothing = by (placement_at rooms holds job start) nothing (placement-is laws rooms holds job start)
  where
    by : (placed : Option Placed) → is_some placed ≡ false → MatchOption placed ((set : List ℕ) → ¬ FitsAt rooms holds job start set) (IsPlacement rooms holds job start start) → ¬ FitsAt rooms holds job start set
    by None nothing is = is set
    by (Some placed) nothing is = absurd cc

-- the placement at the least second
at_first : LowerLaws → (rooms : List NodeRoom) (holds : List Hold) (job : PlanJob) (lo hi end start : ℕ) (placed : Placed) → start ≤ hi → IsFirstNumber (λ s. is_some (placement_at rooms holds job s)) lo end start → placement_at rooms holds job start ≡ Some placed → IsPlacement rooms holds job lo hi placed
at_first laws rooms holds job lo hi end start placed last least is =
    let there : IsPlacement rooms holds job start start placed = rw is at (placement-is laws rooms holds job start) in
    record {
      id = there.id;
      from = omega (arith, there.from, least.from);
      last = omega (arith, there.last, last);
      set = there.set;
      is_chosen = there.is_chosen;
      parts = there.parts;
      first = λ second other low high. none_fits laws rooms holds job second other (least.before second low (omega (arith, high, there.last)));
    }

pub placed-is : LowerLaws → (rooms : List NodeRoom) (holds : List Hold) (job : PlanJob) (lo hi : ℕ) (placed : Placed) → placed_of rooms holds job lo hi ≡ Some placed → IsPlacement rooms holds job lo hi placed
unfolding placed_of first_second
placed-is laws rooms holds job lo hi placed is =
    by (find (λ s. is_some (placement_at rooms holds job s)) (numbers_from lo (hi + 1 - lo))) is
    (find-is (λ s. is_some (placement_at rooms holds job s)) lo (hi + 1 - lo) (lo + (hi + 1 - lo)) refl)
  where
    by : (found : Option ℕ) → option_and_then (λ s. placement_at rooms holds job s) found ≡ Some placed
        → MatchOption found ((n : ℕ) → lo ≤ n → n < lo + (hi + 1 - lo) → is_some (placement_at rooms holds job n) ≡ false) (IsFirstNumber (λ s. is_some (placement_at rooms holds job s)) lo (lo + (hi + 1 - lo)))
        → IsPlacement rooms holds job lo hi placed
    by None is least = absurd cc
    by (Some start) is least = at_first laws rooms holds job lo hi (lo + (hi + 1 - lo)) start placed (omega (arith, least.from, least.below)) least is

pub placed-nowhere : LowerLaws → (rooms : List NodeRoom) (holds : List Hold) (job : PlanJob) (lo hi second : ℕ) (set : List ℕ) → placed_of rooms holds job lo hi ≡ None → lo ≤ second → second ≤ hi → ¬ FitsAt rooms holds job second set
unfolding placed_of first_second
placed-nowhere laws rooms holds job lo hi second set is low high =
    by (find (λ s. is_some (placement_at rooms holds job s)) (numbers_from lo (hi + 1 - lo))) is
    (find-is (λ s. is_some (placement_at rooms holds job s)) lo (hi + 1 - lo) (hi + 1) (omega (arith, low, high)))
  where
    there : (start : ℕ) → is_some (placement_at rooms holds job start) ≡ true → placement_at rooms holds job start ≡ None → ⊥
    there start passes nothing = let wrong = rw nothing at passes in absurd cc

    by : (found : Option ℕ) → option_and_then (λ s. placement_at rooms holds job s) found ≡ None
        → MatchOption found ((n : ℕ) → lo ≤ n → n < hi + 1 → is_some (placement_at rooms holds job n) ≡ false) (IsFirstNumber (λ s. is_some (placement_at rooms holds job s)) lo (hi + 1))
        → ¬ FitsAt rooms holds job second set
    by None is none = none_fits laws rooms holds job second set (none second low (omega (arith, high)))
    by (Some start) is least = absurd (there start least.passes is)
