-- The least second at which some set fits.
use Rattle.std.proofs.Common.{◌≡◌, ℕ, ◌+◌, ◌-◌, ◌≤◌, ◌<◌, zero, suc, Bool, true, false, List, arith, refl, ap, sym, ◌∙◌, inl, inr, Some, None, is_some, Option}
use Rattle.std.specs.Prelude.{find, option_map}
use Rattle.std.proofs.lemmas.Bool.{cases_lt}
use Rattle.resource_profile.specs.declared.NodeRoom.{NodeRoom}
use Rattle.resource_profile.specs.declared.Hold.{Hold}
use Rattle.backfill_planner.specs.declared.sweep.Sweep.{Sweep}
use Rattle.backfill_planner.specs.Giving.{capacities}
use Rattle.backfill_planner.specs.Sweeps.{IsSwept}
use Rattle.backfill_planner.proofs.Sweeping.{swept-at}
use Rattle.resource_profile.specs.Choosing.{numbers_from, chosen}
use Rattle.backfill_planner.specs.declared.Placed.{Placed}
use Rattle.backfill_planner.specs.declared.job.PlanJob.{PlanJob}
use Rattle.backfill_planner.specs.Plans.{placement_at, first_second, placed_of}
use Rattle.plain_data.specs.declared.seconds.TheConstants.{LAST_START}

-- at no second from `lo` to `hi` and before `end` some set fits
abbrev pub NonePlaced : List NodeRoom → List Hold → PlanJob → ℕ → ℕ → ℕ → Type 0
NonePlaced rooms holds job lo hi end = (start : ℕ) → lo ≤ start → start ≤ hi → start < end → placement_at rooms holds job start ≡ None

find-none : (test : ℕ → Bool) (lo count : ℕ) → ((n : ℕ) → lo ≤ n → n < lo + count → test n ≡ false) → find test (numbers_from lo count) ≡ None
unfolding numbers_from
find-none test lo zero each = refl
find-none test lo (suc count) each =
    rw (each lo (omega arith) (omega arith)) (find-none test (lo + 1) count (λ n from below. each n (omega (arith, from)) (omega (arith, below))))

find-first : (test : ℕ → Bool) (lo count n : ℕ) → lo ≤ n → n < lo + count → test n ≡ true → ((m : ℕ) → lo ≤ m → m < n → test m ≡ false) → find test (numbers_from lo count) ≡ Some n
unfolding numbers_from
find-first test lo zero n from below passes before = absurd (omega arith)
find-first test lo (suc count) n from below passes before = elim (cases_lt lo n) [
  | inl later ↦ rw (before lo (omega arith) (omega (arith, later)))
      (find-first test (lo + 1) count n (omega (arith, later)) (omega (arith, below)) passes (λ m low high. before m (omega (arith, low)) high))
  | inr at ↦
      let same : n ≡ lo = omega (arith, at, from) in
      let here : test lo ≡ true = rw same at passes in
      rw (here, same) refl
]

not_there : (rooms : List NodeRoom) (holds : List Hold) (job : PlanJob) (lo hi end : ℕ) → NonePlaced rooms holds job lo hi end → (n : ℕ) → lo ≤ n → n ≤ hi → n < end → is_some (placement_at rooms holds job n) ≡ false
not_there rooms holds job lo hi end none n low last high = ap (λ o. is_some o) (none n low last high)

pub placed-none : (rooms : List NodeRoom) (holds : List Hold) (job : PlanJob) (lo hi end : ℕ) → hi < end → NonePlaced rooms holds job lo hi end → None ≡ placed_of rooms holds job lo hi
unfolding placed_of first_second
placed-none rooms holds job lo hi end past none =
    let nothing : find (λ start. is_some (placement_at rooms holds job start)) (numbers_from lo (hi + 1 - lo)) ≡ None =
    find-none (λ start. is_some (placement_at rooms holds job start)) lo (hi + 1 - lo) (λ n low high. not_there rooms holds job lo hi end none n low (omega (arith, low, high)) (omega (arith, low, high, past))) in
    rw nothing refl

pub placed-some : (rooms : List NodeRoom) (holds : List Hold) (job : PlanJob) (lo hi start : ℕ) (placed : Option Placed) → lo ≤ start → start ≤ hi → NonePlaced rooms holds job lo hi start → placed ≡ placement_at rooms holds job start → is_some placed ≡ true → placed ≡ placed_of rooms holds job lo hi
unfolding placed_of first_second
placed-some rooms holds job lo hi start placed low high none is there =
    let passes : is_some (placement_at rooms holds job start) ≡ true = rw is at there in
    let found : find (λ s. is_some (placement_at rooms holds job s)) (numbers_from lo (hi + 1 - lo)) ≡ Some start =
    find-first (λ s. is_some (placement_at rooms holds job s)) lo (hi + 1 - lo) start low (omega (arith, low, high)) passes (λ n from below. not_there rooms holds job lo hi start none n from (omega (arith, below, high)) below) in
    rw found is

nothing_there : (placed : Option Placed) → is_some placed ≡ false → placed ≡ None
nothing_there None nothing = refl
nothing_there (Some one) nothing = cc

none-chosen : {X Y : Type 0} (found : Option X) (make : X → Y) → option_map make found ≡ None → found ≡ None
none-chosen None make nothing = refl
none-chosen (Some one) make nothing = absurd cc

none-alike : (rooms : List NodeRoom) (holds : List Hold) (job : PlanJob) (start later : ℕ) → capacities rooms holds job later ≡ capacities rooms holds job start → placement_at rooms holds job start ≡ None → placement_at rooms holds job later ≡ None
unfolding placement_at
none-alike rooms holds job start later alike nothing =
    let nowhere : chosen (capacities rooms holds job later) job.need ≡ None = ap (λ caps. chosen caps job.need) alike ∙ none-chosen (chosen (capacities rooms holds job start) job.need) _ nothing in
    rw nowhere refl

-- none fits at a second, so none fits before one of the nodes may give otherwise
pub NonePlaced-more : (rooms : List NodeRoom) (holds : List Hold) (job : PlanJob) (lo hi start : ℕ) (sweep : Sweep) (placed : Option Placed) → NonePlaced rooms holds job lo hi start → placed ≡ placement_at rooms holds job start → is_some placed ≡ false → hi ≤ LAST_START → IsSwept rooms holds job sweep → sweep.second ≡ start → NonePlaced rooms holds job lo hi sweep.least
NonePlaced-more rooms holds job lo hi start sweep placed none is nothing last swept at n low within high = elim (cases_lt n start) [
  | inl before ↦ none n low within before
  | inr from ↦
      let here = swept-at rooms holds job sweep start swept (omega (arith, at)) (omega (arith, from, high)) (omega (arith, from, within, last)) in
      let later = swept-at rooms holds job sweep n swept (omega (arith, at, from)) high (omega (arith, within, last)) in
      none-alike rooms holds job start n (sym later ∙ here) (sym is ∙ nothing_there placed nothing)
]
