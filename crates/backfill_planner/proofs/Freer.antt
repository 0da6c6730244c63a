-- Where less is held, a job still fits.
use Rattle.std.proofs.Common.{◌≡◌, ℕ, ◌+◌, ◌-◌, ◌≤◌, Bool, true, false, cond, List, [], ◌∷◌, sum_by, arith, refl, sym, inl, inr, Some, None, Option, is_some}
use Rattle.std.specs.Prelude.{find, option_map, option_and_then}
use Rattle.std.proofs.lemmas.Bool.{cases_Bool}
use Rattle.resource_profile.specs.declared.NodeRoom.{NodeRoom}
use Rattle.resource_profile.specs.declared.Hold.{Hold}
use Rattle.resource_profile.specs.Free.{room_at, covers, free_cpus, free_mem, least_over}
use Rattle.resource_profile.specs.declared.picking.Need.{Need}
use Rattle.resource_profile.specs.Sets.{capacity, Fits}
use Rattle.resource_profile.specs.Choosing.{numbers_from, chosen}
use Rattle.backfill_planner.specs.declared.Placed.{Placed}
use Rattle.backfill_planner.specs.declared.job.PlanJob.{PlanJob}
use Rattle.backfill_planner.specs.Giving.{window_end, is_barred, give, capacities}
use Rattle.backfill_planner.specs.Plans.{shares_of, placement_at, first_second, placed_of}
use Rattle.backfill_planner.specs.Placements.{FitsAt}
use Rattle.backfill_planner.specs.Sufficing.{PickLaws}
use Rattle.backfill_planner.specs.Walking.{AreAlike}
use Rattle.backfill_planner.proofs.Lessening.{least_after-less, least_after-within}
use Rattle.backfill_planner.proofs.Rises.{tasks-more, map-more, fits-more}

-- no more is held, of whatever is counted
abbrev pub AreFewer : List Hold → List Hold → Type 0
AreFewer fewer holds = (amount : Hold → ℕ) → sum_by amount fewer ≤ sum_by amount holds

unless-less : (barred : Bool) (less more : ℕ) → less ≤ more → cond barred 0 less ≤ cond barred 0 more
unless-less true less more order = omega arith
unless-less false less more order = order

give-more : (rooms : List NodeRoom) (holds fewer : List Hold) (job : PlanJob) (second node : ℕ) → AreFewer fewer holds → give rooms holds job second node ≤ give rooms fewer job second node
give-more rooms holds fewer job second node less =
    let cpus_held : ℕ → Hold → ℕ = λ m hold. cond (covers node m hold) hold.cpus 0 in
    let mem_held : ℕ → Hold → ℕ = λ m hold. cond (covers node m hold) hold.mem 0 in
    let end = window_end job second in
    unless-less (is_barred job.barred node second end) _ _
    (tasks-more job (room_at rooms node)
    (least_over (λ m. free_cpus rooms holds node m) second end)
    (least_over (λ m. free_mem rooms holds node m) second end)
    (least_over (λ m. free_cpus rooms fewer node m) second end)
    (least_over (λ m. free_mem rooms fewer node m) second end)
    (least_after-less (λ m. free_cpus rooms holds node m) (λ m. free_cpus rooms fewer node m) second (end - second - 1) (λ m. omega (arith, less (cpus_held m))))
    (least_after-within (λ m. free_cpus rooms fewer node m) (room_at rooms node).cpus second (end - second - 1) (λ m. omega arith))
    (least_after-less (λ m. free_mem rooms holds node m) (λ m. free_mem rooms fewer node m) second (end - second - 1) (λ m. omega (arith, less (mem_held m))))
    (least_after-within (λ m. free_mem rooms fewer node m) (room_at rooms node).mem second (end - second - 1) (λ m. omega arith)))

capacity-more : (rooms : List NodeRoom) (holds fewer : List Hold) (job : PlanJob) (second place : ℕ) → AreFewer fewer holds → capacity (capacities rooms holds job second) place ≤ capacity (capacities rooms fewer job second) place
unfolding capacities
capacity-more rooms holds fewer job second place less =
    map-more (λ node. give rooms holds job second node) (λ node. give rooms fewer job second node) job.nodes place (λ node. give-more rooms holds fewer job second node less)

still_some : PickLaws → (caps more : List ℕ) (need : Need) (f g : List ℕ → Placed) (found still : Option (List ℕ)) → ((set : List ℕ) → Fits caps need set → Fits more need set) → chosen caps need ≡ found → chosen more need ≡ still → is_some (option_map f found) ≡ true → is_some (option_map g still) ≡ true
still_some laws caps more need f g None still grows is are some = absurd cc
still_some laws caps more need f g (Some set) (Some other) grows is are some = refl
still_some laws caps more need f g (Some set) None grows is are some = absurd (laws.none more need set are (grows set (laws.some caps need set is)))

pub fit-fewer : PickLaws → (rooms : List NodeRoom) (holds fewer : List Hold) (job : PlanJob) (now : ℕ) → AreFewer fewer holds → is_some (placement_at rooms holds job now) ≡ true → is_some (placement_at rooms fewer job now) ≡ true
unfolding placement_at
fit-fewer laws rooms holds fewer job now less some =
    let caps = capacities rooms holds job now in
    let more = capacities rooms fewer job now in
    still_some laws caps more job.need
    (λ set. record { id = job.id; start = now; parts = shares_of rooms holds job now set })
    (λ set. record { id = job.id; start = now; parts = shares_of rooms fewer job now set })
    (chosen caps job.need) (chosen more job.need)
    (λ set. fits-more caps more job.need set (λ place. capacity-more rooms holds fewer job now place less)) refl refl some

-- the order of the holds doesn't matter
pub fit-alike : PickLaws → (rooms : List NodeRoom) (holds others : List Hold) (job : PlanJob) (now : ℕ) → AreAlike holds others → is_some (placement_at rooms holds job now) ≡ is_some (placement_at rooms others job now)
fit-alike laws rooms holds others job now alike =
    let there = fit-fewer laws rooms holds others job now (λ amount. omega (arith, alike amount)) in
    let back = fit-fewer laws rooms others holds job now (λ amount. omega (arith, alike amount)) in
    by (is_some (placement_at rooms holds job now)) (is_some (placement_at rooms others job now)) there back
  where
    by : (one other : Bool) → (one ≡ true → other ≡ true) → (other ≡ true → one ≡ true) → one ≡ other
    by true other there back = sym (there refl)
    by false true there back = back refl
    by false false there back = refl

-- a placement at one second alone
at_one : (placement : ℕ → Option Placed) (now : ℕ) → is_some (option_and_then placement (find (λ second. is_some (placement second)) (now ∷ []))) ≡ is_some (placement now)
at_one placement now = elim (cases_Bool (is_some (placement now))) [
  | inl some ↦ rw some some
  | inr none ↦ rw none refl
]

pub fit-now : (rooms : List NodeRoom) (holds : List Hold) (job : PlanJob) (now : ℕ) → is_some (placed_of rooms holds job now now) ≡ is_some (placement_at rooms holds job now)
unfolding placed_of first_second numbers_from
fit-now rooms holds job now =
    let one : now + 1 - now ≡ 1 = omega arith in
    rw one (at_one (λ second. placement_at rooms holds job second) now)

found-fits : PickLaws → (caps : List ℕ) (need : Need) (f : List ℕ → Placed) (found : Option (List ℕ)) → chosen caps need ≡ found → is_some (option_map f found) ≡ true → (set : List ℕ) × Fits caps need set
found-fits laws caps need f None is some = absurd cc
found-fits laws caps need f (Some set) is some = (set, laws.some caps need set is)

none-fits : PickLaws → (caps : List ℕ) (need : Need) (f : List ℕ → Placed) (found : Option (List ℕ)) → chosen caps need ≡ found → is_some (option_map f found) ≡ false → (set : List ℕ) → ¬ Fits caps need set
none-fits laws caps need f None is none = λ set. laws.none caps need set is
none-fits laws caps need f (Some set) is none = absurd cc

pub set-fits : PickLaws → (rooms : List NodeRoom) (holds : List Hold) (job : PlanJob) (now : ℕ) → is_some (placement_at rooms holds job now) ≡ true → (set : List ℕ) × FitsAt rooms holds job now set
unfolding placement_at
set-fits laws rooms holds job now some =
    let caps = capacities rooms holds job now in
    found-fits laws caps job.need (λ set. record { id = job.id; start = now; parts = shares_of rooms holds job now set }) (chosen caps job.need) refl some

pub no-set-fits : PickLaws → (rooms : List NodeRoom) (holds : List Hold) (job : PlanJob) (now : ℕ) → is_some (placement_at rooms holds job now) ≡ false → (set : List ℕ) → ¬ FitsAt rooms holds job now set
unfolding placement_at
no-set-fits laws rooms holds job now none =
    let caps = capacities rooms holds job now in
    none-fits laws caps job.need (λ set. record { id = job.id; start = now; parts = shares_of rooms holds job now set }) (chosen caps job.need) refl none
