-- What a node gives where nothing is held, and when a job begins at once.
use Rattle.std.proofs.Common.{◌≡◌, ℕ, ◌+◌, ◌-◌, zero, suc, Bool, true, false, List, [], ◌∷◌, arith, refl, ap, ◌∙◌, inl, inr, is_some, Option, Some, None}
use Rattle.std.specs.Prelude.{find, option_map}
use Rattle.std.specs.List.{list_any}
use Rattle.std.proofs.lemmas.Bool.{cases_Bool}
use Rattle.resource_profile.specs.declared.NodeRoom.{NodeRoom}
use Rattle.resource_profile.specs.declared.Hold.{Hold}
use Rattle.resource_profile.specs.Free.{room_at, free_cpus, free_mem, least_after, least_over}
use Rattle.resource_profile.specs.Choosing.{numbers_from, chosen}
use Rattle.backfill_planner.specs.declared.Placed.{Placed}
use Rattle.backfill_planner.specs.declared.job.Barred.{Barred}
use Rattle.backfill_planner.specs.declared.job.PlanJob.{PlanJob}
use Rattle.backfill_planner.specs.Giving.{window_end, is_barred, tasks_given, give, capacities}
use Rattle.backfill_planner.specs.Plans.{placement_at, first_second, placed_of}

least_after-constant : (free : ℕ → ℕ) (amount from more : ℕ) → ((moment : ℕ) → free moment ≡ amount) → least_after free from more ≡ amount
unfolding least_after
least_after-constant free amount from zero same = same from
least_after-constant free amount from (suc more) same =
    omega (arith, same from, least_after-constant free amount (from + 1) more same)

-- a time is found where one passes the test
pub any-found : (test : Barred → Bool) (barred : List Barred) → is_some (option_map (λ (time : Barred). time.until) (find test barred)) ≡ list_any test barred
any-found test [] = refl
any-found test (time ∷ barred) = elim (cases_Bool (test time)) [
  | inl passes ↦ rw passes refl
  | inr fails ↦ rw fails (any-found test barred)
]

-- nothing is given where the node may not be had
pub give-barred : (rooms : List NodeRoom) (holds : List Hold) (job : PlanJob) (start node : ℕ) → is_barred job.barred node start (window_end job start) ≡ true → 0 ≡ give rooms holds job start node
give-barred rooms holds job start node barred = rw barred refl

-- the whole room is free at every second
pub give-nothing_held : (rooms : List NodeRoom) (job : PlanJob) (start node : ℕ) → is_barred job.barred node start (window_end job start) ≡ false
    → tasks_given job (room_at rooms node) (room_at rooms node).cpus (room_at rooms node).mem ≡ give rooms [] job start node
give-nothing_held rooms job start node clear =
    let room = room_at rooms node in
    let until = window_end job start in
    let cpus : least_over (λ moment. free_cpus rooms [] node moment) start until ≡ room.cpus =
    least_after-constant (λ moment. free_cpus rooms [] node moment) room.cpus start (until - start - 1) (λ moment. omega arith) in
    let mem : least_over (λ moment. free_mem rooms [] node moment) start until ≡ room.mem =
    least_after-constant (λ moment. free_mem rooms [] node moment) room.mem start (until - start - 1) (λ moment. omega arith) in
    rw (clear, cpus, mem) refl

there-set : (rooms : List NodeRoom) (holds : List Hold) (job : PlanJob) (found : Option (List ℕ)) → chosen (capacities rooms holds job 0) job.need ≡ found → is_some (placement_at rooms holds job 0) ≡ is_some found
unfolding placement_at
there-set rooms holds job None is = rw is refl
there-set rooms holds job (Some set) is = rw is refl

there-placed : (rooms : List NodeRoom) (holds : List Hold) (job : PlanJob) (placed : Option Placed) → placement_at rooms holds job 0 ≡ placed → is_some (placed_of rooms holds job 0 0) ≡ is_some placed
unfolding placed_of first_second numbers_from
there-placed rooms holds job None is = rw is refl
there-placed rooms holds job (Some placed) is = rw is (ap is_some is)

-- a job is placed at its only second where a set is chosen at it
pub placed-at_once : (rooms : List NodeRoom) (holds : List Hold) (job : PlanJob) (found : Option (List ℕ)) → chosen (capacities rooms holds job 0) job.need ≡ found → is_some (placed_of rooms holds job 0 0) ≡ is_some found
placed-at_once rooms holds job found is = there-placed rooms holds job (placement_at rooms holds job 0) refl ∙ there-set rooms holds job found is
