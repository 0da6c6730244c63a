-- A job begins at once on a node that has room for all its tasks, where nothing is held.
use Rattle.std.proofs.Common.{◌≡◌, ℕ, ◌*◌, ◌/◌, ◌≤◌, min, true, false, ◌&&◌, ◌||◌, not, eqb, leb, List, [], ◌∷◌, Contains, slice_index, arith, refl, sym, ap, ◌∙◌, inl, inr, is_some, Option, Some, None}
use Rattle.std.proofs.Math.Nat.{mul_comm, mul_assoc}
use Rattle.std.proofs.lemmas.Nat.{le-div, mul-le}
use Rattle.std.proofs.lemmas.Bool.{cases_Bool, and_from, eq-eqb, le-leb}
use Rattle.std.proofs.lemmas.List.{get_or_default}
use Rattle.std.proofs.lemmas.List.Elements.{All-cons, All-nil}
use Rattle.std.proofs.lemmas.List.Sums.{sum_by-cons}
use Rattle.resource_profile.specs.declared.NodeRoom.{NodeRoom}
use Rattle.resource_profile.specs.Free.{room_at}
use Rattle.resource_profile.specs.Sets.{capacity, Fits}
use Rattle.resource_profile.specs.declared.picking.Need.{Need}
use Rattle.resource_profile.specs.Choosing.{chosen}
use Rattle.plain_data.specs.declared.mem_ask.MemAsk.{MemAsk}
use Rattle.plain_data.specs.declared.mem_ask.MemAsk.TheVariants.{All as AllMem, PerNode, PerCpu}
use Rattle.backfill_planner.specs.declared.job.PlanJob.{PlanJob}
use Rattle.backfill_planner.specs.Giving.{window_end, is_barred, asked_mem, tasks_by_mem, may_have, tasks_given, give, capacities}
use Rattle.backfill_planner.specs.Plans.{placed_of}
use Rattle.backfill_planner.specs.LowerLaws.{LowerLaws}
use Rattle.backfill_planner.specs.OneNode.{AsksSomeMem, HasRoomForAll, MayBeOneNode}
use Rattle.backfill_planner.proofs.Holding.{capacity-give}
use Rattle.backfill_planner.proofs.NothingHeld.{give-nothing_held, placed-at_once}

-- the memory of the whole node is enough for all the tasks
all-by_mem : (ask : MemAsk) (cpus_per_task : ℕ) (room : NodeRoom) (most tasks : ℕ) → 1 ≤ cpus_per_task → AsksSomeMem ask → tasks ≤ most → asked_mem ask room (tasks * cpus_per_task) ≤ room.mem → tasks ≤ tasks_by_mem ask cpus_per_task room room.mem most
all-by_mem AllMem cpus_per_task room most tasks each some few free =
    let whole : eqb room.mem room.mem ≡ true = eq-eqb room.mem room.mem refl in
    rw whole few
all-by_mem (PerNode asked) cpus_per_task room most tasks each some few free =
    let enough : leb asked room.mem ≡ true = le-leb asked room.mem free in
    rw enough few
all-by_mem (PerCpu asked) cpus_per_task room most tasks each some few free =
    let turned : tasks * (asked * cpus_per_task) ≡ asked * (tasks * cpus_per_task) = sym (mul_assoc tasks asked cpus_per_task) ∙ ap (λ n. n * cpus_per_task) (mul_comm tasks asked) ∙ mul_assoc asked tasks cpus_per_task in
    omega (arith, few, le-div tasks room.mem (asked * cpus_per_task) (omega (arith, mul-le 1 1 asked cpus_per_task some each)) (omega (arith, turned, free)))

-- so the node gives all of them
all-given : (room : NodeRoom) (job : PlanJob) → 1 ≤ job.cpus_per_task → AsksSomeMem job.mem_ask → HasRoomForAll room job → job.need.tasks ≤ tasks_given job room room.cpus room.mem
all-given room job each some has =
    let both : (eqb room.cpus room.cpus && eqb room.mem room.mem) ≡ true = and_from (eqb room.cpus room.cpus) (eqb room.mem room.mem) (eq-eqb room.cpus room.cpus refl) (eq-eqb room.mem room.mem refl) in
    let may : may_have job room room.cpus room.mem ≡ true = and_from room.usable (not job.exclusive || (eqb room.cpus room.cpus && eqb room.mem room.mem)) has.usable (elim (cases_Bool job.exclusive) [
      | inr shares ↦ rw shares refl
      | inl alone ↦ rw alone both
    ]) in
    rw may (all-by_mem job.mem_ask job.cpus_per_task room (min job.per_node (room.cpus / job.cpus_per_task)) job.need.tasks each some
    (omega (arith, has.tasks, le-div job.need.tasks room.cpus job.cpus_per_task (omega (arith, each)) has.cpus)) has.mem)

-- the set of this place alone fits
one-fits : (caps : List ℕ) (need : Need) (place : ℕ) → MayBeOneNode need → need.tasks ≤ capacity caps place → Fits caps need (place ∷ [])
one-fits caps need place may gives = record {
  rising = (omega arith, tt);
  required = λ other low. absurd (omega (arith, low, may.required));
  giving = All-cons (λ p. 1 ≤ capacity caps p) place [] (omega (arith, gives, may.tasks)) (All-nil (λ p. 1 ≤ capacity caps p));
  enough = omega (arith, gives, sum_by-cons (λ p. capacity caps p) place []);
  at_most_tasks = omega (arith, may.tasks);
  at_least = omega (arith, may.least);
  at_most = omega (arith, may.most);
}

placed-by_one : LowerLaws → (rooms : List NodeRoom) (job : PlanJob) (place : ℕ) (found : Option (List ℕ)) → chosen (capacities rooms [] job 0) job.need ≡ found → Fits (capacities rooms [] job 0) job.need (place ∷ []) → is_some (placed_of rooms [] job 0 0) ≡ true
placed-by_one laws rooms job place None is fits = absurd (laws.none (capacities rooms [] job 0) job.need (place ∷ []) is fits)
placed-by_one laws rooms job place (Some set) is fits = placed-at_once rooms [] job (Some set) is

pub one-enough : LowerLaws → (rooms : List NodeRoom) (job : PlanJob) (node : ℕ) → job.barred ≡ [] → 1 ≤ job.cpus_per_task → AsksSomeMem job.mem_ask → MayBeOneNode job.need → Contains job.nodes node → HasRoomForAll (room_at rooms node) job → is_some (placed_of rooms [] job 0 0) ≡ true
one-enough laws rooms job node none_barred each some may (place, inside, here) has =
    let clear : is_barred job.barred node 0 (window_end job 0) ≡ false = rw none_barred refl in
    let gives : tasks_given job (room_at rooms node) (room_at rooms node).cpus (room_at rooms node).mem ≡ give rooms [] job 0 node = give-nothing_held rooms job 0 node clear in
    let at : slice_index job.nodes place ≡ node = sym (get_or_default job.nodes place node 0 inside) ∙ here in
    let is : capacity (capacities rooms [] job 0) place ≡ give rooms [] job 0 node = capacity-give rooms [] job 0 place inside ∙ ap (λ n. give rooms [] job 0 n) at in
    placed-by_one laws rooms job place (chosen (capacities rooms [] job 0) job.need) refl
    (one-fits (capacities rooms [] job 0) job.need place may (omega (arith, is, gives, all-given (room_at rooms node) job each some has)))
