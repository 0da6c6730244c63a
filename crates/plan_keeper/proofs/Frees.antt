-- What stays free of a node while jobs are planned.
use Rattle.std.proofs.Common.{◌≡◌, ◌≢◌, ℕ, ◌+◌, ◌-◌, ◌≤◌, ◌<◌, zero, suc, true, false, cond, List, [], ◌∷◌, ◌++◌, length, take, All, Contains, arith, refl, ap, sym, ◌∙◌, inl, inr, sum_by, Option, Some, None}
use Rattle.std.proofs.lemmas.Bool.{cases_Bool, ne_eqb}
use Rattle.std.specs.List.Sorted.{IsPermutation}
use Rattle.std.proofs.lemmas.List.Sums.{sum_by-cons, sum_by-append}
use Rattle.std.proofs.lemmas.List.Sorted.{sum_by-IsPermutation}
use Rattle.std.proofs.lemmas.List.Elements.{All-head, All-tail, All-weaker, All-map, All-nil, All-contains}
use Rattle.resource_profile.specs.declared.NodeRoom.{NodeRoom}
use Rattle.resource_profile.specs.declared.Hold.{Hold}
use Rattle.resource_profile.specs.Free.{room_at, covers, held_cpus, held_mem, free_cpus, free_mem}
use Rattle.backfill_planner.specs.declared.Share.{Share}
use Rattle.backfill_planner.specs.declared.Placed.{Placed}
use Rattle.backfill_planner.specs.declared.job.PlanJob.{PlanJob}
use Rattle.backfill_planner.specs.Bases.{BaseView}
use Rattle.backfill_planner.specs.Giving.{window_end}
use Rattle.backfill_planner.specs.Plans.{holds_of, holds_before, placed_of, placement_of}
use Rattle.backfill_planner.specs.Staying.{StaysFrom}
use Rattle.plan_keeper.specs.Steady.{may_have_node}
use Rattle.plan_keeper.specs.Marks.{on, times}
use Rattle.plan_keeper.specs.Planner.{PlannerLaws}
use Rattle.plan_keeper.proofs.Times.{there, times-next, times-up_to, has-on, own-nodes}

-- holds on other nodes hold nothing of this one
held-off : (amount : Hold → ℕ) (node second : ℕ) (holds : List Hold) → All (λ (hold : Hold). hold.node ≢ node) holds → sum_by (λ (hold : Hold). cond (covers node second hold) (amount hold) 0) holds ≡ 0
held-off amount node second [] off = refl
held-off amount node second (hold ∷ holds) off =
    let differs = ne_eqb hold.node node (All-head (λ (hold : Hold). hold.node ≢ node) hold holds off) in
    let nothing : cond (covers node second hold) (amount hold) 0 ≡ 0 = rw differs refl in
    omega (
      arith,
      sum_by-cons (λ (hold : Hold). cond (covers node second hold) (amount hold) 0) hold holds,
      held-off amount node second holds (All-tail (λ (hold : Hold). hold.node ≢ node) hold holds off),
      nothing,
    )

-- a node that the job may not have is none of its own
pub own-not : (job : PlanJob) (node own : ℕ) → Contains job.nodes own → own ≡ node → may_have_node node job ≡ false → ⊥
own-not job node own contains same without =
    let has : may_have_node own job ≡ true = All-contains (λ node. may_have_node node job ≡ true) job.nodes own (own-nodes job) contains in
    let wrong = rw (same, without) at has in
    absurd cc

-- the holds of a job that may not have the node
off-node : PlannerLaws → (rooms : List NodeRoom) (holds : List Hold) (job : PlanJob) (lo hi node : ℕ) (placed : Option Placed) → placed_of rooms holds job lo hi ≡ placed → may_have_node node job ≡ false → All (λ (hold : Hold). hold.node ≢ node) (holds_of job placed)
off-node laws rooms holds job lo hi node None is without = All-nil (λ (hold : Hold). hold.node ≢ node)
off-node laws rooms holds job lo hi node (Some placed) is without =
    All-map (λ (hold : Hold). hold.node ≢ node) (λ (share : Share). record { node = share.node; from = placed.start; until = window_end job placed.start; cpus = share.cpus; mem = share.mem }) placed.parts
    (All-weaker (λ (share : Share). Contains job.nodes share.node) (λ (share : Share). share.node ≢ node)
    (λ share own same. own-not job node share.node own same without) placed.parts (laws.own rooms holds job lo hi placed is))

-- what else is held takes as much of what is free
pub free-cpus-beside : (rooms : List NodeRoom) (holds more : List Hold) (node second : ℕ) → free_cpus rooms (holds ++ more) node second ≡ free_cpus rooms holds node second - held_cpus more node second
free-cpus-beside rooms holds more node second =
    omega (arith, sum_by-append (λ (hold : Hold). cond (covers node second hold) hold.cpus 0) holds more)

pub free-mem-beside : (rooms : List NodeRoom) (holds more : List Hold) (node second : ℕ) → free_mem rooms (holds ++ more) node second ≡ free_mem rooms holds node second - held_mem more node second
free-mem-beside rooms holds more node second =
    omega (arith, sum_by-append (λ (hold : Hold). cond (covers node second hold) hold.mem 0) holds more)

-- both sides hold the same besides
pub stays-beside : (rooms : List NodeRoom) (holds : List Hold) (new_rooms : List NodeRoom) (new_holds more : List Hold) (now node : ℕ) → StaysFrom rooms holds new_rooms new_holds now node → StaysFrom rooms (holds ++ more) new_rooms (new_holds ++ more) now node
stays-beside rooms holds new_rooms new_holds more now node stays = record {
  room = stays.room;
  cpus = λ second from below. free-cpus-beside new_rooms new_holds more node second ∙ ap (λ free. free - held_cpus more node second) (stays.cpus second from below) ∙ sym (free-cpus-beside rooms holds more node second);
  mem = λ second from below. free-mem-beside new_rooms new_holds more node second ∙ ap (λ free. free - held_mem more node second) (stays.mem second from below) ∙ sym (free-mem-beside rooms holds more node second);
}

-- the one side holds more of other nodes
pub stays-old : (rooms : List NodeRoom) (holds more : List Hold) (new_rooms : List NodeRoom) (new_holds : List Hold) (now node : ℕ) → All (λ (hold : Hold). hold.node ≢ node) more → StaysFrom rooms holds new_rooms new_holds now node → StaysFrom rooms (holds ++ more) new_rooms new_holds now node
stays-old rooms holds more new_rooms new_holds now node off stays = record {
  room = stays.room;
  cpus = λ second from below. omega (arith, stays.cpus second from below, free-cpus-beside rooms holds more node second, held-off (λ hold. hold.cpus) node second more off);
  mem = λ second from below. omega (arith, stays.mem second from below, free-mem-beside rooms holds more node second, held-off (λ hold. hold.mem) node second more off);
}

pub stays-new : (rooms : List NodeRoom) (holds : List Hold) (new_rooms : List NodeRoom) (new_holds more : List Hold) (now node : ℕ) → All (λ (hold : Hold). hold.node ≢ node) more → StaysFrom rooms holds new_rooms new_holds now node → StaysFrom rooms holds new_rooms (new_holds ++ more) now node
stays-new rooms holds new_rooms new_holds more now node off stays = record {
  room = stays.room;
  cpus = λ second from below. omega (arith, stays.cpus second from below, free-cpus-beside new_rooms new_holds more node second, held-off (λ hold. hold.cpus) node second more off);
  mem = λ second from below. omega (arith, stays.mem second from below, free-mem-beside new_rooms new_holds more node second, held-off (λ hold. hold.mem) node second more off);
}

-- the holds of the job at a place of a list, where it may not have the node
pub place-off : PlannerLaws → (base : BaseView) (ranked : List PlanJob) (now place node : ℕ) (job : PlanJob) → may_have_node node job ≡ false → All (λ (hold : Hold). hold.node ≢ node) (holds_of job (placement_of base ranked now place job))
place-off laws base ranked now place node job without =
    off-node laws base.rooms (holds_before base ranked now place) job now base.horizon node (placement_of base ranked now place job) refl without

-- jobs that may not have the node change nothing of it
pub stays-on : PlannerLaws → (base : BaseView) (ranked : List PlanJob) (now from node first more : ℕ) (new_rooms : List NodeRoom) (new_holds : List Hold) → first + more ≤ length ranked → times node (take (first + more) ranked) ≡ times node (take first ranked) → StaysFrom base.rooms (holds_before base ranked now first) new_rooms new_holds from node → StaysFrom base.rooms (holds_before base ranked now (first + more)) new_rooms new_holds from node
stays-on laws base ranked now from node first zero new_rooms new_holds few same stays = let none : first + 0 ≡ first = omega arith in rw none stays
stays-on laws base ranked now from node first (suc more) new_rooms new_holds few same stays =
    let next : first + suc more ≡ (first + more) + 1 = omega arith in
    let below : first + more < length ranked = omega (arith, few) in
    let at = there ranked (first + more) below in
    let longer : times node (take ((first + more) + 1) ranked) ≡ times node (take (first + more) ranked) + on node at.job = times-next node ranked (first + more) at.job below ∙ ap (λ job. times node (take (first + more) ranked) + on node job) (at.is at.job) in
    let there_same : times node (take ((first + more) + 1) ranked) ≡ times node (take first ranked) = rw next at same in
    let rises = times-up_to node ranked first (first + more) (omega arith) (omega (arith, below)) in
    let without : may_have_node node at.job ≡ false = elim (cases_Bool (may_have_node node at.job)) [
      | inl has ↦ absurd (omega (arith, longer, there_same, rises, has-on node at.job has))
      | inr without ↦ without
    ] in
    let so_far = stays-on laws base ranked now from node first more new_rooms new_holds (omega (arith, below)) (omega (arith, longer, there_same, rises)) stays in
    rw (next, laws.goes_on base ranked now (first + more) at.job below (at.is at.job))
    (stays-old base.rooms (holds_before base ranked now (first + more)) (holds_of at.job (placement_of base ranked now (first + more) at.job)) new_rooms new_holds from node (place-off laws base ranked now (first + more) node at.job without) so_far)

-- what is as free as itself, and as something that is as free
pub stays-self : (rooms : List NodeRoom) (holds : List Hold) (now node : ℕ) → StaysFrom rooms holds rooms holds now node
stays-self rooms holds now node = record { room = refl; cpus = λ second from below. refl; mem = λ second from below. refl }

pub stays-back : (rooms : List NodeRoom) (holds more : List Hold) (new_rooms : List NodeRoom) (new_holds : List Hold) (now node : ℕ) → StaysFrom rooms more rooms holds now node → StaysFrom rooms more new_rooms new_holds now node → StaysFrom rooms holds new_rooms new_holds now node
stays-back rooms holds more new_rooms new_holds now node back stays = record {
  room = stays.room;
  cpus = λ second from below. stays.cpus second from below ∙ sym (back.cpus second from below);
  mem = λ second from below. stays.mem second from below ∙ sym (back.mem second from below);
}

-- the order of the holds matters to nothing that is free
pub stays-permuted : (rooms : List NodeRoom) (holds : List Hold) (new_rooms : List NodeRoom) (new_holds moved : List Hold) (now node : ℕ) → IsPermutation new_holds moved → StaysFrom rooms holds new_rooms moved now node → StaysFrom rooms holds new_rooms new_holds now node
stays-permuted rooms holds new_rooms new_holds moved now node is stays = record {
  room = stays.room;
  cpus = λ second from below. ap (λ held. (room_at new_rooms node).cpus - held) (sym (sum_by-IsPermutation (λ (hold : Hold). cond (covers node second hold) hold.cpus 0) new_holds moved is)) ∙ stays.cpus second from below;
  mem = λ second from below. ap (λ held. (room_at new_rooms node).mem - held) (sym (sum_by-IsPermutation (λ (hold : Hold). cond (covers node second hold) hold.mem 0) new_holds moved is)) ∙ stays.mem second from below;
}

pub permuted-stays : (rooms : List NodeRoom) (holds : List Hold) (new_rooms : List NodeRoom) (new_holds moved : List Hold) (now node : ℕ) → IsPermutation new_holds moved → StaysFrom rooms holds new_rooms new_holds now node → StaysFrom rooms holds new_rooms moved now node
permuted-stays rooms holds new_rooms new_holds moved now node is stays = record {
  room = stays.room;
  cpus = λ second from below. ap (λ held. (room_at new_rooms node).cpus - held) (sum_by-IsPermutation (λ (hold : Hold). cond (covers node second hold) hold.cpus 0) new_holds moved is) ∙ stays.cpus second from below;
  mem = λ second from below. ap (λ held. (room_at new_rooms node).mem - held) (sum_by-IsPermutation (λ (hold : Hold). cond (covers node second hold) hold.mem 0) new_holds moved is) ∙ stays.mem second from below;
}
