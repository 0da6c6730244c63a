-- The order of the holds matters to no plan, and a hold on another node changes nothing on a node.
use Rattle.std.proofs.Common.{◌≡◌, ◌≢◌, ℕ, ◌-◌, false, cond, List, [], ◌∷◌, ◌++◌, map, arith, refl, ap, sym, ◌∙◌, Option, is_some, eqb}
use Rattle.std.proofs.Math.Path.{fun_ext}
use Rattle.std.specs.Prelude.{find, option_and_then, option_to_list}
use Rattle.std.specs.List.Sorted.{IsPermutation}
use Rattle.std.proofs.lemmas.Bool.{ne_eqb}
use Rattle.std.proofs.lemmas.List.Sums.{sum_by-cons}
use Rattle.std.proofs.lemmas.List.Sorted.{sum_by-IsPermutation, IsPermutation-append, IsPermutation-refl}
use Rattle.resource_profile.specs.declared.NodeRoom.{NodeRoom}
use Rattle.resource_profile.specs.declared.Hold.{Hold}
use Rattle.resource_profile.specs.Free.{room_at, covers, held_cpus, held_mem, free_cpus, free_mem, least_over}
use Rattle.resource_profile.specs.Profiles.{HasFree}
use Rattle.backfill_planner.specs.declared.Placed.{Placed}
use Rattle.backfill_planner.specs.declared.job.PlanJob.{PlanJob}
use Rattle.backfill_planner.specs.Bases.{BaseView}
use Rattle.backfill_planner.specs.Giving.{window_end, is_barred, tasks_given, give, capacities}
use Rattle.backfill_planner.specs.Plans.{placement_at, first_second, placed_of, holds_of, plan_beside, seconds}

map-same : (f g : ℕ → ℕ) (xs : List ℕ) → ((x : ℕ) → f x ≡ g x) → map f xs ≡ map g xs
map-same f g xs same = ap (λ h. map h xs) (fun_ext same)

-- holds by which as much is held at each moment
pub record HoldTheSame (holds others : List Hold) (node : ℕ) : Type 0 where
  pub cpus : (moment : ℕ) → held_cpus holds node moment ≡ held_cpus others node moment
  pub mem : (moment : ℕ) → held_mem holds node moment ≡ held_mem others node moment

least_cpus-same : (rooms : List NodeRoom) (holds others : List Hold) (node from until : ℕ) → HoldTheSame holds others node → least_over (λ moment. free_cpus rooms holds node moment) from until ≡ least_over (λ moment. free_cpus rooms others node moment) from until
least_cpus-same rooms holds others node from until same =
    ap (λ (held : ℕ → ℕ). least_over (λ moment. (room_at rooms node).cpus - held moment) from until) (fun_ext same.cpus)

least_mem-same : (rooms : List NodeRoom) (holds others : List Hold) (node from until : ℕ) → HoldTheSame holds others node → least_over (λ moment. free_mem rooms holds node moment) from until ≡ least_over (λ moment. free_mem rooms others node moment) from until
least_mem-same rooms holds others node from until same =
    ap (λ (held : ℕ → ℕ). least_over (λ moment. (room_at rooms node).mem - held moment) from until) (fun_ext same.mem)

give-same : (rooms : List NodeRoom) (holds others : List Hold) (job : PlanJob) (start node : ℕ) → HoldTheSame holds others node → give rooms holds job start node ≡ give rooms others job start node
give-same rooms holds others job start node same =
    let given : ℕ → ℕ → ℕ = λ cpus mem. cond (is_barred job.barred node start (window_end job start)) 0 (tasks_given job (room_at rooms node) cpus mem) in
    ap (λ cpus. given cpus (least_over (λ moment. free_mem rooms holds node moment) start (window_end job start))) (least_cpus-same rooms holds others node start (window_end job start) same)
    ∙ ap (λ mem. given (least_over (λ moment. free_cpus rooms others node moment) start (window_end job start)) mem) (least_mem-same rooms holds others node start (window_end job start) same)

hold-permuted : (holds others : List Hold) (node : ℕ) → IsPermutation holds others → HoldTheSame holds others node
hold-permuted holds others node moved = record {
  cpus = λ moment. sym (sum_by-IsPermutation (λ (hold : Hold). cond (covers node moment hold) hold.cpus 0) holds others moved);
  mem = λ moment. sym (sum_by-IsPermutation (λ (hold : Hold). cond (covers node moment hold) hold.mem 0) holds others moved);
}

capacities-permuted : (rooms : List NodeRoom) (holds others : List Hold) (job : PlanJob) (start : ℕ) → IsPermutation holds others → capacities rooms holds job start ≡ capacities rooms others job start
unfolding capacities
capacities-permuted rooms holds others job start moved =
    map-same (λ node. give rooms holds job start node) (λ node. give rooms others job start node) job.nodes
    (λ node. give-same rooms holds others job start node (hold-permuted holds others node moved))

pub placement-permuted : (rooms : List NodeRoom) (holds others : List Hold) (job : PlanJob) (start : ℕ) → IsPermutation holds others → placement_at rooms holds job start ≡ placement_at rooms others job start
unfolding placement_at
placement-permuted rooms holds others job start moved = rw (capacities-permuted rooms holds others job start moved) refl

pub placed-permuted : (rooms : List NodeRoom) (holds others : List Hold) (job : PlanJob) (lo hi : ℕ) → IsPermutation holds others → placed_of rooms holds job lo hi ≡ placed_of rooms others job lo hi
unfolding placed_of first_second
placed-permuted rooms holds others job lo hi moved =
    ap (λ (placement : ℕ → Option Placed). option_and_then placement (find (λ start. is_some (placement start)) (seconds lo hi)))
    (fun_ext (λ start. placement-permuted rooms holds others job start moved))

pub plan_beside-permuted : (base : BaseView) (now : ℕ) (holds others : List Hold) (ranked : List PlanJob) → IsPermutation holds others → plan_beside base now holds ranked ≡ plan_beside base now others ranked
unfolding plan_beside
plan_beside-permuted base now holds others [] moved = refl
plan_beside-permuted base now holds others (job ∷ later) moved =
    let placed = placed_of base.rooms others job now base.horizon in
    ap (λ one. option_to_list one ++ plan_beside base now (holds ++ holds_of job one) later) (placed-permuted base.rooms holds others job now base.horizon moved)
    ∙ ap (λ rest. option_to_list placed ++ rest)
    (plan_beside-permuted base now (holds ++ holds_of job placed) (others ++ holds_of job placed) later
    (IsPermutation-append holds others (holds_of job placed) (holds_of job placed) moved (IsPermutation-refl (holds_of job placed))))

-- one more hold, on another node
other-node : (holds others : List Hold) (hold : Hold) (node : ℕ) → hold.node ≢ node → IsPermutation (hold ∷ holds) others → HoldTheSame holds others node
other-node holds others hold node apart moved =
    let off : eqb hold.node node ≡ false = ne_eqb hold.node node apart in
    record {
      cpus = λ moment.
          let outside : covers node moment hold ≡ false = rw off refl in
          let none : held_cpus (hold ∷ holds) node moment ≡ held_cpus holds node moment = sum_by-cons (λ (one : Hold). cond (covers node moment one) one.cpus 0) hold holds ∙ rw outside (omega arith) in
          sym none ∙ (hold-permuted (hold ∷ holds) others node moved).cpus moment;
      mem = λ moment.
          let outside : covers node moment hold ≡ false = rw off refl in
          let none : held_mem (hold ∷ holds) node moment ≡ held_mem holds node moment = sum_by-cons (λ (one : Hold). cond (covers node moment one) one.mem 0) hold holds ∙ rw outside (omega arith) in
          sym none ∙ (hold-permuted (hold ∷ holds) others node moved).mem moment;
    }

pub free-beside : (rooms : List NodeRoom) (holds others : List Hold) (hold next : Hold) → HasFree rooms holds next → hold.node ≢ next.node → IsPermutation (hold ∷ holds) others → HasFree rooms others next
free-beside rooms holds others hold next free apart moved =
    let same = other-node holds others hold next.node apart moved in
    record {
      node = free.node;
      window = free.window;
      cpus = omega (arith, free.cpus, least_cpus-same rooms holds others next.node next.from next.until same);
      mem = omega (arith, free.mem, least_mem-same rooms holds others next.node next.from next.until same);
    }
