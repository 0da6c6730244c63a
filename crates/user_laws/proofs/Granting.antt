-- What a placement gives its job: the tasks that are dealt to its nodes, and what they ask for there.
use Rattle.std.proofs.Common.{suc, ℕ, ◌≡◌, ◌≤◌, ◌<◌, ◌-◌, ◌*◌, ◌/◌, ◌∙◌, min, Bool, true, false, ◌&&◌, ◌||◌, not, cond, List, [], ◌∷◌, map, All, Any, Contains, length, sum_by, slice_index, refl, sym, ap, arith, inl, inr, nat_eq}
use Rattle.std.specs.Prelude.{nat_le}
use Rattle.std.proofs.Math.Nat.{mul_assoc, mul_comm}
use Rattle.std.proofs.lemmas.Bool.{and_parts, cases_Bool, cases_lt, eqb-true, leb-true}
use Rattle.std.proofs.lemmas.List.{get_or_past, length-map}
use Rattle.std.proofs.lemmas.List.Elements.{All-cons, All-contains_itself, All-head, All-map, All-nil, All-tail, All-weaker}
use Rattle.std.proofs.lemmas.List.Sums.{sum_by-cons}
use Rattle.plain_data.specs.declared.mem_ask.MemAsk.{MemAsk}
use Rattle.plain_data.specs.declared.mem_ask.MemAsk.TheVariants.{All as AllMem, PerNode, PerCpu}
use Rattle.resource_profile.specs.declared.NodeRoom.{NodeRoom}
use Rattle.resource_profile.specs.declared.Hold.{Hold}
use Rattle.resource_profile.specs.Free.{free_cpus, free_mem, least_over, room_at}
use Rattle.resource_profile.specs.declared.picking.Dealt.{Dealt}
use Rattle.resource_profile.specs.Sets.{capacity, dealt, tasks_given as tasks_together}
use Rattle.backfill_planner.specs.declared.Placed.{Placed}
use Rattle.backfill_planner.specs.declared.Share.{Share}
use Rattle.backfill_planner.specs.declared.job.PlanJob.{PlanJob}
use Rattle.backfill_planner.specs.Giving.{asked_mem, capacities, give, is_barred, may_have, taken_cpus, taken_mem, tasks_by_mem, tasks_given, window_end}
use Rattle.backfill_planner.specs.Placements.{IsPlacement}
use Rattle.backfill_planner.specs.Plans.{share_of}
use Rattle.user_laws.proofs.Lists.{any_mapped, sum_mapped}
use Rattle.backfill_planner.proofs.Dealing.{length-capacities as long-caps}
use Rattle.backfill_planner.proofs.Holding.{capacity-give}
use Rattle.backfill_planner.proofs.Takes.{within_quotient as within-quotient}
use Rattle.daemon_world.proofs.Lists.{any_none, any_here, any_there, any_cases, any_weaker}

-- ---- what is dealt

-- the part is on a place that there is, and has a task at least, and no more than it can give
record IsGiven (caps : List ℕ) (part : Dealt) : Type 0 where
  pub place : part.place < length caps
  pub some : 1 ≤ part.tasks
  pub few : part.tasks ≤ capacity caps part.place

abbrev Gives : List ℕ → ℕ → Type 0
Gives caps place = 1 ≤ capacity caps place

in-range : (caps : List ℕ) (place : ℕ) → Gives caps place → place < length caps
in-range caps place some = elim (cases_lt place (length caps)) [
  | inl below ↦ below
  | inr past ↦ absurd (omega (arith, some, get_or_past caps place 0 past))
]

dealt-given : (caps : List ℕ) (tasks : ℕ) (set : List ℕ) → All (Gives caps) set → length set ≤ tasks
    → All (IsGiven caps) (dealt caps tasks set)
dealt-given caps tasks [] giving few = All-nil (IsGiven caps)
dealt-given caps tasks (place ∷ later) giving few =
    let some : 1 ≤ capacity caps place = All-head (Gives caps) place later giving in
    let given = min (capacity caps place) (tasks - length later) in
    All-cons (IsGiven caps) (record { place = place; tasks = given }) (dealt caps (tasks - given) later)
    (record { place = in-range caps place some; some = omega (arith, some, few); few = omega arith })
    (dealt-given caps (tasks - given) later (All-tail (Gives caps) place later giving) (omega (arith, few)))

-- places that give a task each give as many tasks together as there are places
each-gives : (caps set : List ℕ) → All (Gives caps) set → length set ≤ tasks_together caps set
each-gives caps [] giving = omega arith
each-gives caps (place ∷ later) giving =
    omega (
      arith,
      sum_by-cons (λ place. capacity caps place) place later,
      All-head (Gives caps) place later giving,
      each-gives caps later (All-tail (Gives caps) place later giving),
    )

-- all tasks are dealt
dealt-all : (caps : List ℕ) (tasks : ℕ) (set : List ℕ) → All (Gives caps) set → length set ≤ tasks
    → tasks ≤ tasks_together caps set → sum_by (λ (part : Dealt). part.tasks) (dealt caps tasks set) ≡ tasks
dealt-all caps tasks [] giving few enough = omega (arith, enough)
dealt-all caps tasks (place ∷ later) giving few enough =
    let some : 1 ≤ capacity caps place = All-head (Gives caps) place later giving in
    let others = All-tail (Gives caps) place later giving in
    let given = min (capacity caps place) (tasks - length later) in
    let together = sum_by-cons (λ place. capacity caps place) place later in
    let rest = dealt-all caps (tasks - given) later others (omega (arith, few))
    (omega (arith, enough, together, each-gives caps later others, few)) in
    omega (
      arith,
      sum_by-cons (λ (part : Dealt). part.tasks) (record { place = place; tasks = given })
          (dealt caps (tasks - given) later),
      rest,
      few,
    )

-- to as many places as the set has, each of them among these
dealt-long : (caps : List ℕ) (tasks : ℕ) (set : List ℕ) → length (dealt caps tasks set) ≡ length set
dealt-long caps tasks [] = refl
dealt-long caps tasks (place ∷ later) =
    ap suc (dealt-long caps (tasks - min (capacity caps place) (tasks - length later)) later)

dealt-has : (caps : List ℕ) (tasks : ℕ) (set : List ℕ) (wanted : ℕ) → Any (λ place. place ≡ wanted) set
    → Any (λ (part : Dealt). part.place ≡ wanted) (dealt caps tasks set)
dealt-has caps tasks [] wanted any = absurd (any_none (λ place. place ≡ wanted) any)
dealt-has caps tasks (place ∷ later) wanted any =
    let Wanted = λ (part : Dealt). part.place ≡ wanted in
    let given = min (capacity caps place) (tasks - length later) in
    let first : Dealt = record { place = place; tasks = given } in
    let rest = dealt caps (tasks - given) later in
    elim (any_cases (λ place. place ≡ wanted) place later any) [
      | inl here ↦ any_here Wanted first rest here
      | inr behind ↦ any_there Wanted first rest (dealt-has caps (tasks - given) later wanted behind)
    ]

-- ---- what a node gives

-- so many tasks may stand on a node of this room, and it is enough for them
pub record CanTake (job : PlanJob) (room : NodeRoom) (tasks : ℕ) : Type 0 where
  pub usable : room.usable ≡ true
  pub few : tasks ≤ job.per_node
  pub enough_cpus : tasks * job.cpus_per_task ≤ taken_cpus job room tasks
  pub enough_mem : asked_mem job.mem_ask room (tasks * job.cpus_per_task) ≤ taken_mem job room tasks

record Takes (ask : MemAsk) (cpus_per_task : ℕ) (room : NodeRoom) (mem most tasks : ℕ) : Type 0 where
  pub few : tasks ≤ most
  pub free : asked_mem ask room (tasks * cpus_per_task) ≤ mem

by-mem : (ask : MemAsk) (cpus : ℕ) (room : NodeRoom) (mem most tasks : ℕ) → 1 ≤ tasks
    → tasks ≤ tasks_by_mem ask cpus room mem most → Takes ask cpus room mem most tasks
by-mem AllMem cpus room mem most tasks some few = elim (cases_Bool (nat_eq mem room.mem)) [
  | inl whole ↦ record { few = rw whole at few; free = omega (arith, eqb-true mem room.mem whole) }
  | inr less ↦ let none = rw less at few in absurd (omega (arith, some, none))
]
by-mem (PerNode asked) cpus room mem most tasks some few = elim (cases_Bool (nat_le asked mem)) [
  | inl enough ↦ record { few = rw enough at few; free = leb-true asked mem enough }
  | inr less ↦ let none = rw less at few in absurd (omega (arith, some, none))
]
by-mem (PerCpu asked) cpus room mem most tasks some few =
    let within : tasks * (asked * cpus) ≤ mem = within-quotient tasks mem (asked * cpus) (omega (arith, few)) in
    let turned : asked * (tasks * cpus) ≡ tasks * (asked * cpus) =
    sym (mul_assoc asked tasks cpus) ∙ ap (λ n. n * cpus) (mul_comm asked tasks) ∙ mul_assoc tasks asked cpus in
    record { few = omega (arith, few); free = omega (arith, turned, within) }

can-take : (job : PlanJob) (room : NodeRoom) (cpus mem tasks : ℕ) → 1 ≤ tasks
    → tasks ≤ tasks_given job room cpus mem → CanTake job room tasks
can-take job room cpus mem tasks some few = elim (cases_Bool (may_have job room cpus mem)) [
  | inr may_not ↦ let none = rw may_not at few in absurd (omega (arith, some, none))
  | inl may ↦
      let most = min job.per_node (cpus / job.cpus_per_task) in
      let takes = by-mem job.mem_ask job.cpus_per_task room mem most tasks some (rw may at few) in
      let whole = and_parts room.usable (not job.exclusive || (nat_eq cpus room.cpus && nat_eq mem room.mem)) may in
      let within = within-quotient tasks cpus job.cpus_per_task (omega (arith, takes.few)) in
      elim (cases_Bool job.exclusive) [
        | inr shares ↦ record {
          usable = whole.0;
          few = omega (arith, takes.few);
          enough_cpus = rw shares (omega arith);
          enough_mem = rw shares (omega arith);
        }
        | inl alone ↦
            let both : (nat_eq cpus room.cpus && nat_eq mem room.mem) ≡ true = rw alone at whole.1 in
            let parts = and_parts (nat_eq cpus room.cpus) (nat_eq mem room.mem) both in
            record {
              usable = whole.0;
              few = omega (arith, takes.few);
              enough_cpus = rw alone (omega (arith, eqb-true cpus room.cpus parts.0, within));
              enough_mem = rw alone (omega (arith, eqb-true mem room.mem parts.1, takes.free));
            }
      ]
]

-- ---- the parts of a placement

-- the share is on a node of the job, and gives its tasks what they ask for
pub record IsShare (rooms : List NodeRoom) (job : PlanJob) (share : Share) : Type 0 where
  pub node : Contains job.nodes share.node
  pub some : 1 ≤ share.tasks
  pub cpus : share.cpus ≡ taken_cpus job (room_at rooms share.node) share.tasks
  pub mem : share.mem ≡ taken_mem job (room_at rooms share.node) share.tasks
  pub takes : CanTake job (room_at rooms share.node) share.tasks

unbarred : (barred : Bool) (given tasks : ℕ) → 1 ≤ tasks → tasks ≤ cond barred 0 given → tasks ≤ given
unbarred true given tasks some few = absurd (omega (arith, some, few))
unbarred false given tasks some few = few

share-is : (rooms : List NodeRoom) (holds : List Hold) (job : PlanJob) (start : ℕ) (part : Dealt)
    → IsGiven (capacities rooms holds job start) part → IsShare rooms job (share_of rooms job part)
share-is rooms holds job start part given =
    let below : part.place < length job.nodes = omega (arith, given.place, long-caps rooms holds job start) in
    let node = slice_index job.nodes part.place in
    let room = room_at rooms node in
    let cpus = least_over (λ moment. free_cpus rooms holds node moment) start (window_end job start) in
    let mem = least_over (λ moment. free_mem rooms holds node moment) start (window_end job start) in
    let few : part.tasks ≤ give rooms holds job start node =
    rw (capacity-give rooms holds job start part.place below) at given.few in
    record {
      node = All-contains_itself job.nodes part.place 0 below;
      some = given.some;
      cpus = refl;
      mem = refl;
      takes = can-take job room cpus mem part.tasks given.some
          (unbarred (is_barred job.barred node start (window_end job start)) (tasks_given job room cpus mem) part.tasks
          given.some few);
    }

-- These shares are what a placement gives its job: as many nodes as it may have, the first ones that it must have among
-- them, and all its tasks spread over them.
pub record IsGranted (rooms : List NodeRoom) (job : PlanJob) (shares : List Share) : Type 0 where
  pub each : All (IsShare rooms job) shares
  pub all : sum_by (λ (share : Share). share.tasks) shares ≡ job.need.tasks
  pub least : job.need.least ≤ length shares
  pub most : length shares ≤ job.need.most
  pub required : (place : ℕ) → place < job.need.required
      → Any (λ (share : Share). share.node ≡ slice_index job.nodes place) shares

pub placement_grants : (rooms : List NodeRoom) (holds : List Hold) (job : PlanJob) (lo hi : ℕ) (placed : Placed)
    → IsPlacement rooms holds job lo hi placed → IsGranted rooms job placed.parts
placement_grants rooms holds job lo hi placed is =
    let caps = capacities rooms holds job placed.start in
    let fits = is.is_chosen.fits in
    let parts = dealt caps job.need.tasks is.set in
    let share = λ (part : Dealt). share_of rooms job part in
    let long : length (map share parts) ≡ length is.set =
    length-map parts share ∙ dealt-long caps job.need.tasks is.set in
    rw is.parts (record {
      each = All-map (IsShare rooms job) share parts
          (All-weaker (IsGiven caps) (λ (part : Dealt). IsShare rooms job (share part))
          (λ part given. share-is rooms holds job placed.start part given) parts
          (dealt-given caps job.need.tasks is.set fits.giving fits.at_most_tasks));
      all = sum_mapped (λ (one : Share). one.tasks) share parts
          ∙ dealt-all caps job.need.tasks is.set fits.giving fits.at_most_tasks fits.enough;
      least = omega (arith, long, fits.at_least);
      most = omega (arith, long, fits.at_most);
      required = λ place below.
          let has = fits.required place below in
          any_mapped (λ (one : Share). one.node ≡ slice_index job.nodes place) share parts
          (any_weaker (λ (part : Dealt). part.place ≡ place)
          (λ (part : Dealt). slice_index job.nodes part.place ≡ slice_index job.nodes place) parts
          (λ part same. ap (slice_index job.nodes) same)
          (dealt-has caps job.need.tasks is.set place (has.0, place, has.1, has.2, refl)));
    })
