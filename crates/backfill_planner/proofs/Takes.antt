-- What a job takes of a node for its tasks is free there.
use Rattle.std.proofs.Common.{◌≡◌, ℕ, ◌*◌, ◌/◌, ◌≤◌, ◌<◌, min, true, ◌&&◌, ◌||◌, not, eqb, leb, arith, ap, sym, ◌∙◌, inl, inr}
use Rattle.std.proofs.Math.Nat.{div-mul-le_self, mul_comm, mul_assoc}
use Rattle.std.proofs.lemmas.Nat.{mul-le, div_below}
use Rattle.std.proofs.lemmas.Bool.{cases_Bool, and_parts, eqb-true, leb-true}
use Rattle.resource_profile.specs.declared.NodeRoom.{NodeRoom}
use Rattle.plain_data.specs.declared.mem_ask.MemAsk.{MemAsk}
use Rattle.plain_data.specs.declared.mem_ask.MemAsk.TheVariants.{All, PerNode, PerCpu}
use Rattle.backfill_planner.specs.declared.job.PlanJob.{PlanJob}
use Rattle.backfill_planner.specs.Giving.{tasks_by_mem, may_have, tasks_given, taken_cpus, asked_mem, taken_mem}

-- a part that is larger is in it not once
pub no_quotient : (whole part : ℕ) → 0 < part → whole < part → whole / part ≡ 0
no_quotient whole part some less = omega (arith, div_below whole part 1 some (omega (arith, less)))

-- as many as a quotient are at most what was divided
pub within_quotient : (tasks whole part : ℕ) → tasks ≤ whole / part → tasks * part ≤ whole
within_quotient tasks whole part most =
    omega (arith, mul-le tasks part (whole / part) part most (omega arith), div-mul-le_self whole part)

pub record Takes (ask : MemAsk) (cpus_per_task : ℕ) (room : NodeRoom) (mem most tasks : ℕ) : Type 0 where
  pub few : tasks ≤ most
  pub free : asked_mem ask room (tasks * cpus_per_task) ≤ mem

takes_by_mem : (ask : MemAsk) (cpus_per_task : ℕ) (room : NodeRoom) (mem most tasks : ℕ) → 1 ≤ tasks_by_mem ask cpus_per_task room mem most → tasks ≤ tasks_by_mem ask cpus_per_task room mem most → Takes ask cpus_per_task room mem most tasks
takes_by_mem All cpus_per_task room mem most tasks some few = elim (cases_Bool (eqb mem room.mem)) [
  | inl whole ↦ record { few = rw whole at few; free = omega (arith, eqb-true mem room.mem whole) }
  | inr less ↦ let none = rw less at some in absurd (omega (arith, none))
]
takes_by_mem (PerNode asked) cpus_per_task room mem most tasks some few = elim (cases_Bool (leb asked mem)) [
  | inl enough ↦ record { few = rw enough at few; free = leb-true asked mem enough }
  | inr less ↦ let none = rw less at some in absurd (omega (arith, none))
]
takes_by_mem (PerCpu asked) cpus_per_task room mem most tasks some few =
    let within : tasks * (asked * cpus_per_task) ≤ mem = within_quotient tasks mem (asked * cpus_per_task) (omega (arith, few)) in
    let turned : asked * (tasks * cpus_per_task) ≡ tasks * (asked * cpus_per_task) = sym (mul_assoc asked tasks cpus_per_task) ∙ ap (λ n. n * cpus_per_task) (mul_comm asked tasks) ∙ mul_assoc tasks asked cpus_per_task in
    record { few = omega (arith, few); free = omega (arith, turned, within) }

pub record TakesWhatIsFree (job : PlanJob) (room : NodeRoom) (cpus mem tasks : ℕ) : Type 0 where
  pub free_cpus : taken_cpus job room tasks ≤ cpus
  pub free_mem : taken_mem job room tasks ≤ mem

pub takes_what_is_free : (job : PlanJob) (room : NodeRoom) (cpus mem tasks : ℕ) → 1 ≤ tasks_given job room cpus mem → tasks ≤ tasks_given job room cpus mem → TakesWhatIsFree job room cpus mem tasks
takes_what_is_free job room cpus mem tasks some few = elim (cases_Bool (may_have job room cpus mem)) [
  | inr may_not ↦ let none = rw may_not at some in absurd (omega (arith, none))
  | inl may ↦
      let most = min job.per_node (cpus / job.cpus_per_task) in
      let takes = takes_by_mem job.mem_ask job.cpus_per_task room mem most tasks (rw may at some) (rw may at few) in
      elim (cases_Bool job.exclusive) [
        | inr shares ↦ record {
          free_cpus = rw shares (within_quotient tasks cpus job.cpus_per_task (omega (arith, takes.few)));
          free_mem = rw shares takes.free;
        }
        | inl alone ↦
            let whole = and_parts room.usable (not job.exclusive || (eqb cpus room.cpus && eqb mem room.mem)) may in
            let both : (eqb cpus room.cpus && eqb mem room.mem) ≡ true = rw alone at whole.1 in
            let parts = and_parts (eqb cpus room.cpus) (eqb mem room.mem) both in
            record {
              free_cpus = rw alone (omega (arith, eqb-true cpus room.cpus parts.0));
              free_mem = rw alone (omega (arith, eqb-true mem room.mem parts.1));
            }
      ]
]

-- and so many tasks take no more processors than are free
pub tasks_within : (job : PlanJob) (room : NodeRoom) (cpus mem : ℕ) → tasks_given job room cpus mem * job.cpus_per_task ≤ cpus
tasks_within job room cpus mem = elim (cases_Bool (may_have job room cpus mem)) [
  | inr may_not ↦ rw may_not (omega arith)
  | inl may ↦ rw may (within_quotient (tasks_by_mem job.mem_ask job.cpus_per_task room mem (min job.per_node (cpus / job.cpus_per_task))) cpus job.cpus_per_task
      (omega (arith, at_most job.mem_ask job.cpus_per_task room mem (min job.per_node (cpus / job.cpus_per_task)))))
] where
  at_most : (ask : MemAsk) (cpus_per_task : ℕ) (room : NodeRoom) (mem most : ℕ) → tasks_by_mem ask cpus_per_task room mem most ≤ most
  at_most All cpus_per_task room mem most = elim (cases_Bool (eqb mem room.mem)) [ inl whole ↦ rw whole (omega arith) | inr less ↦ rw less (omega arith) ]
  at_most (PerNode asked) cpus_per_task room mem most = elim (cases_Bool (leb asked mem)) [ inl enough ↦ rw enough (omega arith) | inr less ↦ rw less (omega arith) ]
  at_most (PerCpu asked) cpus_per_task room mem most = omega arith

pub tasks_fit : (job : PlanJob) (room : NodeRoom) (cpus mem bound : ℕ) → cpus < bound → tasks_given job room cpus mem * job.cpus_per_task < bound
tasks_fit job room cpus mem bound small = omega (arith, tasks_within job room cpus mem, small)

-- a task takes a processor at least, also where the job takes the whole node
pub takes_some : (job : PlanJob) (room : NodeRoom) (cpus mem tasks : ℕ) → 1 ≤ job.cpus_per_task → 1 ≤ tasks → 1 ≤ tasks_given job room cpus mem → 1 ≤ taken_cpus job room tasks
takes_some job room cpus mem tasks each one some = elim (cases_Bool job.exclusive) [
  | inr shares ↦ rw shares (omega (arith, mul-le 1 1 tasks job.cpus_per_task one each))
  | inl alone ↦ elim (cases_Bool (may_have job room cpus mem)) [
    | inr may_not ↦ let none = rw may_not at some in absurd (omega (arith, none))
    | inl may ↦
        let whole = and_parts room.usable (not job.exclusive || (eqb cpus room.cpus && eqb mem room.mem)) may in
        let both : (eqb cpus room.cpus && eqb mem room.mem) ≡ true = rw alone at whole.1 in
        let parts = and_parts (eqb cpus room.cpus) (eqb mem room.mem) both in
        rw alone (omega (arith, eqb-true cpus room.cpus parts.0, mul-le 1 1 (tasks_given job room cpus mem) job.cpus_per_task some each, tasks_within job room cpus mem))
  ]
]

-- only a node that a plan may use gives a task
pub gives_usable : (job : PlanJob) (room : NodeRoom) (cpus mem : ℕ) → 1 ≤ tasks_given job room cpus mem → room.usable ≡ true
gives_usable job room cpus mem some = elim (cases_Bool (may_have job room cpus mem)) [
  | inr may_not ↦ let none = rw may_not at some in absurd (omega (arith, none))
  | inl may ↦ (and_parts room.usable (not job.exclusive || (eqb cpus room.cpus && eqb mem room.mem)) may).0
]
