-- Where too little is free for one task a node gives none.
use Rattle.std.proofs.Common.{◌≡◌, ◌⊎◌, ℕ, ◌+◌, ◌*◌, ◌/◌, ◌≤◌, ◌<◌, min, true, false, ◌&&◌, ◌||◌, not, eqb, leb, List, arith, refl, inl, inr}
use Rattle.std.proofs.lemmas.Bool.{cases_Bool, and_parts, eqb-true, leb-true}
use Rattle.resource_profile.specs.declared.NodeRoom.{NodeRoom}
use Rattle.resource_profile.specs.declared.Hold.{Hold}
use Rattle.resource_profile.specs.declared.levels.Amount.{Amount}
use Rattle.resource_profile.specs.Free.{room_at, free_cpus, free_mem, least_over}
use Rattle.resource_profile.specs.Windows.{free_of, IsShort}
use Rattle.plain_data.specs.declared.mem_ask.MemAsk.{MemAsk}
use Rattle.plain_data.specs.declared.mem_ask.MemAsk.TheVariants.{All, PerNode, PerCpu}
use Rattle.plain_data.specs.declared.seconds.TheConstants.{FOREVER, LAST_START}
use Rattle.backfill_planner.specs.declared.job.PlanJob.{PlanJob}
use Rattle.backfill_planner.specs.Giving.{window_end, is_barred, asked_mem, tasks_by_mem, may_have, tasks_given}
use Rattle.backfill_planner.specs.Sweeps.{GivesUntil}
use Rattle.backfill_planner.proofs.Takes.{no_quotient}
use Rattle.backfill_planner.proofs.Barring.{window-order}
use Rattle.backfill_planner.proofs.Rises.{window-any}

-- too little of the one or of the other
abbrev pub IsLess : ℕ → ℕ → ℕ → ℕ → Type 0
IsLess cpus mem least_cpus least_mem = (cpus < least_cpus) ⊎ (mem < least_mem)

by_mem-few : (ask : MemAsk) (cpus_per_task : ℕ) (room : NodeRoom) (mem most : ℕ) → tasks_by_mem ask cpus_per_task room mem most ≤ most
by_mem-few All cpus_per_task room mem most = elim (cases_Bool (eqb mem room.mem)) [ inl whole ↦ rw whole (omega arith) | inr less ↦ rw less (omega arith) ]
by_mem-few (PerNode asked) cpus_per_task room mem most = elim (cases_Bool (leb asked mem)) [ inl enough ↦ rw enough (omega arith) | inr less ↦ rw less (omega arith) ]
by_mem-few (PerCpu asked) cpus_per_task room mem most = omega arith

by_mem-short : (ask : MemAsk) (cpus_per_task : ℕ) (room : NodeRoom) (mem most : ℕ) → mem < asked_mem ask room cpus_per_task → tasks_by_mem ask cpus_per_task room mem most ≡ 0
by_mem-short All cpus_per_task room mem most short = elim (cases_Bool (eqb mem room.mem)) [
  | inl whole ↦ absurd (omega (arith, eqb-true mem room.mem whole, short))
  | inr less ↦ rw less refl
]
by_mem-short (PerNode asked) cpus_per_task room mem most short = elim (cases_Bool (leb asked mem)) [
  | inl enough ↦ absurd (omega (arith, leb-true asked mem enough, short))
  | inr less ↦ rw less refl
]
by_mem-short (PerCpu asked) cpus_per_task room mem most short =
    omega (arith, no_quotient mem (asked * cpus_per_task) (omega (arith, short)) short)

-- a job that takes whole nodes has none of a node that isn't free
pub none-of_part : (job : PlanJob) (room : NodeRoom) (cpus mem : ℕ) → job.exclusive ≡ true → IsLess cpus mem room.cpus room.mem → tasks_given job room cpus mem ≡ 0
none-of_part job room cpus mem alone less = elim (cases_Bool (may_have job room cpus mem)) [
  | inr may_not ↦ rw may_not refl
  | inl may ↦
      let whole = and_parts room.usable (not job.exclusive || (eqb cpus room.cpus && eqb mem room.mem)) may in
      let both : (eqb cpus room.cpus && eqb mem room.mem) ≡ true = rw alone at whole.1 in
      let parts = and_parts (eqb cpus room.cpus) (eqb mem room.mem) both in
      absurd (elim less [
        | inl few ↦ let h : cpus < room.cpus = few in omega (arith, h, eqb-true cpus room.cpus parts.0)
        | inr few ↦ let h : mem < room.mem = few in omega (arith, h, eqb-true mem room.mem parts.1)
      ])
]

-- and any other none where a task takes more
pub none-for_one : (job : PlanJob) (room : NodeRoom) (cpus mem : ℕ) → IsLess cpus mem job.cpus_per_task (asked_mem job.mem_ask room job.cpus_per_task) → tasks_given job room cpus mem ≡ 0
none-for_one job room cpus mem less = elim (cases_Bool (may_have job room cpus mem)) [
  | inr may_not ↦ rw may_not refl
  | inl may ↦ rw may (elim less [
    | inl few ↦
        let h : cpus < job.cpus_per_task = few in
        omega (arith, by_mem-few job.mem_ask job.cpus_per_task room mem (min job.per_node (cpus / job.cpus_per_task)), no_quotient cpus job.cpus_per_task (omega (arith, h)) h)
    | inr few ↦ by_mem-short job.mem_ask job.cpus_per_task room mem (min job.per_node (cpus / job.cpus_per_task)) few
  ])
]

-- so a node gives none until the last of what is too little is over
pub gives-short : (rooms : List NodeRoom) (holds : List Hold) (job : PlanJob) (from node until : ℕ) (least : Amount) → from < window_end job from → IsShort (λ moment. free_of rooms holds node moment) least from (window_end job from) until
    → ((cpus mem : ℕ) → IsLess cpus mem least.cpus least.mem → tasks_given job (room_at rooms node) cpus mem ≡ 0) → GivesUntil rooms holds job from node 0 until
gives-short rooms holds job from node until least window short none = record {
  later = short.later;
  same = λ second low high last.
      let end = window_end job second in
      let nothing = none (least_over (λ m. free_cpus rooms holds node m) second end) (least_over (λ m. free_mem rooms holds node m) second end)
      (short.less second end low high (window-order job from second low) (window-any job from second window (omega (arith, last)))) in
      elim (cases_Bool (is_barred job.barred node second end)) [
        | inl barred ↦ rw barred refl
        | inr clear ↦ rw clear nothing
      ];
}
