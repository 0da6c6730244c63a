-- When one job asks no more than another one, and what is known of the seconds before a start.
use Rattle.std.specs.Prelude.{◌≡◌, ◌⊎◌, ℕ, ◌≤◌, ◌<◌, List, None}
use Rattle.resource_profile.specs.declared.NodeRoom.{NodeRoom}
use Rattle.resource_profile.specs.declared.Hold.{Hold}
use Rattle.resource_profile.specs.Sets.{AsksNoMore}
use Rattle.plain_data.specs.declared.mem_ask.MemAsk.{MemAsk}
use Rattle.plain_data.specs.declared.mem_ask.MemAsk.TheVariants.{All, PerNode, PerCpu}
use Rattle.backfill_planner.specs.declared.job.PlanJob.{PlanJob}
use Rattle.backfill_planner.specs.Giving.{window_end}
use Rattle.backfill_planner.specs.Plans.{placement_at}
use Rattle.plain_data.specs.declared.seconds.TheConstants.{LAST_START}

-- the memory that one asks for is of the other's kind, and no more
abbrev pub IsNoMoreMem : MemAsk → MemAsk → Type 0
IsNoMoreMem All All = Unit {0}
IsNoMoreMem (PerNode lesser) (PerNode asked) = lesser ≤ asked
IsNoMoreMem (PerCpu lesser) (PerCpu asked) = (1 ≤ lesser) × (lesser ≤ asked)
IsNoMoreMem _ _ = ⊥

-- the jobs may have the same nodes, barred at the same times
pub record HaveSameNodes (one other : PlanJob) : Type 0 where
  pub nodes : one.nodes ≡ other.nodes
  pub barred : one.barred ≡ other.barred

-- Of the same nodes, barred at the same times, it asks for no more tasks, processors, megabytes and seconds; and a node
-- may have as many tasks of it as of the other, or all of its own.
pub record IsLesser (lesser job : PlanJob) : Type 0 where
  pub need : AsksNoMore lesser.need job.need
  pub nodes : lesser.nodes ≡ job.nodes
  pub barred : lesser.barred ≡ job.barred
  pub some_cpus : 1 ≤ lesser.cpus_per_task
  pub cpus : lesser.cpus_per_task ≤ job.cpus_per_task
  pub per_node : (job.per_node ≤ lesser.per_node) ⊎ (lesser.need.tasks ≤ lesser.per_node)
  pub exclusive : lesser.exclusive ≡ job.exclusive
  pub mem : IsNoMoreMem lesser.mem_ask job.mem_ask
  pub window : (second : ℕ) → second ≤ LAST_START → second < window_end lesser second
  pub no_longer : (second : ℕ) → second ≤ LAST_START → window_end lesser second ≤ window_end job second

-- at no second from `now` on and before `bound` some set fits
abbrev pub NoneBefore : List NodeRoom → List Hold → PlanJob → ℕ → ℕ → Type 0
NoneBefore rooms holds job now bound =
    (second : ℕ) → now ≤ second → second < bound → second ≤ LAST_START
    → placement_at rooms holds job second ≡ None
