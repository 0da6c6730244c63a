-- How a search keeps what the job's nodes can give from a second to the next. Of the proof alone: no public call speaks
-- of it.
use Rattle.std.specs.Prelude.{◌≡◌, ◌≢◌, ℕ, ◌+◌, ◌*◌, ◌^◌, ◌≤◌, ◌<◌, List, length, slice_index, sum, All}
use Rattle.resource_profile.specs.declared.NodeRoom.{NodeRoom}
use Rattle.resource_profile.specs.declared.Hold.{Hold}
use Rattle.backfill_planner.specs.declared.job.Barred.{Barred}
use Rattle.backfill_planner.specs.declared.job.PlanJob.{PlanJob}
use Rattle.backfill_planner.specs.declared.sweep.Sweep.{Sweep}
use Rattle.backfill_planner.specs.Giving.{give}
use Rattle.plain_data.specs.declared.seconds.TheConstants.{LAST_START}

-- no hold ends after `start` and before `end`, and none of the times at which the job may not have nodes
pub record NoneEnds (holds : List Hold) (barred : List Barred) (start end : ℕ) : Type 0 where
  pub holds_last : (moment : ℕ) → start < moment → moment < end → All (λ (hold : Hold). hold.until ≢ moment) holds
  pub times_last : (moment : ℕ) → start < moment → moment < end → All (λ (time : Barred). time.until ≢ moment) barred

-- the node gives so many tasks to the job at each second from `from` on and before `until`
pub record GivesUntil (rooms : List NodeRoom) (holds : List Hold) (job : PlanJob) (from node tasks until : ℕ)
    : Type 0 where
  pub later : from < until
  pub same : (second : ℕ) → from ≤ second → second < until → second ≤ LAST_START
      → give rooms holds job second node ≡ tasks

-- the second of each row of eight nodes is no later than those of its nodes
abbrev pub HasLeasts : List ℕ → List ℕ → Type 0
HasLeasts leasts untils = (row i : ℕ) → row * 8 ≤ i → i < row * 8 + 8 → i < length untils
    → slice_index leasts row ≤ slice_index untils i

-- what each of the job's nodes gives from the sweep's second on, until when, and what they give together at it
pub record IsSwept (rooms : List NodeRoom) (holds : List Hold) (job : PlanJob) (sweep : Sweep) : Type 0 where
  pub long : length sweep.caps.items ≡ length job.nodes
  pub until_long : length sweep.untils.items ≡ length job.nodes
  pub each : (i : ℕ) → i < length job.nodes
      → GivesUntil rooms holds job sweep.second
      (slice_index job.nodes i) (slice_index sweep.caps.items i) (slice_index sweep.untils.items i)
  pub small : All (λ tasks. tasks * job.cpus_per_task < 2 ^ 32) sweep.caps.items
  pub few : length job.nodes < 2 ^ 32
  pub total : sweep.total ≡ sum sweep.caps.items
  pub later : sweep.second < sweep.least
  pub least : (i : ℕ) → i < length job.nodes → sweep.least ≤ slice_index sweep.untils.items i
  pub rows : length job.nodes ≤ length sweep.leasts.items * 8
  pub few_rows : length sweep.leasts.items < 2 ^ 32
  pub leasts : HasLeasts sweep.leasts.items sweep.untils.items

-- The sweep on its way to a second: what the nodes before a place give from that second on, and the others from the
-- sweep's on.
pub record IsHalfway (rooms : List NodeRoom) (holds : List Hold) (job : PlanJob) (sweep : Sweep) (second place : ℕ)
    : Type 0 where
  pub long : length sweep.caps.items ≡ length job.nodes
  pub until_long : length sweep.untils.items ≡ length job.nodes
  pub order : sweep.second ≤ second
  pub done : (i : ℕ) → i < place → i < length job.nodes
      → GivesUntil rooms holds job second
      (slice_index job.nodes i) (slice_index sweep.caps.items i) (slice_index sweep.untils.items i)
  pub rest : (i : ℕ) → place ≤ i → i < length job.nodes
      → GivesUntil rooms holds job sweep.second
      (slice_index job.nodes i) (slice_index sweep.caps.items i) (slice_index sweep.untils.items i)
  pub small : All (λ tasks. tasks * job.cpus_per_task < 2 ^ 32) sweep.caps.items
  pub few : length job.nodes < 2 ^ 32
  pub total : sweep.total ≡ sum sweep.caps.items
  pub rows : length job.nodes ≤ length sweep.leasts.items * 8
  pub few_rows : length sweep.leasts.items < 2 ^ 32
  pub leasts : HasLeasts sweep.leasts.items sweep.untils.items
