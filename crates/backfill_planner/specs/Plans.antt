-- The plan of a ranked list of jobs.
use Rattle.std.specs.Prelude.{◌≡◌, ℕ, ◌+◌, ◌-◌, ◌≤◌, nat_eq, if◌then◌else◌, List, [], ◌∷◌, ◌++◌, length, map, find, filter, take, sum_by, slice_index, slice_index_or, is_some, Option, Some, None, option_map, option_and_then, option_to_list}
use Rattle.resource_profile.specs.declared.NodeRoom.{NodeRoom}
use Rattle.resource_profile.specs.declared.Hold.{Hold}
use Rattle.resource_profile.specs.Free.{room_at}
use Rattle.resource_profile.specs.declared.picking.Dealt.{Dealt}
use Rattle.resource_profile.specs.Sets.{dealt}
use Rattle.resource_profile.specs.Choosing.{numbers_from, chosen}
use Rattle.backfill_planner.specs.declared.Share.{Share}
use Rattle.backfill_planner.specs.declared.Placed.{Placed}
use Rattle.backfill_planner.specs.declared.job.PlanJob.{PlanJob}
use Rattle.backfill_planner.specs.Bases.{BaseView}
use Rattle.backfill_planner.specs.Giving.{window_end, capacities, taken_cpus, taken_mem}

-- the job's part on the node at a place of its list, for so many tasks
abbrev pub share_of : List NodeRoom → PlanJob → Dealt → Share
share_of rooms job part =
    let node = slice_index job.nodes part.place in
    let room = room_at rooms node in
    record {
      node = node;
      tasks = part.tasks;
      cpus = taken_cpus job room part.tasks;
      mem = taken_mem job room part.tasks;
    }

-- the job's parts on the nodes at the places of a set, with the tasks dealt to them
abbrev pub shares_of : List NodeRoom → List Hold → PlanJob → ℕ → List ℕ → List Share
shares_of rooms holds job start set =
    map (λ part. share_of rooms job part) (dealt (capacities rooms holds job start) job.need.tasks set)

-- the placement of the job at this second: on the chosen set, or none where no set fits
unfoldable pub placement_at : List NodeRoom → List Hold → PlanJob → ℕ → Option Placed
placement_at rooms holds job start =
    option_map
    (λ set. record { id = job.id; start = start; parts = shares_of rooms holds job start set })
    (chosen (capacities rooms holds job start) job.need)

-- every second from `lo` to `hi`
abbrev pub seconds : ℕ → ℕ → List ℕ
seconds lo hi = numbers_from lo (hi + 1 - lo)

-- the least second from `lo` to `hi` at which some set fits, or none
unfoldable pub first_second : List NodeRoom → List Hold → PlanJob → ℕ → ℕ → Option ℕ
first_second rooms holds job lo hi = find (λ start. is_some (placement_at rooms holds job start)) (seconds lo hi)

-- the placement at that second
unfoldable pub placed_of : List NodeRoom → List Hold → PlanJob → ℕ → ℕ → Option Placed
placed_of rooms holds job lo hi =
    option_and_then (λ start. placement_at rooms holds job start) (first_second rooms holds job lo hi)

-- what the job holds of the nodes for its window, if it is placed
abbrev pub holds_of : PlanJob → Option Placed → List Hold
holds_of job None = []
holds_of job (Some placed) =
    map (λ (share : Share). record {
      node = share.node;
      from = placed.start;
      until = window_end job placed.start;
      cpus = share.cpus;
      mem = share.mem;
    }) placed.parts

-- the placements of the jobs in order, each beside what those before it hold
unfoldable pub plan_beside : BaseView → ℕ → List Hold → List PlanJob → List Placed
plan_beside base now holds [] = []
plan_beside base now holds (job ∷ later) =
    let placed = placed_of base.rooms holds job now base.horizon in
    option_to_list placed ++ plan_beside base now (holds ++ holds_of job placed) later

-- the plan of a ranked list of jobs at a moment
unfoldable pub plan_of : BaseView → List PlanJob → ℕ → List Placed
plan_of base ranked now = plan_beside base now base.holds ranked

-- what the jobs hold that are placed, each beside what those before it hold
unfoldable pub plan_holds_beside : BaseView → ℕ → List Hold → List PlanJob → List Hold
plan_holds_beside base now holds [] = []
plan_holds_beside base now holds (job ∷ later) =
    let placed = placed_of base.rooms holds job now base.horizon in
    holds_of job placed ++ plan_holds_beside base now (holds ++ holds_of job placed) later

-- what the placed jobs of the plan hold
unfoldable pub plan_holds_of : BaseView → List PlanJob → ℕ → List Hold
plan_holds_of base ranked now = plan_holds_beside base now base.holds ranked

-- what is held when the job at a place of the list is planned: what the base holds, and the jobs before it
abbrev pub holds_before : BaseView → List PlanJob → ℕ → ℕ → List Hold
holds_before base ranked now place = base.holds ++ plan_holds_of base (take place ranked) now

-- the placement of the job that stands at this place of the list
abbrev pub placement_of : BaseView → List PlanJob → ℕ → ℕ → PlanJob → Option Placed
placement_of base ranked now place job =
    placed_of base.rooms (holds_before base ranked now place) job now base.horizon

-- how many placements the first jobs have, for each number of these from 0 to `done`
pub record AreCounted (base : BaseView) (ranked : List PlanJob) (now done : ℕ) (counts : List ℕ) : Type 0 where
  pub long : length counts ≡ done + 1
  pub each : (first d : ℕ) → first ≤ done
      → slice_index_or counts first d ≡ length (plan_of base (take first ranked) now)

-- the placements that begin at the moment
abbrev pub starts_at : ℕ → List Placed → List Placed
starts_at now placements = filter (λ (placed : Placed). nat_eq placed.start now) placements

-- the processors, and the megabytes, of the node that the placement takes
abbrev pub cpus_on : ℕ → Placed → ℕ
cpus_on node placed = sum_by (λ (share : Share). if nat_eq share.node node then share.cpus else 0) placed.parts

abbrev pub mem_on : ℕ → Placed → ℕ
mem_on node placed = sum_by (λ (share : Share). if nat_eq share.node node then share.mem else 0) placed.parts

-- what a plan is made of
pub record PlannedView : Type 0 where
  pub base : BaseView
  pub ranked : List PlanJob
  pub moment : ℕ

-- a plan in the making: so many of the first jobs are planned
pub record PlanningView : Type 0 where
  pub base : BaseView
  pub ranked : List PlanJob
  pub moment : ℕ
  pub done : ℕ
