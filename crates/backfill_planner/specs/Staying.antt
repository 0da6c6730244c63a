-- When nothing has changed on the nodes that a job may have.
use Rattle.std.specs.Prelude.{◌≡◌, ◌⊎◌, ℕ, ◌≤◌, ◌<◌, List}
use Rattle.resource_profile.specs.declared.NodeRoom.{NodeRoom}
use Rattle.resource_profile.specs.declared.Hold.{Hold}
use Rattle.resource_profile.specs.Free.{room_at, free_cpus, free_mem}
use Rattle.backfill_planner.specs.declared.job.PlanJob.{PlanJob}
use Rattle.backfill_planner.specs.Giving.{window_end}
use Rattle.plain_data.specs.declared.seconds.TheConstants.{FOREVER, LAST_START}

-- The node's room is the same, and as much of it is free at each second from `now` on, up to where all windows end.
pub record StaysFrom (rooms : List NodeRoom) (holds : List Hold) (new_rooms : List NodeRoom) (new_holds : List Hold)
    (now node : ℕ) : Type 0 where
  pub room : room_at new_rooms node ≡ room_at rooms node
  pub cpus : (second : ℕ) → now ≤ second → second < FOREVER
      → free_cpus new_rooms new_holds node second ≡ free_cpus rooms holds node second
  pub mem : (second : ℕ) → now ≤ second → second < FOREVER
      → free_mem new_rooms new_holds node second ≡ free_mem rooms holds node second

-- The same up to an earlier second: as much of the node is free at each second from `now` on and before `until`.
pub record StaysBefore (rooms : List NodeRoom) (holds : List Hold) (new_rooms : List NodeRoom) (new_holds : List Hold)
    (now until node : ℕ) : Type 0 where
  pub room : room_at new_rooms node ≡ room_at rooms node
  pub cpus : (second : ℕ) → now ≤ second → second < until
      → free_cpus new_rooms new_holds node second ≡ free_cpus rooms holds node second
  pub mem : (second : ℕ) → now ≤ second → second < until
      → free_mem new_rooms new_holds node second ≡ free_mem rooms holds node second

-- The node's room is the same, and no more of it is free at each second from `now` on and before `until`.
pub record IsNoFreer (rooms : List NodeRoom) (holds : List Hold) (new_rooms : List NodeRoom) (new_holds : List Hold)
    (now until node : ℕ) : Type 0 where
  pub room : room_at new_rooms node ≡ room_at rooms node
  pub cpus : (second : ℕ) → now ≤ second → second < until
      → free_cpus new_rooms new_holds node second ≤ free_cpus rooms holds node second
  pub mem : (second : ℕ) → now ≤ second → second < until
      → free_mem new_rooms new_holds node second ≤ free_mem rooms holds node second

-- its windows end there
abbrev pub EndsInTime : PlanJob → Type 0
EndsInTime job = (start : ℕ) → start ≤ LAST_START → window_end job start ≤ FOREVER

-- it is none of the seconds after `last` and up to `hi`
abbrev pub IsOutside : ℕ → ℕ → ℕ → Type 0
IsOutside last hi second = (second ≤ last) ⊎ (hi < second)
