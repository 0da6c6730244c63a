-- How the walk keeps what is held. Of the proof alone: no public call speaks of it.
use Rattle.std.specs.Prelude.{◌≡◌, ℕ, ◌+◌, ◌≤◌, List, [], ◌++◌, length, sum_by, All}
use Rattle.resource_profile.specs.declared.NodeRoom.{NodeRoom}
use Rattle.resource_profile.specs.declared.Hold.{Hold}
use Rattle.backfill_planner.specs.declared.job.PlanJob.{PlanJob}
use Rattle.backfill_planner.specs.Going.{first_places, held_without, suffices, needed}

-- the same holds in some order, by every sum over them
abbrev pub AreAlike : List Hold → List Hold → Type 0
AreAlike holds others = (amount : Hold → ℕ) → sum_by amount holds ≡ sum_by amount others

-- the holds, with others, are all of these
pub record AreAmong (holds all : List Hold) : Type 0 where
  pub others : List Hold
  pub sums : (amount : Hold → ℕ) → sum_by amount all ≡ sum_by amount holds + sum_by amount others

-- The places from `first` on are settled: of them those go that are `later`. All places before it are gone as yet.
pub record IsWalked (rooms : List NodeRoom) (stay : List Hold) (going : List (List Hold)) (job : PlanJob)
    (now first : ℕ) (later : List ℕ) (held : List Hold) : Type 0 where
  pub few : first ≤ length going
  pub behind : All (λ place. first ≤ place) later
  pub held_is : AreAlike held (held_without stay going (first_places first ++ later))
  pub result_is : needed (suffices rooms stay going job now) (length going) []
      ≡ needed (suffices rooms stay going job now) first later
