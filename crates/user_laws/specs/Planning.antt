-- What is free for a job in a plan.
use Rattle.std.specs.Prelude.{◌≡◌, ◌≤◌, ℕ, true, List, [], All, Option, Some, None}
use Rattle.resource_profile.specs.declared.NodeRoom.{NodeRoom}
use Rattle.resource_profile.specs.declared.Hold.{Hold}
use Rattle.resource_profile.specs.Free.{held_cpus, held_mem, room_at}
use Rattle.backfill_planner.specs.declared.job.Barred.{Barred}
use Rattle.backfill_planner.specs.declared.job.PlanJob.{PlanJob}
use Rattle.backfill_planner.specs.declared.Placed.{Placed}
use Rattle.backfill_planner.specs.Placements.{FitsAt}
use Rattle.ctl_state.specs.State.{State}
use Rattle.ctl_waiting.specs.Candidates.{ranked}
use Rattle.ctl_pass.specs.Readiness.{placements, ready}
use Rattle.ctl_node_side.specs.Silence.{silenced}

-- from a moment on no more is held of any node by the latter than by the former
pub record HoldNoMore (holds less : List Hold) (from : ℕ) : Type 0 where
  pub cpus : (node moment : ℕ) → from ≤ moment → held_cpus less node moment ≤ held_cpus holds node moment
  pub mem : (node moment : ℕ) → from ≤ moment → held_mem less node moment ≤ held_mem holds node moment

-- each node that plans may use has the same room as before; others may have come into use
abbrev pub RoomsStay : List NodeRoom → List NodeRoom → Type 0
RoomsStay rooms next =
    (node : ℕ) → (room_at rooms node).usable ≡ true → room_at next node ≡ room_at rooms node

-- there is a placement, and it begins no later than this
abbrev pub BeginsBy : ℕ → Option Placed → Type 0
BeginsBy second None = ⊥
BeginsBy second (Some placed) = placed.start ≤ second

-- by this second what is held has ended, and so have the times at which nodes may not be had
pub record AreOver (held : List Hold) (times : List Barred) (second : ℕ) : Type 0 where
  pub holds : All (λ (hold : Hold). hold.until ≤ second) held
  pub barred : All (λ (time : Barred). time.until ≤ second) times

-- the job fits this set of its nodes where nothing is held, and it may have all of them
abbrev pub FitsAlone : List NodeRoom → PlanJob → ℕ → List ℕ → Type 0
FitsAlone rooms job second set = FitsAt rooms [] (record job { barred = [] }) second set

-- the candidates that a pass at a moment ranks, and the plan that it makes of them, once silent nodes are seen to
abbrev pub ranked_at : State → ℕ → List PlanJob
ranked_at s moment = ranked (ready (silenced s moment) moment) moment

abbrev pub plan_at : State → ℕ → List Placed
plan_at s moment = placements (silenced s moment) moment
