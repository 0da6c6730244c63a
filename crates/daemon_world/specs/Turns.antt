-- A daemon's turn at the controller, as events of the world.
use Rattle.std.specs.Prelude.{◌≡◌, ℕ, false, List, bytes_eq}
use Rattle.ctl_core.specs.Step.{state_after}
use Rattle.ctl_desk.specs.declared.entry.Answer.{Answer}
use Rattle.ctl_desk.specs.Desk.{Sight, seen, state_at}
use Rattle.ctl_state.specs.State.{State}
use Rattle.node_daemon.specs.Daemon.{Daemon}
use Rattle.node_daemon.specs.Turn.{AnswersReport, report_at, root}
use Rattle.daemon_world.specs.Worlds.{AllCanHappen, Event, World, world_after_all}

-- Events that can happen in the world one after the other, and lead to a world in which the controller is in this state
-- and the daemon of the node is this one. All other daemons are as they were.
pub record Leads (w : World) (node : List ℕ) (behind : State) (turned : Daemon) : Type 0 where
  pub events : List Event
  pub can : AllCanHappen w events
  pub state : (world_after_all w events).state ≡ behind
  pub daemon : (world_after_all w events).daemons node ≡ turned
  pub others : (other : List ℕ) → bytes_eq other node ≡ false
      → (world_after_all w events).daemons other ≡ w.daemons other

-- the state of the controller once the daemon of the node has reported
abbrev pub state_told : World → ℕ → List ℕ → State
state_told w now node = state_after w.state now root (report_at now (w.daemons node))

-- the report of the node's daemon, where it is answered at the desk, is answered in the state of this world
abbrev pub IsAskedIn : World → ℕ → List ℕ → Sight → Sight → Type 0
IsAskedIn w now node desk desk' = (answer : Answer) → AnswersReport now (w.daemons node) desk desk' answer
    → state_at desk.opening (seen desk') answer.place ≡ w.state
