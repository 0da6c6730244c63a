-- The world of a cluster: its controller, the daemons of its nodes, and all that they ever sent one another.
use Rattle.std.specs.Prelude.{◌≡◌, ◌<◌, ℕ, if◌then◌else◌, List, [], ◌∷◌, bytes_eq, Contains}
use Rattle.plain_data.specs.Confs.{ConfView}
use Rattle.plain_data.specs.Assocs.{AssocView}
use Rattle.reply_data.specs.declared.orders.Orders.{Orders}
use Rattle.request_data.specs.declared.report.Report.{Report}
use Rattle.reply_data.specs.declared.reply.Reply.{Reply}
use Rattle.reply_data.specs.declared.reply.Reply.TheVariants.{Orders as Ordered}
use Rattle.request_data.specs.declared.request.Request.{Request}
use Rattle.request_data.specs.declared.request.Request.TheVariants.{Report as Reports}
use Rattle.ctl_state.specs.Soundness.{IsSound}
use Rattle.ctl_state.specs.State.{State, opening}
use Rattle.ctl_core.specs.Step.{IsInRange, reply_of, state_after}
use Rattle.node_daemon.specs.Daemon.{Daemon, given, polled, reported, started}
use Rattle.node_daemon.specs.Turn.{root}

-- The controller's state, the daemon of each node by the node's name, also of a node that isn't there yet or any more,
-- and all reports and orders ever sent. What was sent may come late, more than once, out of turn, or never.
pub record World : Type 0 where
  pub state : State
  pub daemons : List ℕ → Daemon
  pub reports : List Report
  pub orders : List Orders

-- What may happen: a daemon polls, and sends its report; a report comes to the controller; orders come to their daemon;
-- a daemon is started anew with a boot number; a user asks for anything, a pass or another slurm.conf among it.
pub data Event : Type 0 where
  Polls : (now : ℕ) (node : List ℕ) → Event
  ReportComes : (now : ℕ) (report : Report) → Event
  OrdersCome : (now : ℕ) (orders : Orders) → Event
  Restarts : (node : List ℕ) (boot : ℕ) → Event
  Asks : (now : ℕ) (user : List ℕ) (request : Request) → Event

-- the request is no report: those come from daemons alone
abbrev pub IsNoReport : Request → Type 0
IsNoReport (Reports report) = ⊥
IsNoReport request = Unit {0}

-- Only what was sent can come, and boot numbers of a daemon rise.
abbrev pub CanHappen : World → Event → Type 0
CanHappen w (Polls now node) = Unit {0}
CanHappen w (ReportComes now report) = Contains w.reports report
CanHappen w (OrdersCome now orders) = Contains w.orders orders
CanHappen w (Restarts node boot) = (w.daemons node).boot < boot
CanHappen w (Asks now user request) = IsInRange request × IsNoReport request

-- the daemons, of which the one of this node has become another
abbrev pub with_daemon : List ℕ → Daemon → (List ℕ → Daemon) → List ℕ → Daemon
with_daemon node daemon daemons other = if bytes_eq other node then daemon else daemons other

-- the orders ever sent, once the controller has replied
abbrev pub with_reply : Reply → List Orders → List Orders
with_reply (Ordered orders) sent = orders ∷ sent
with_reply reply sent = sent

-- the world after an event
abbrev pub world_after : World → Event → World
world_after w (Polls now node) = record w {
  daemons = with_daemon node (polled now (w.daemons node)) w.daemons;
  reports = reported (polled now (w.daemons node)) ∷ w.reports;
}
world_after w (ReportComes now report) = record w {
  state = state_after w.state now root (Reports report);
  orders = with_reply (reply_of w.state now root (Reports report)) w.orders;
}
world_after w (OrdersCome now orders) = record w {
  daemons = with_daemon orders.node (given now orders (w.daemons orders.node)) w.daemons;
}
world_after w (Restarts node boot) = record w { daemons = with_daemon node (started node boot) w.daemons }
world_after w (Asks now user request) = record w { state = state_after w.state now user request }

-- the world after events, of which each could happen when it did
abbrev pub world_after_all : World → List Event → World
world_after_all w [] = w
world_after_all w (event ∷ later) = world_after_all (world_after w event) later

abbrev pub AllCanHappen : World → List Event → Type 0
AllCanHappen w [] = Unit {0}
AllCanHappen w (event ∷ later) = CanHappen w event × AllCanHappen (world_after w event) later

-- the daemon is of this node, where nothing runs, and nothing is over that could be told; it may be any of its lives
pub record IsAtRest (node : List ℕ) (daemon : Daemon) : Type 0 where
  pub named : daemon.node ≡ node
  pub running : daemon.running ≡ []
  pub over : daemon.over ≡ []

-- the world before any event, with these daemons: nothing was sent
abbrev pub opening_world : ConfView → AssocView → (List ℕ → Daemon) → World
opening_world conf file daemons =
    record { state = opening conf file; daemons = daemons; reports = []; orders = [] }

-- The world has come about: from the opening one of two files, with daemons that run nothing, by events of which each
-- could happen when it did.
pub record HasComeAbout (w : World) : Type 0 where
  pub conf : ConfView
  pub file : AssocView
  pub daemons : List ℕ → Daemon
  pub at_rest : (node : List ℕ) → IsAtRest node (daemons node)
  pub sound : IsSound (opening conf file)
  pub events : List Event
  pub could : AllCanHappen (opening_world conf file daemons) events
  pub is : w ≡ world_after_all (opening_world conf file daemons) events
