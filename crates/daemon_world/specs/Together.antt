-- What holds the controller and a daemon together, whatever happens.
use Rattle.std.specs.Prelude.{◌≡◌, ◌<◌, ◌≤◌, ℕ, ◌+◌, Bool, true, false, ◌&&◌, ◌||◌, List, [], ◌++◌, map, All, Option, Some, None, IfSome, option_map}
use Rattle.request_data.specs.declared.report.Start.{Start}
use Rattle.request_data.specs.declared.report.Done.{Done}
use Rattle.request_data.specs.declared.report.Heard.{Heard}
use Rattle.request_data.specs.declared.report.Report.{Report}
use Rattle.reply_data.specs.declared.orders.Orders.{Orders}
use Rattle.node_state.specs.declared.record.DroppedNode.{DroppedNode}
use Rattle.node_state.specs.declared.record.NodeRecord.{NodeRecord}
use Rattle.node_state.specs.Nodes.{place_named}
use Rattle.node_state.specs.Renewing.{dropped_named}
use Rattle.ctl_state.specs.Planning.{is_at}
use Rattle.ctl_state.specs.Soundness.{IsSound}
use Rattle.ctl_state.specs.State.{State}
use Rattle.ctl_nodes.specs.Updating.{is_set_down}
use Rattle.ctl_node_side.specs.Reporting.{heard_of}
use Rattle.node_daemon.specs.Daemon.{Daemon, are_due, is_among}
use Rattle.node_daemon.specs.declared.running.Running.{Running}
use Rattle.daemon_world.specs.Claims.{Claim, AreHeld, claims_of, claims_ordered, times_claimed, times_claiming, times_over}
use Rattle.daemon_world.specs.Worlds.{World}

-- a boot number and a report's number come no later than others
pub record IsUpTo (life count last_life last_count : ℕ) : Type 0 where
  pub boot : life ≤ last_life
  pub number : life ≡ last_life → count ≤ last_count

-- they come later than others
pub record IsAfter (life count last_life last_count : ℕ) : Type 0 where
  pub boot : last_life ≤ life
  pub number : life ≡ last_life → last_count < count

-- the numbers of an accepted report: of which of its daemon's lives it was, and which one of that life
pub record Pair : Type 0 where
  pub boot : ℕ
  pub number : ℕ

abbrev pub pair_heard : Heard → Pair
pair_heard heard = record { boot = heard.boot; number = heard.number }

abbrev pub pair_dropped : DroppedNode → Pair
pair_dropped dropped = record { boot = dropped.boot; number = dropped.number }

-- the last accepted report of the node with this name: of the one at its place, or else of the one that went
abbrev pub kept_at : State → List ℕ → Option ℕ → Option Pair
kept_at s node (Some place) = option_map pair_heard (heard_of s.nodes place)
kept_at s node None = option_map pair_dropped (dropped_named node s.dropped)

abbrev pub kept_of : State → List ℕ → Option Pair
kept_of s node = kept_at s node (place_named node s.nodes)

-- a node that is there is none that went
abbrev pub IsNoneGone : State → List ℕ → Type 0
IsNoneGone s node = (place : ℕ) → place_named node s.nodes ≡ Some place → dropped_named node s.dropped ≡ None

-- the last accepted report came no later than these numbers, or there is none
abbrev pub HeardUpTo : Option Pair → ℕ → ℕ → Type 0
HeardUpTo None boot number = Unit {0}
HeardUpTo (Some pair) boot number = IsUpTo pair.boot pair.number boot number

-- it came earlier, or there is none
abbrev pub HeardBefore : Option Pair → ℕ → ℕ → Type 0
HeardBefore None boot number = Unit {0}
HeardBefore (Some pair) boot number = IsAfter boot number pair.boot pair.number

-- it came no earlier than these numbers
abbrev pub HeardSince : Option Pair → ℕ → ℕ → Type 0
HeardSince None boot number = ⊥
HeardSince (Some pair) boot number = IsUpTo boot number pair.boot pair.number

-- it was of an earlier life of the daemon, or there is none
abbrev pub HeardNoLife : Option Pair → ℕ → Type 0
HeardNoLife None boot = Unit {0}
HeardNoLife (Some pair) boot = pair.boot < boot

-- where a report of the node was accepted before, the last accepted one came no earlier
abbrev pub KeptRises : State → State → List ℕ → Type 0
KeptRises s s' node = IfSome (kept_of s node) (λ pair. HeardSince (kept_of s' node) pair.boot pair.number)

-- the node was set down, and then reported that nothing runs there
abbrev pub is_emptied : NodeRecord → Bool
is_emptied node = is_set_down node.down && node.empty

-- Starts with their processors that fit a node, beside those that are over there: each processor is of one of them at
-- most, while the node is up they are held there, and no start stands twice.
pub record Fit (s : State) (node : List ℕ) (claims : List Claim) (over : List Done) : Type 0 where
  pub apart : (cpu : ℕ) → times_claimed claims cpu ≤ 1
  pub held : AreHeld s node claims
  pub once : (start : Start) → times_claiming claims start + times_over over start ≤ 1

-- the report tells of the start as one that is over
abbrev pub tells_over : Report → Start → Bool
tells_over report start = is_among (map (λ (done : Done). done.start) report.done) start

-- the report tells of all that the daemon knows of: of what runs, that it runs, and of what is over, either
pub record Tells (report : Report) (daemon : Daemon) : Type 0 where
  pub running : All (λ (one : Running). is_among report.running one.start ≡ true) daemon.running
  pub over : All (λ (done : Done). (is_among report.running done.start || tells_over report done.start) ≡ true)
      daemon.over

-- nothing that runs there runs, or may be launched yet
pub record RunsNothing (orders : List Orders) (daemon : Daemon) : Type 0 where
  pub running : daemon.running ≡ []
  pub ordered : All (λ (one : Orders). are_due one daemon ≡ true → one.launches ≡ []) orders

-- What holds of the daemon of a node, with the reports and the orders ever sent.
pub record InStep (s : State) (reports : List Report) (orders : List Orders) (node : List ℕ) (daemon : Daemon)
    : Type 0 where
  pub name : daemon.node ≡ node
  pub apart : IsNoneGone s node
  -- its numbers come no earlier than the last accepted ones, nor than those that it ever sent
  pub heard : HeardUpTo (kept_of s node) daemon.boot daemon.number
  pub sent : All (λ (one : Report). one.node ≡ node → IsUpTo one.boot one.number daemon.boot daemon.number) reports
  -- in a life of which no report was accepted it runs nothing
  pub fresh : HeardNoLife (kept_of s node) daemon.boot → daemon.running ≡ []
  -- what it runs fits the node, and so does what it may be ordered to launch yet
  pub fit : Fit s node (claims_of daemon) daemon.over
  pub ordered : All (λ (one : Orders). are_due one daemon ≡ true
      → Fit s node (claims_of daemon ++ claims_ordered one) daemon.over) orders
  -- a report of its life that could still be accepted tells of all that it knows of
  pub told : All (λ (one : Report). one.node ≡ node → HeardBefore (kept_of s node) one.boot one.number
      → one.boot ≡ daemon.boot → Tells one daemon) reports
  -- no report tells of a start both ways
  pub parted : All (λ (one : Report). one.node ≡ node
      → All (λ start. tells_over one start ≡ false) one.running) reports
  -- orders were sent for accepted reports alone
  pub answered : All (λ (one : Orders). one.node ≡ node → HeardSince (kept_of s node) one.boot one.number) orders
  -- where the node was set down and then told that nothing runs there, nothing does
  pub emptied : (place : ℕ) → place_named node s.nodes ≡ Some place → is_at is_emptied s.nodes place ≡ true
      → RunsNothing orders daemon

-- What holds of the whole world.
pub record Together (w : World) : Type 0 where
  pub sound : IsSound w.state
  pub each : (node : List ℕ) → InStep w.state w.reports w.orders node (w.daemons node)
