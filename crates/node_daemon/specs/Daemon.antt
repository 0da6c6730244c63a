-- The daemon of a node: what it runs, what it reports, and what orders make of it.
use Rattle.std.specs.Prelude.{ℕ, ◌+◌, Bool, true, false, ◌&&◌, not, nat_eq, nat_le, if◌then◌else◌, unwrap_or, List, [], ◌++◌, map, filter, filter_map, Option, option_map}
use Rattle.std.specs.List.{list_any}
use Rattle.std.specs.Str.{bytes_eq}
use Rattle.request_data.specs.declared.report.Start.{Start}
use Rattle.request_data.specs.declared.report.Done.{Done}
use Rattle.request_data.specs.declared.report.Report.{Report}
use Rattle.reply_data.specs.declared.orders.Launch.{Launch}
use Rattle.reply_data.specs.declared.orders.Orders.{Orders}
use Rattle.node_daemon.specs.declared.running.Running.{Running}
use Rattle.node_daemon.specs.declared.running.Script.{Script}

-- A daemon: its node, which of its lives it is, the number of its last report, the starts that run on the node, those
-- that are over there and not forgotten, and whether orders for the last report were taken.
pub record Daemon : Type 0 where
  pub node : List ℕ
  pub boot : ℕ
  pub number : ℕ
  pub running : List Running
  pub over : List Done
  pub taken : Bool

-- a daemon that was just started: it runs nothing, and there is no report whose orders it could take
abbrev pub started : List ℕ → ℕ → Daemon
started node boot = record { node = node; boot = boot; number = 0; running = []; over = []; taken = true }

-- the second at which a script ends
abbrev pub end_of : Script → ℕ
end_of script = script.begun + script.run

abbrev pub has_ended : ℕ → Script → Bool
has_ended now script = nat_le (end_of script) now

-- the start is over at a moment: its script runs on this node, and has ended
abbrev pub is_over : ℕ → Running → Bool
is_over now one = unwrap_or (option_map (has_ended now) one.script) false

-- what is told of a start and its script when that has ended
abbrev pub done_with : Start → Script → Done
done_with start script = record { start = start; exit = script.exit }

-- what is told of a start, where its script runs on this node
abbrev pub told_of : Running → Option Done
told_of one = option_map (done_with one.start) one.script

-- what goes on running at a moment
abbrev pub still_running : ℕ → List Running → List Running
still_running now running = filter (λ one. not (is_over now one)) running

-- what is told of those that are over at a moment
abbrev pub told_over : ℕ → List Running → List Done
told_over now running = filter_map told_of (filter (is_over now) running)

-- the daemon once each script is over that ends by a moment
abbrev pub finished : ℕ → Daemon → Daemon
finished now daemon = record daemon {
  running = still_running now daemon.running;
  over = daemon.over ++ told_over now daemon.running;
}

-- the daemon once it has polled: it has told one report more, for which no orders were taken
abbrev pub polled : ℕ → Daemon → Daemon
polled now daemon = record (finished now daemon) { number = daemon.number + 1; taken = false }

-- its report: what runs, and all that is over
abbrev pub reported : Daemon → Report
reported daemon = record {
  node = daemon.node;
  boot = daemon.boot;
  number = daemon.number;
  running = map (λ (one : Running). one.start) daemon.running;
  done = daemon.over;
}

-- the orders are for its last report, and none for it were taken
abbrev pub are_due : Orders → Daemon → Bool
are_due orders daemon =
    not daemon.taken && (bytes_eq daemon.node orders.node
    && (nat_eq daemon.boot orders.boot && nat_eq daemon.number orders.number))

abbrev pub is_same : Start → Start → Bool
is_same one other = nat_eq one.id other.id && nat_eq one.number other.number

-- the start is among these
abbrev pub is_among : List Start → Start → Bool
is_among starts start = list_any (λ one. is_same one start) starts

-- a script that begins at a moment, and what it ends with and how long it runs
abbrev pub script_begun : ℕ → ℕ → ℕ → Script
script_begun now exit run = record { begun = now; run = run; exit = exit }

-- what runs once it was launched: where the launch says for how long, its script runs here, and ends by itself
abbrev pub launched : ℕ → Launch → Running
launched now launch = record {
  start = launch.start;
  cpus = launch.cpus;
  mem = launch.mem;
  script = option_map (script_begun now (unwrap_or launch.exit 0)) launch.run;
}

-- what runs that isn't to be killed
abbrev pub not_killed : List Start → List Running → List Running
not_killed kills running = filter (λ (one : Running). not (is_among kills one.start)) running

-- what is over and isn't to be forgotten
abbrev pub not_forgotten : List Start → List Done → List Done
not_forgotten forgets over = filter (λ (done : Done). not (is_among forgets done.start)) over

-- the daemon once it has done what is ordered: what is launched runs beside the others
abbrev pub accepted : ℕ → Orders → Daemon → Daemon
accepted now orders daemon = record daemon {
  running = not_killed orders.kills daemon.running ++ map (launched now) orders.launches;
  over = not_forgotten orders.forgets daemon.over;
  taken = true;
}

-- the daemon once orders have come: only those that are due are done
abbrev pub given : ℕ → Orders → Daemon → Daemon
given now orders daemon = if are_due orders daemon then accepted now orders daemon else daemon
