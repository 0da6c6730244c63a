-- The daemons with which a server begins, and their turns.
use Rattle.std.specs.Prelude.{◌≡◌, ℕ, ◌+◌, ◌/◌, ◌^◌, max, nat_lt, if◌then◌else◌, List, filter_map, Option, Some, None, option_map}
use Rattle.request_data.specs.declared.report.Heard.{Heard}
use Rattle.node_state.specs.declared.record.NodeRecord.{NodeRecord}
use Rattle.ctl_desk.specs.declared.entry.Answer.{Answer}
use Rattle.ctl_desk.specs.Desk.{Sight}
use Rattle.node_daemon.specs.Daemon.{Daemon, polled, started}
use Rattle.node_daemon.specs.Turn.{AnswersReport, after_reply}

-- the boot number above this one; there is none above the last
abbrev pub boot_above : ℕ → Option ℕ
boot_above boot = if nat_lt (boot + 1) (2 ^ 64) then Some (boot + 1) else None

-- the boot number with which the daemon of a node begins: 1, or one above that of its last report
abbrev pub next_boot : Option Heard → Option ℕ
next_boot None = Some 1
next_boot (Some heard) = boot_above heard.boot

-- the daemon of a node as a server begins, if there is a boot number for it: it runs nothing
abbrev pub daemon_of : NodeRecord → Option Daemon
daemon_of node = option_map (started node.conf.name) (next_boot node.heard)

-- the daemons of these nodes, in order
abbrev pub daemons_of : List NodeRecord → List Daemon
daemons_of nodes = filter_map daemon_of nodes

-- what a daemon's turn at a moment leaves of it and of the desk: its report was answered, and it does what it was ordered
-- in answer
abbrev pub HasTurned : ℕ → Daemon → Daemon → Sight → Sight → Type 0
HasTurned now daemon daemon' desk desk' =
    (answer : Answer) × (AnswersReport now daemon desk desk' answer
    × (daemon' ≡ after_reply now answer.reply (polled now daemon)))

-- how often the daemons rest between two rounds, where nodes fall silent after so many seconds
abbrev pub rests_of : ℕ → ℕ
rests_of seconds = max (seconds / 30) 1
