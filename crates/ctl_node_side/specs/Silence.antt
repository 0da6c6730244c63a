-- Nodes that weren't heard for too long. SlurmdTimeout in slurm.conf(5).
use Rattle.std.specs.Prelude.{ℕ, ◌+◌, Bool, false, ◌&&◌, not, nat_eq, nat_le, if◌then◌else◌, List, map, count_by, Option, Some, None}
use Rattle.std.specs.List.{list_any}
use Rattle.request_data.specs.declared.report.Heard.{Heard}
use Rattle.node_state.specs.declared.record.NodeRecord.{NodeRecord}
use Rattle.node_state.specs.declared.record.NodeChange.TheVariants.{Silent}
use Rattle.node_state.specs.Nodes.{is_up}
use Rattle.job_table.specs.declared.record.JobRecord.{JobRecord}
use Rattle.job_table.specs.JobStates.{is_running}
use Rattle.ctl_state.specs.Planning.{is_at}
use Rattle.ctl_state.specs.State.{State}
use Rattle.ctl_nodes.specs.Changing.{changed_where}
use Rattle.ctl_nodes.specs.Failing.{loses, lost_after}

-- so many seconds have passed since the last accepted report; of a node that was never heard there is none
abbrev pub is_late : ℕ → ℕ → Option Heard → Bool
is_late timeout now None = false
is_late timeout now (Some heard) = nat_le (heard.moment + timeout) now

-- the node isn't down, and falls silent: a timeout of 0 is never
abbrev pub falls_silent : ℕ → ℕ → NodeRecord → Bool
falls_silent timeout now node = is_up node.down && (not (nat_eq timeout 0) && is_late timeout now node.heard)

-- so does one of the state, or the one at a place
abbrev pub any_silent : State → ℕ → Bool
any_silent s now = list_any (falls_silent s.settings.slurmd_timeout now) s.nodes

abbrev pub silent_at : State → ℕ → ℕ → Bool
silent_at s now place = is_at (falls_silent s.settings.slurmd_timeout now) s.nodes place

-- the nodes, of which those that fall silent are down
abbrev pub nodes_silenced : State → ℕ → List NodeRecord
nodes_silenced s now = map (changed_where Silent (falls_silent s.settings.slurmd_timeout now)) s.nodes

-- the state at a moment at which nodes fall silent: what they held is lost, and they are down
abbrev pub without_silent : State → ℕ → State
without_silent s now =
    record (lost_after s now (silent_at s now)) { nodes = nodes_silenced s now; moment = now }

-- the state that a pass finds, once it has seen to silent nodes
abbrev pub silenced : State → ℕ → State
silenced s now = if any_silent s now then without_silent s now else s

-- how many jobs fail with nodes that fall silent
abbrev pub failing_count : State → ℕ → ℕ
failing_count s now = count_by (λ (job : JobRecord). is_running job.state && loses (silent_at s now) job) s.jobs
