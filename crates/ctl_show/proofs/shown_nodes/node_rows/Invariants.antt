use Rattle.std.proofs.Common.{◌≡◌, ℕ, take, map, filter}
use Rattle.std.specs.List.{enumerate_from}
use Rattle.reply_data.specs.declared.view.Row.TheVariants as shown
use Rattle.node_state.specs.declared.record.NodeRecord.{NodeRecord}
use Rattle.ctl_state.specs.State.{state_of}
use Rattle.ctl_show.specs.Records.{node_row, is_asked_for}
use Rattle.ctl_show.proofs.shown_nodes.node_rows.Given as goal

abbrev pub invariant-loop-place : goal.invariant-loop-place
invariant-loop-place l =
    l.rows.items ≡ map (λ (one : ℕ × NodeRecord). shown.Node (node_row (state_of l.cluster) one.0 one.1))
    (filter (λ (one : ℕ × NodeRecord). is_asked_for l.asked one.1)
    (take l.place (enumerate_from 0 l.cluster.nodes.records)))
