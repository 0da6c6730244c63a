use Rattle.std.proofs.Common.{◌≡◌, ℕ, Bool, length}
use Rattle.plain_data.specs.Rows.{has_id}
use Rattle.node_state.specs.declared.record.NodeRecord.{NodeRecord}
use Rattle.job_table.specs.Walks.{walked}
use Rattle.ctl_state.specs.Planning.{is_at}
use Rattle.ctl_nodes.specs.Changing.{changed_where}
use Rattle.ctl_nodes.proofs.names.change_places.Given as goal

abbrev pub invariant-loop-place : goal.invariant-loop-place
invariant-loop-place l = record {
  walk : (test : NodeRecord → Bool)
      → ((place : ℕ) → has_id l.places place ≡ is_at test l.fn.nodes.records place)
      → l.nodes.records ≡ walked (changed_where l.change test) l.place l.fn.nodes.records;
  held : l.nodes.held ≡ l.fn.nodes.held;
  long : length l.nodes.records ≡ length l.fn.nodes.records;
  end : l.place-end ≡ length l.fn.nodes.records;
}
