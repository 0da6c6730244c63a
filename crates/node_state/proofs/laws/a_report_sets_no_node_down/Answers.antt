use Rattle.node_state.proofs.Changes.{reports-set_none_down}
use Rattle.node_state.proofs.laws.a_report_sets_no_node_down.Goals as goal

pub returns : goal.returns
returns c = reports-set_none_down
