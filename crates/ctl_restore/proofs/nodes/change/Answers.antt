use Rattle.std.proofs.Common.{◌∙◌}
use Rattle.ctl_nodes.proofs.Walked.{node_at}
use Rattle.ctl_restore.proofs.nodes.change.Goals as goal

pub returns-clause-records : goal.returns-clause-records
returns-clause-records c =
    c.set_state.ensures.changed ∙ node_at c.args.place c.args.change c.args.nodes.now.records
