use Rattle.std.proofs.Common.{ap}
use Rattle.node_state.specs.Partitions.{in_state}
use Rattle.node_state.proofs.States.{set-in_state}
use Rattle.node_state.proofs.partitions.Partitions.set_state.Goals as goal

pub returns-clause-changed : goal.returns-clause-changed
returns-clause-changed c =
    let partition = c.index_mut-partition.result.now in
    rw (← c.self.view_is) (set-in_state c.args.place c.args.state c.self.inside.records.items (in_state c.args.state partition) partition (rw (← c.self.view_is) at c.requires) (ap (in_state c.args.state) c.index_mut-partition.ensures.value))
