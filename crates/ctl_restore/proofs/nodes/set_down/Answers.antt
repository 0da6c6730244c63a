use Rattle.std.proofs.Common.{length, ap, arith}
use Rattle.node_state.specs.declared.record.NodeChange.TheVariants as change
use Rattle.node_state.specs.Nodes.{changed}
use Rattle.ctl_nodes.proofs.Walked.{length_map_at}
use Rattle.ctl_restore.proofs.nodes.set_down.Goals as goal

pub hear-requires : goal.hear-requires
hear-requires c =
    omega (
      arith,
      c.requires,
      ap length c.change-in-Set.ensures.records,
      length_map_at (changed change.Down) c.args.place c.args.nodes.now.records,
    )
