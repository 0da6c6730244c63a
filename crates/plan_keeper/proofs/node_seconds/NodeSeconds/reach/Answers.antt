use Rattle.plan_keeper.proofs.Seconds.{reach-told}
use Rattle.plan_keeper.proofs.node_seconds.NodeSeconds.reach.Goals as goal

pub returns-else-second-self : goal.returns-else-second-self
returns-else-second-self c =
    reach-told c.args.self.now.seconds.items c.args.nodes.now c.args.second c.are_reached.result (rw c.as_slice.ensures.value at c.are_reached.ensures)
