use Rattle.ctl_nodes.proofs.Kept.{lost_alike}
use Rattle.ctl_nodes.proofs.laws.the_same_nodes_are_lost_alike.Goals as goal

pub returns : goal.returns
returns c = lost_alike
