use Rattle.ctl_nodes.proofs.Lost.{numbers_stay, stays_of}
use Rattle.ctl_nodes.proofs.laws.others_stay_where_nodes_are_lost.Goals as goal

pub returns-clause-stays : goal.returns-clause-stays
returns-clause-stays c = stays_of

pub returns-clause-number : goal.returns-clause-number
returns-clause-number c = numbers_stay
