-- Each row computes.
use Rattle.std.proofs.Common.{refl}
use Rattle.worked_rows.proofs.Opened.{files, clusters}
use Rattle.worked_rows.proofs.confs.files.Goals as goal

pub returns-clause-one_node : goal.returns-clause-one_node
unfolding files clusters
returns-clause-one_node c = refl

pub returns-clause-four_nodes : goal.returns-clause-four_nodes
unfolding files clusters
returns-clause-four_nodes c = refl

pub returns-clause-unknown_key : goal.returns-clause-unknown_key
unfolding files clusters
returns-clause-unknown_key c = refl

pub returns-clause-empty : goal.returns-clause-empty
unfolding files clusters
returns-clause-empty c = refl
