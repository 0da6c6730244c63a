use Rattle.cluster_opening.proofs.Once.{files_open_one}
use Rattle.cluster_opening.proofs.laws.files_open_one_cluster.Goals as goal

pub returns : goal.returns
returns c = λ files named one other first second.
    files_open_one files named one other c.saved_texts_are_apart.ensures first second
