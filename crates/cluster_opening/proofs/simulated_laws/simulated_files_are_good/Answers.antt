use Rattle.cluster_opening.proofs.Opened.{opens}
use Rattle.cluster_opening.proofs.simulated_laws.simulated_files_are_good.Goals as goal

pub returns : goal.returns
returns c = opens
