use Rattle.saved_rules.proofs.Sbatch.{sbatch_by_rules}
use Rattle.saved_rules.proofs.laws.what_sbatch_asks_is_by_the_rules.Goals as goal

pub returns : goal.returns
returns c = sbatch_by_rules (record { features = c.features_fit.ensures; dependency = c.dependencies_fit.ensures })
