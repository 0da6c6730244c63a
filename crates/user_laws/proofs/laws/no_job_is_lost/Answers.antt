use Rattle.user_laws.proofs.Staying.{none_lost}
use Rattle.user_laws.proofs.laws.no_job_is_lost.Goals as goal

pub returns : goal.returns
returns c = none_lost
