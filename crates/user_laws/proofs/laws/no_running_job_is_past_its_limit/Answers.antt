use Rattle.user_laws.proofs.InTime.{none_late}
use Rattle.user_laws.proofs.laws.no_running_job_is_past_its_limit.Goals as goal

pub returns : goal.returns
returns c = none_late
