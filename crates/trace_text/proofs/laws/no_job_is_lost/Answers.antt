use Rattle.trace_text.proofs.Places.{all_places}
use Rattle.trace_text.proofs.laws.no_job_is_lost.Goals as goal

pub returns : goal.returns
returns c = all_places
