use Rattle.simulation.proofs.Desks.{all_stay}
use Rattle.simulation.proofs.script.answer.Goals as goal

pub returns-in-Err-clause-go_on : goal.returns-in-Err-clause-go_on
returns-in-Err-clause-go_on g c = all_stay _
