use Rattle.saved_laws.proofs.AllKept.{none_taken}
use Rattle.saved_laws.proofs.Histories.{history_over, script_over}
use Rattle.saved_laws.proofs.keeping.what_is_in_force_stays_where_none_is_taken.Goals as goal

pub returns-clause-step : goal.returns-clause-step
returns-clause-step c = none_taken

pub returns-clause-script : goal.returns-clause-script
returns-clause-script c = script_over

pub returns-clause-history : goal.returns-clause-history
returns-clause-history c = history_over
