use Rattle.saved_laws.proofs.Telling.{behind_goes_on, told_goes_on}
use Rattle.saved_laws.proofs.scripts.a_script_goes_on_where_it_left_off.Goals as goal

pub returns-clause-told : goal.returns-clause-told
returns-clause-told c = told_goes_on

pub returns-clause-behind : goal.returns-clause-behind
returns-clause-behind c = behind_goes_on
