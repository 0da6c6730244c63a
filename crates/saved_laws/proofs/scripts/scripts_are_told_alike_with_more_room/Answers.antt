use Rattle.saved_laws.proofs.Telling.{all_told_alike, behind_all_alike, status_alike}
use Rattle.saved_laws.proofs.scripts.scripts_are_told_alike_with_more_room.Goals as goal

pub returns-clause-told : goal.returns-clause-told
returns-clause-told c = all_told_alike

pub returns-clause-behind : goal.returns-clause-behind
returns-clause-behind c = behind_all_alike

pub returns-clause-status : goal.returns-clause-status
returns-clause-status c = status_alike
