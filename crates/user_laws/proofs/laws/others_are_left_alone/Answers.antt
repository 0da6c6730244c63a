use Rattle.user_laws.proofs.Others.{others_left, own_added}
use Rattle.user_laws.proofs.laws.others_are_left_alone.Goals as goal

pub returns-clause-others : goal.returns-clause-others
returns-clause-others c = others_left

pub returns-clause-submission : goal.returns-clause-submission
returns-clause-submission c = own_added
