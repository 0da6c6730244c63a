use Rattle.saved_laws.proofs.StepsSized.{reply_alike, state_alike}
use Rattle.saved_laws.proofs.rooms.the_room_that_is_left_changes_no_answer.Goals as goal

pub returns-clause-reply : goal.returns-clause-reply
returns-clause-reply c = reply_alike

pub returns-clause-state : goal.returns-clause-state
returns-clause-state c = state_alike
