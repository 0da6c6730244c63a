use Rattle.block_frame.proofs.ReplyFrames.{long_reply}
use Rattle.block_frame.proofs.laws.replies_are_framed.Goals as goal

pub returns-clause-over : goal.returns-clause-over
returns-clause-over c = long_reply
