use Rattle.block_frame.proofs.ReplyFrames.{reply_is_one}
use Rattle.block_frame.proofs.laws.replies_are_one.Goals as goal

pub returns : goal.returns
returns c = reply_is_one
