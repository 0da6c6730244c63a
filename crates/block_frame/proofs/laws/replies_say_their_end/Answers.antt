use Rattle.block_frame.proofs.Lengths.{announced_stays}
use Rattle.block_frame.proofs.ReplyFrames.{reply_end}
use Rattle.block_frame.proofs.laws.replies_say_their_end.Goals as goal

pub returns : goal.returns
returns c = record {
  end = reply_end;
  said = announced_stays;
}
