use Rattle.block_frame.specs.Frames.{length_bytes}
use Rattle.block_frame.specs.Replies.{place_bytes}
use Rattle.block_frame.proofs.ReplyFrames.{framed_reply-pushed}
use Rattle.block_frame.proofs.replies.framed_reply.Goals as goal

pub returns : goal.returns
unfolding length_bytes place_bytes
returns c =
    framed_reply-pushed c.args.status c.args.place c.args.text.now
    c.in_ok-frame.frame.items c.to_be_bytes.result c.extend_from_slice.new.self.items c.push.new.self.items
    c.to_be_bytes-2.result c.extend_from_slice-2.new.self.items c.extend_from_slice-3.new.self.items
    c.in_ok-frame.ensures.items c.in_ok-extend_from_slice.ensures.items c.in_ok-push.ensures.items
    c.in_ok-extend_from_slice-2.ensures.items c.in_ok-extend_from_slice-3.ensures.items
    c.to_be_bytes.ensures c.to_be_bytes-2.ensures
