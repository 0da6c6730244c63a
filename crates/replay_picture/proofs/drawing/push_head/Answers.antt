use Rattle.std.proofs.Common.{append_assoc}
use Rattle.replay_picture.specs.Picture.{head_text}
use Rattle.replay_picture.proofs.drawing.push_head.Goals as goal

pub returns : goal.returns
unfolding head_text
returns c =
    rw (
      c.in_ok-push_text-2.ensures,
      c.in_ok-push_labelled-3.ensures,
      c.in_ok-push_style.ensures,
      c.in_ok-push_text.ensures,
      c.in_ok-push_labelled-2.ensures,
      c.in_ok-push_labelled.ensures,
    ) (simp append_assoc)
