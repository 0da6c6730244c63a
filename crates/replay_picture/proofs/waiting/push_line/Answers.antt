use Rattle.std.proofs.Common.{append_assoc}
use Rattle.replay_picture.specs.Scale.{plot_left, plot_width}
use Rattle.replay_picture.specs.Waiting.{line_text}
use Rattle.replay_picture.proofs.waiting.push_line.Goals as goal

pub returns : goal.returns
unfolding line_text plot_left plot_width
returns c =
    rw (
      c.in_ok-push_text.ensures,
      c.in_ok-push_labelled-4.ensures,
      c.in_ok-push_labelled-3.ensures,
      c.in_ok-push_steps.ensures,
      c.in_ok-push_labelled-2.ensures,
      c.in_ok-push_labelled.ensures,
      c.waiting_bottom-bottom.ensures.is,
      c.requires,
    ) (simp append_assoc)
