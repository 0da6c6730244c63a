use Rattle.std.proofs.Common.{append_assoc}
use Rattle.replay_picture.specs.Scale.{plot_left}
use Rattle.replay_picture.specs.Waiting.{scale_text}
use Rattle.replay_picture.proofs.waiting.push_scale.Goals as goal

pub returns : goal.returns
unfolding scale_text plot_left
returns c =
    rw (
      c.in_ok-push_text-2.ensures,
      c.in_ok-push_words-2.ensures,
      c.in_ok-push_words.ensures,
      c.in_ok-push_count.ensures,
      c.in_ok-push_text.ensures,
      c.waiting_bottom.ensures.is,
      c.waiting_top-top.ensures.is,
      c.from.ensures,
    ) (simp append_assoc)
