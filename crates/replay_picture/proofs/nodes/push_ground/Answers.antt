use Rattle.std.proofs.Common.{append_assoc}
use Rattle.replay_picture.specs.Nodes.{ground_text}
use Rattle.replay_picture.specs.Scale.{plot_left, plot_width}
use Rattle.replay_picture.proofs.nodes.push_ground.Goals as goal

pub returns : goal.returns
unfolding ground_text plot_left plot_width
returns c =
    rw (
      c.in_ok-push_text-2.ensures,
      c.in_ok-push_rect.ensures,
      c.in_ok-push_title.ensures,
      c.in_ok-push_text.ensures,
      c.from.ensures,
      c.from-2.ensures,
    ) (simp append_assoc)
