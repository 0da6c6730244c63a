use Rattle.std.proofs.Common.{append_assoc, arith}
use Rattle.std.proofs.lemmas.Bool.{le-leb}
use Rattle.replay_picture.specs.Nodes.{name_text}
use Rattle.replay_picture.specs.Scale.{plot_left}
use Rattle.replay_picture.proofs.nodes.push_name.Goals as goal

pub returns : goal.returns
unfolding name_text plot_left
returns c =
    rw (
      c.in_ok-push_text-2.ensures,
      c.in_ok-push_words.ensures,
      c.in_ok-push_text.ensures,
      c.from.ensures,
      c.from-2.ensures,
      le-leb 70 c.args.row.height (omega (arith, c.if-row-lt70.false)),
    ) (simp append_assoc)
