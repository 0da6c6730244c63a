use Rattle.std.proofs.Common.{append_assoc}
use Rattle.replay_texts.specs.Summaries.{sums_text}
use Rattle.replay_texts.proofs.summary.push_all_sums.Goals as goal

pub returns : goal.returns
unfolding sums_text
returns c =
    rw (c.in_ok-push_sums.ensures, c.in_ok-push_label.ensures, c.in_ok-push_titles.ensures, c.in_ok-push_text.ensures) (simp append_assoc)
