use Rattle.std.proofs.Common.{◌≡◌}
use Rattle.replay_texts.specs.Comparisons.{comparison_text}
use Rattle.replay_run.specs.Reports.{AreCompared}
use Rattle.replay_run.proofs.Telling.{told_so}
use Rattle.replay_run.proofs.reporting.compared_by.Goals as goal

pub returns : goal.returns
returns c =
    let before = c.args.before.now in
    let after = c.args.after.now in
    let one = c.args.one.now in
    let other = c.args.other.now in
    let less : c.as_slice.result.now ≡ c.in_ok-less.less.items = cc c.as_slice.ensures.value in
    let more : c.as_slice-2.result.now ≡ c.in_ok-more.more.items = cc c.as_slice-2.ensures.value in
    told_so c.comparison_of.result (λ text. text.items ≡ comparison_text one other c.as_slice.result.now c.as_slice-2.result.now)
    (λ text. AreCompared c.args.wanted.now.most before.processors after.processors before.outcomes.items after.outcomes.items text.items)
    (λ text is. record {
      one = one;
      other = other;
      less = c.in_ok-less.less.items;
      more = c.in_ok-more.more.items;
      one_is = c.requires.one;
      other_is = c.requires.other;
      less_are = c.in_ok-less.ensures;
      more_are = c.in_ok-more.ensures;
      is = cc (is, less, more);
    }) c.comparison_of.ensures
