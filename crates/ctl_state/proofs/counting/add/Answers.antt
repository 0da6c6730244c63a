use Rattle.std.proofs.Common.{◌∙◌, sym}
use Rattle.std.proofs.lemmas.List.{append-nil}
use Rattle.ctl_state.proofs.Holding.{holding-idle, holding-one}
use Rattle.ctl_state.proofs.counting.add.Goals as goal

pub returns-in_ok-add : goal.returns-in_ok-add
returns-in_ok-add c = λ jobs shown.
    rw (holding-one c.args.job.now (sym c.is_holding.ensures ∙ c.if-is_holding.true))
    (rw c.counted_of.ensures at (c.in_ok-add.ensures jobs shown))

pub returns-else-is_holding : goal.returns-else-is_holding
returns-else-is_holding c = λ jobs shown.
    rw (holding-idle c.args.job.now (sym c.is_holding.ensures ∙ c.if-is_holding.false), append-nil jobs) shown
