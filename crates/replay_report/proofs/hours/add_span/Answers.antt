use Rattle.std.proofs.Common.{◌/◌, ap, arith}
use Rattle.replay_report.proofs.HoursLemmas.{adding_all}
use Rattle.replay_report.proofs.hours.add_span.Goals as goal

pub returns : goal.returns
returns c = λ before counts.
    adding_all c.args.first c.args.span (c.saturating_sub-low.result / 3600) (c.saturating_sub-high.result / 3600) c.loop-hour.hour
    c.args.hours.now c.loop-hour.hours before (ap (λ n. n / 3600) c.saturating_sub-low.ensures) (ap (λ n. n / 3600) c.saturating_sub-high.ensures)
    (omega (arith, c.min-hour-end.ensures, c.saturating_add.ensures)) (omega arith) c.loop-hour.invariant counts
