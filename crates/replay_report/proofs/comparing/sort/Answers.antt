use Rattle.std.proofs.Common.{◌≡◌, rules}
use Rattle.std.specs.Ordering.{is_lt}
use Rattle.std.proofs.lemmas.Fn.{always_returns_same}
use Rattle.std.proofs.lemmas.Bool.Decides.{nat_tests}
use Rattle.replay_report.specs.Changes.{goes_before}
use Rattle.replay_report.proofs.Order.{goes_before-order}
use Rattle.replay_report.proofs.comparing.sort.Goals as goal

pub returns-clause-sorted : goal.returns-clause-sorted
returns-clause-sorted c =
    c.sort_unstable_by.ensures.sorted (goes_before c.args.direction) (goes_before-order c.args.direction)
    (always_returns_same _ (λ a r. is_lt r ≡ goes_before c.args.direction a.0.now a.1.0.now) _ (λ a r q k. search (rules, nat_tests)))
