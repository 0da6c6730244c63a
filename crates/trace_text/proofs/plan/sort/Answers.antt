use Rattle.std.proofs.Common.{◌≡◌, rules}
use Rattle.std.specs.Ordering.{is_lt}
use Rattle.std.proofs.lemmas.Fn.{always_returns_same}
use Rattle.std.proofs.lemmas.Bool.Decides.{nat_tests}
use Rattle.trace_text.specs.Handing.{goes_before}
use Rattle.trace_text.proofs.Order.{goes_before-order}
use Rattle.trace_text.proofs.plan.sort.Goals as goal

pub returns-clause-sorted : goal.returns-clause-sorted
returns-clause-sorted c =
    c.sort_unstable_by.ensures.sorted goes_before goes_before-order
    (always_returns_same _ (λ a r. is_lt r ≡ goes_before a.0.now a.1.0.now) _ (λ a r q k. search (rules, nat_tests)))
