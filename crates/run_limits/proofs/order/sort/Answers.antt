use Rattle.std.proofs.Common.{◌≡◌, rules}
use Rattle.std.specs.Ordering.{is_lt}
use Rattle.std.proofs.lemmas.Fn.{always_returns_same}
use Rattle.std.proofs.lemmas.Bool.Decides.{nat_tests}
use Rattle.run_limits.specs.Paths.{comes_first}
use Rattle.run_limits.proofs.Turned.{comes_first-order}
use Rattle.run_limits.proofs.order.sort.Goals as goal

pub returns-clause-sorted : goal.returns-clause-sorted
returns-clause-sorted c =
    let levels = c.args.paths.now.levels.items in
    c.sort_unstable_by.ensures.sorted (comes_first levels) (comes_first-order levels)
    (always_returns_same _ (λ a r. is_lt r ≡ comes_first levels a.0.now a.1.0.now) _ (λ a r q k. search (rules, nat_tests)))
