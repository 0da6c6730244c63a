use Rattle.std.proofs.Common.{◌≡◌, true}
use Rattle.worked_rows.proofs.Groups.{order-firsts, order-within}
use Rattle.worked_rows.proofs.Numbers.{numbers-rise}
use Rattle.worked_rows.proofs.folds.groups_keep_the_order.Goals as goal

pub returns : goal.returns
returns c = record {
  order = λ is_before names pairs. (
    order-firsts (λ one other. is_before one other ≡ true) names pairs,
    order-within
        (λ one other. is_before one other ≡ true) names pairs,
  );
  rise = numbers-rise;
}
