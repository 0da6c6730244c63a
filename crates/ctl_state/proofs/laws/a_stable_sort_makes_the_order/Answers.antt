use Rattle.std.proofs.Common.{◌≢◌, sym}
use Rattle.ctl_state.proofs.Ordering.{ordered-moves, ordered-pairs, sorted-is_ordered}
use Rattle.ctl_state.proofs.laws.a_stable_sort_makes_the_order.Goals as goal

pub returns : goal.returns
returns g c = record {
  moves = ordered-moves;
  apart = λ before key. ordered-pairs before (λ one other. key one ≢ key other) (λ one other differ same. differ (sym same));
  sorted = λ before xs ys weak. sorted-is_ordered before weak xs ys;
}
