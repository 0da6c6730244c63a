use Rattle.ctl_pass.proofs.Few.{few-go}
use Rattle.ctl_pass.proofs.laws.few_start_or_stay.Goals as goal

pub returns : goal.returns
returns c = few-go c.a_stable_sort_makes_the_order.ensures.moves
