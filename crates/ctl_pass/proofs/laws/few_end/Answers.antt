use Rattle.ctl_pass.proofs.Gone.{few-end}
use Rattle.ctl_pass.proofs.laws.few_end.Goals as goal

pub returns : goal.returns
returns c =
    few-end c.a_stable_sort_makes_the_order.ensures.moves c.victims_are_in_order.ensures.rising
    c.victims_are_in_order.ensures.within
