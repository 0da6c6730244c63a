use Rattle.ctl_pass.proofs.OwnPlans.{counts-nothing}
use Rattle.ctl_pass.proofs.laws.a_pass_over_its_own_plan_counts_nothing.Goals as goal

pub returns : goal.returns
returns c =
    counts-nothing c.placements_are_first.ensures.some c.a_stable_sort_makes_the_order.ensures.apart
    c.what_is_ranked_stays.ensures
