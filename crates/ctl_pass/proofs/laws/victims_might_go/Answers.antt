use Rattle.ctl_pass.proofs.Gone.{gone-might, victims-ran}
use Rattle.ctl_pass.proofs.laws.victims_might_go.Goals as goal

pub returns-clause-might : goal.returns-clause-might
returns-clause-might c = gone-might c.a_stable_sort_makes_the_order.ensures.moves

pub returns-clause-ran : goal.returns-clause-ran
returns-clause-ran c = victims-ran c.a_stable_sort_makes_the_order.ensures.moves
