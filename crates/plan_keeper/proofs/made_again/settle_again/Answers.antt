use Rattle.std.proofs.Common.{◌∙◌}
use Rattle.plan_keeper.proofs.made_again.settle_again.Goals as goal

pub settle_next-requires-clause-more : goal.settle_next-requires-clause-more
settle_next-requires-clause-more c = rw c.requires.is c.requires.there

pub settle_next-requires-clause-placed : goal.settle_next-requires-clause-placed
settle_next-requires-clause-placed c = λ d. rw c.requires.is (c.in_ok-placed.ensures ∙ c.placement_of.ensures d)
