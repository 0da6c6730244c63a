use Rattle.std.proofs.Common.{◌≡◌, true, sym, ◌∙◌}
use Rattle.plan_keeper.proofs.Listing.{all-marked}
use Rattle.plan_keeper.proofs.unchanged.Unchanged.has_all.Goals as goal

pub returns-then-self : goal.returns-then-self
returns-then-self c =
    let all : c.args.self.now.all ≡ true = c.if-self.true in
    all ∙ sym (all-marked c.args.self.now.nodes.items c.args.nodes.now (c.args.self.now.each all) c.requires)
