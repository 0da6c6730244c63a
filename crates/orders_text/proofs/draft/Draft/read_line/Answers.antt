use Rattle.std.proofs.Common.{◌≡◌, None, Some, sym, ◌∙◌}
use Rattle.orders_text.proofs.Parting.{none_takes, order_takes}
use Rattle.orders_text.proofs.draft.Draft.read_line.Goals as goal

pub returns-in-Some : goal.returns-in-Some
returns-in-Some c =
    let some = rw c.in-Some.is at c.in_ok-order.ensures.some in
    order_takes c.add.result c.args.self.now c.add.new.self c.in-Some.order c.args.line.now c.requires.some some.0 some.1
    (λ other fits says.
    let same : Some c.in-Some.order ≡ Some other = sym c.in-Some.is ∙ c.in_ok-order.ensures.only other fits says in cc) c.add.ensures

pub returns-in-None : goal.returns-in-None
returns-in-None c =
    none_takes c.args.self.now c.args.line.now c.requires.some
    (λ other fits says. let no : None ≡ Some other = sym c.in-None.is ∙ c.in_ok-order.ensures.only other fits says in absurd (cc))
