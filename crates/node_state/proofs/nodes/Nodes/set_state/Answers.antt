use Rattle.std.proofs.Common.{sym, ap, ◌∙◌}
use Rattle.node_state.specs.Nodes.{changed}
use Rattle.node_state.proofs.Changes.{set-changed, names-stay, places-stay}
use Rattle.node_state.proofs.Holding.{within-changed}
use Rattle.node_state.proofs.nodes.Nodes.set_state.Goals as goal

pub returns-clause-changed : goal.returns-clause-changed
returns-clause-changed c =
    rw (← c.self.view_is) (set-changed c.args.place c.args.change c.self.inside.records.items c.apply.new.node c.index_mut.result.now (rw (← c.self.view_is) at c.requires) (c.apply.ensures.changed ∙ ap (changed c.args.change) c.index_mut.ensures.value))

pub invariant_of-self : goal.invariant_of-self
invariant_of-self c =
    let nodes = c.self.inside.records.items in
    let same = set-changed c.args.place c.args.change nodes c.apply.new.node c.index_mut.result.now (rw (← c.self.view_is) at c.requires) (c.apply.ensures.changed ∙ ap (changed c.args.change) c.index_mut.ensures.value) in
    rw same (
      names-stay c.args.place c.args.change nodes c.self.invariant.0,
      within-changed c.args.place c.args.change nodes c.self.inside.held.items c.self.invariant.1,
      λ name. c.self.invariant.2 name ∙ sym (places-stay name c.args.place c.args.change nodes),
    )
