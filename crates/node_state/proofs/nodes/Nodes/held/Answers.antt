use Rattle.std.proofs.Common.{◌∙◌, arith}
use Rattle.std.proofs.lemmas.List.{get_or_default}
use Rattle.node_state.proofs.Holding.{nothing, within-at, length-within}
use Rattle.node_state.proofs.nodes.Nodes.held.Goals as goal

pub index-requires : goal.index-requires
index-requires c =
    let long = length-within c.self.inside.records.items c.self.inside.held.items c.self.invariant.1 in
    let inside = (rw (← c.self.view_is) at c.requires) in
    omega (arith, long, inside, c.self.inside.held.ok.0)

pub returns-clause-value : goal.returns-clause-value
returns-clause-value c =
    let long = length-within c.self.inside.records.items c.self.inside.held.items c.self.invariant.1 in
    let inside = (rw (← c.self.view_is) at c.requires) in
    rw (← c.self.view_is) (c.index.ensures ∙ get_or_default c.self.inside.held.items c.args.place c.index.result.now nothing (omega (arith, long, inside)))

pub returns-clause-within : goal.returns-clause-within
returns-clause-within c = λ d.
    let inside = (rw (← c.self.view_is) at c.requires) in
    rw (returns-clause-value c, ← c.self.view_is) (within-at c.self.inside.records.items c.self.inside.held.items c.args.place d c.self.invariant.1 inside)
