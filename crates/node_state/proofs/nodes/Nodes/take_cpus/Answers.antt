use Rattle.std.proofs.Common.{◌≡◌, ◌+◌, get_or, sym, ap, ◌∙◌, arith}
use Rattle.std.proofs.lemmas.List.{get_or_default}
use Rattle.node_state.specs.declared.record.Held.{Held}
use Rattle.node_state.specs.declared.record.NodeRecord.{NodeRecord}
use Rattle.node_state.proofs.Holding.{StandsAt, stands-is, stands-inside, are-within-taken, takes-set, length-within}
use Rattle.node_state.proofs.nodes.Nodes.take_cpus.Goals as goal

pub index_mut-held-requires : goal.index_mut-held-requires
index_mut-held-requires c =
    let long = length-within c.self.inside.records.items c.self.inside.held.items c.self.invariant.1 in
    let inside = (rw (← c.self.view_is) at c.requires.there) in
    omega (arith, long, inside, c.self.inside.held.ok.0)

pub prove-unreachable-requires : goal.prove-unreachable-requires
prove-unreachable-requires c =
    let node : (d : NodeRecord) → get_or c.self.inside.records.items c.args.place d ≡ c.index-node.result.now = λ d. get_or_default c.self.inside.records.items c.args.place d c.index-node.result.now (rw (← c.self.view_is) at c.requires.there) ∙ sym c.index-node.ensures in
    let most = rw (← c.self.view_is) at c.requires.mem c.index-node.result.now in
    let small = rw (node c.index-node.result.now) at most in
    omega (arith, small, c.get-most.ensures.value)

pub overflow_add-held : goal.overflow_add-held
overflow_add-held c =
    let stands : StandsAt c.self.inside.records.items c.self.inside.held.items c.args.place c.index_mut-held.result.now = record { within = c.self.invariant.1; inside = (rw (← c.self.view_is) at c.requires.there); is = c.index_mut-held.ensures.value } in
    let node : (d : NodeRecord) → get_or c.self.inside.records.items c.args.place d ≡ c.index-node.result.now = λ d. get_or_default c.self.inside.records.items c.args.place d c.index-node.result.now (rw (← c.self.view_is) at c.requires.there) ∙ sym c.index-node.ensures in
    let most = rw (← c.self.view_is) at c.requires.mem c.index-node.result.now in
    let small = rw (node c.index-node.result.now) at most in
    omega (arith, small, ap (λ (row : Held). row.mem) (stands-is stands), c.get-most.ensures.value, c.get-most.ensures.range)

pub invariant_of-self : goal.invariant_of-self
invariant_of-self c =
    let stands : StandsAt c.self.inside.records.items c.self.inside.held.items c.args.place c.index_mut-held.result.now = record { within = c.self.invariant.1; inside = (rw (← c.self.view_is) at c.requires.there); is = c.index_mut-held.ensures.value } in
    let node : (d : NodeRecord) → get_or c.self.inside.records.items c.args.place d ≡ c.index-node.result.now = λ d. get_or_default c.self.inside.records.items c.args.place d c.index-node.result.now (rw (← c.self.view_is) at c.requires.there) ∙ sym c.index-node.ensures in (
      c.self.invariant.0,
      are-within-taken (record { cpus = c.insert_all.new.self; mem = c.index_mut-held.result.now.mem + c.args.mem }) c.lowest_others-taken.result stands
          (λ d. rw (node d, ← c.get.ensures.value) c.lowest_others-taken.ensures.below) c.insert_all.ensures (λ d. let most = rw (← c.self.view_is) at c.requires.mem d in omega (arith, most, ap (λ (row : Held). row.mem) (stands-is stands))),
      c.self.invariant.2,
    )

pub returns-clause-lowest : goal.returns-clause-lowest
returns-clause-lowest c = λ d.
    let stands : StandsAt c.self.inside.records.items c.self.inside.held.items c.args.place c.index_mut-held.result.now = record { within = c.self.invariant.1; inside = (rw (← c.self.view_is) at c.requires.there); is = c.index_mut-held.ensures.value } in
    let node : (d : NodeRecord) → get_or c.self.inside.records.items c.args.place d ≡ c.index-node.result.now = λ d. get_or_default c.self.inside.records.items c.args.place d c.index-node.result.now (rw (← c.self.view_is) at c.requires.there) ∙ sym c.index-node.ensures in
    rw (← c.self.view_is, node d, ← stands-is stands, ← c.get.ensures.value) c.lowest_others-taken.ensures.lowest

pub returns-clause-held : goal.returns-clause-held
returns-clause-held c =
    let stands : StandsAt c.self.inside.records.items c.self.inside.held.items c.args.place c.index_mut-held.result.now = record { within = c.self.invariant.1; inside = (rw (← c.self.view_is) at c.requires.there); is = c.index_mut-held.ensures.value } in
    rw (← c.self.view_is) (takes-set c.self.inside.held.items c.args.place (record { cpus = c.insert_all.new.self; mem = c.index_mut-held.result.now.mem + c.args.mem }) c.lowest_others-taken.result c.args.mem
    (stands-inside stands) (rw (← stands-is stands) c.insert_all.ensures) (ap (λ (row : Held). row.mem + c.args.mem) (stands-is stands)))
