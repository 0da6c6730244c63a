use Rattle.std.proofs.Common.{◌-◌, ap, arith}
use Rattle.node_state.specs.declared.record.Held.{Held}
use Rattle.node_state.proofs.Holding.{StandsAt, stands-is, stands-inside, are-within-given, gives-set, length-within}
use Rattle.node_state.proofs.nodes.Nodes.give_back.Goals as goal

pub index_mut-held-requires : goal.index_mut-held-requires
index_mut-held-requires c =
    let long = length-within c.self.inside.records.items c.self.inside.held.items c.self.invariant.1 in
    let inside = (rw (← c.self.view_is) at c.requires.there) in
    omega (arith, long, inside, c.self.inside.held.ok.0)

pub invariant_of-self : goal.invariant_of-self
invariant_of-self c =
    let stands : StandsAt c.self.inside.records.items c.self.inside.held.items c.args.place c.index_mut-held.result.now = record { within = c.self.invariant.1; inside = (rw (← c.self.view_is) at c.requires.there); is = c.index_mut-held.ensures.value } in (
      c.self.invariant.0,
      are-within-given (record { cpus = c.remove_all.new.self; mem = c.index_mut-held.result.now.mem - c.args.mem }) c.args.cpus.now stands c.remove_all.ensures (omega arith),
      c.self.invariant.2,
    )

pub returns-clause-held : goal.returns-clause-held
returns-clause-held c =
    let stands : StandsAt c.self.inside.records.items c.self.inside.held.items c.args.place c.index_mut-held.result.now = record { within = c.self.invariant.1; inside = (rw (← c.self.view_is) at c.requires.there); is = c.index_mut-held.ensures.value } in
    rw (← c.self.view_is) (gives-set c.self.inside.held.items c.args.place (record { cpus = c.remove_all.new.self; mem = c.index_mut-held.result.now.mem - c.args.mem }) c.args.cpus.now c.args.mem
    (stands-inside stands) (rw (← stands-is stands) c.remove_all.ensures) (ap (λ (row : Held). row.mem - c.args.mem) (stands-is stands)))
