use Rattle.std.proofs.Common.{map, refl}
use Rattle.ctl_state.specs.Planning.{room_of}
use Rattle.ctl_restore.proofs.Held.{refuses-one, takes-one}
use Rattle.ctl_restore.proofs.holding.hold.Goals as goal

pub returns-in_default-clause-holds : goal.returns-in_default-clause-holds
returns-in_default-clause-holds c =
    refuses-one (map room_of c.args.nodes.now.records) c.args.nodes.now.held c.args.nodes.now.held c.args.part.now
    (λ free. let never = c.in_default.ensures.some.1 free in cc)

pub returns-clause-holds : goal.returns-clause-holds
returns-clause-holds c =
    takes-one (map room_of c.args.nodes.now.records) c.args.nodes.now.held c.take.new.nodes.held c.args.part.now
    c.take.ensures.held (c.in-Some.ensures.some.0 refl)
