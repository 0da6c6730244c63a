use Rattle.std.proofs.Common.{refl, subst, sym}
use Rattle.slurmd_link.specs.Turns.{IsTurnOrCut, scene}
use Rattle.slurmd_link.specs.declared.turn.Cut.TheVariants as cut
use Rattle.slurmd_link.proofs.Asking.{turned, unheard_turn, untaken_turn}
use Rattle.slurmd_link.proofs.Hearing.{handed_on}
use Rattle.slurmd_link.proofs.turn.turn.Goals as goal

pub returns-in_err-orders : goal.returns-in_err-orders
returns-in_err-orders g c =
    let old = scene (g.L.Link.wire c.args.link.now) (g.C.Clock.moments c.args.clock.now) c.args.daemon.now in
    let mid = scene (g.L.Link.wire c.ask.new.link) (g.C.Clock.moments c.ask.new.clock) c.ask.new.daemon in
    let new = scene (g.L.Link.wire c.hear.new.link) (g.C.Clock.moments c.ask.new.clock) c.ask.new.daemon in
    let why = c.in_err-orders.field-0.0 in
    subst (IsTurnOrCut c.args.user.now old new) (sym (handed_on _ why c.from_residual-in_err-orders.ensures.1))
    (unheard_turn c.args.user.now c.in_ok-now.node old mid new c.in_ok-now.now why c.in_ok-now.ensures refl refl
    c.hear.ensures.writes c.in_err-orders.ensures.heard)

pub returns-in_err-_taken : goal.returns-in_err-_taken
returns-in_err-_taken g c =
    let old = scene (g.L.Link.wire c.args.link.now) (g.C.Clock.moments c.args.clock.now) c.args.daemon.now in
    let mid = scene (g.L.Link.wire c.ask.new.link) (g.C.Clock.moments c.ask.new.clock) c.ask.new.daemon in
    let new = scene (g.L.Link.wire c.hear.new.link) (g.C.Clock.moments c.ask.new.clock) c.accept.new.self in
    subst (IsTurnOrCut c.args.user.now old new) (sym (handed_on _ cut.Memory c.from_residual-in_err-_taken.ensures.1))
    (untaken_turn c.args.user.now c.in_ok-now.node old mid new c.in_ok-now.now c.in_ok-orders.size c.in_ok-orders.orders
    c.in_ok-now.ensures refl c.in_err-_taken.ensures.err c.hear.ensures.writes c.in_ok-orders.ensures.heard)

pub returns : goal.returns
returns g c =
    let old = scene (g.L.Link.wire c.args.link.now) (g.C.Clock.moments c.args.clock.now) c.args.daemon.now in
    let mid = scene (g.L.Link.wire c.ask.new.link) (g.C.Clock.moments c.ask.new.clock) c.ask.new.daemon in
    let new = scene (g.L.Link.wire c.hear.new.link) (g.C.Clock.moments c.rest.new.self) c.accept.new.self in
    turned c.args.user.now c.in_ok-now.node old mid new c.in_ok-now.now c.in_ok-orders.size c.in_ok-orders.orders
    c.in_ok-now.ensures c.rest.ensures.moments c.in_ok-_taken.ensures.after c.hear.ensures.writes c.in_ok-orders.ensures.heard
