use Rattle.std.proofs.Common.{rules, subst}
use Rattle.turn_lock.specs.Passes.{Meets, PassView, pass_of}
use Rattle.turn_lock.proofs.Keeping.{looks, joins}
use Rattle.turn_lock.proofs.Passing.{meets}
use Rattle.turn_lock.proofs.lock.TurnLock.meet.Goals as goal

pub join_seat-requires : goal.join_seat-requires
join_seat-requires g c = (search rules, search rules, search rules, search rules, joins g.B.Kept.entries g.B.Kept.bearer g.B.Kept.begins_as _ _ _ _ _ c.pass.invariant.turn c.other.invariant.turn)

pub load-requires : goal.load-requires
load-requires g c = (search rules, search rules, looks g.B.Kept.entries g.B.Kept.bearer g.B.Kept.begins_as _ _ _ _)

pub returns-clause-meets : goal.returns-clause-meets
returns-clause-meets g c =
    let after : PassView g.row.B.Denot g.row.E.Denot = pass_of c.load.new.seat.table_id c.pass.inside.number c.load.new.seat.me.0 in
    let told = meets g.B.Kept.bearer c.pass.inside.seat.table_id c.load.new.seat.table_id c.other.inside.seat.table_id c.pass.inside.number c.other.inside.number _
    c.pass.inside.seat.me c.other.inside.seat.me c.join_seat.new.seat.me c.load.new.seat.me _ _ (search rules) c.join_seat.ensures.2 c.load.ensures.2 c.pass.invariant c.other.invariant in
    subst (λ old. Meets old c.args.other after) c.pass.view_is (subst (λ other. Meets (pass_of c.pass.inside.seat.table_id c.pass.inside.number c.pass.inside.seat.me.0) other after) c.other.view_is told)
