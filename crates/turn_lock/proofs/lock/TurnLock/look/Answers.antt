use Rattle.std.proofs.Common.{rules, subst}
use Rattle.turn_lock.specs.Passes.{SeesMore, pass_of}
use Rattle.turn_lock.proofs.Keeping.{looks}
use Rattle.turn_lock.proofs.Passing.{sees_looked}
use Rattle.turn_lock.proofs.lock.TurnLock.look.Goals as goal

pub load-requires : goal.load-requires
load-requires g c = (search rules, search rules, looks g.B.Kept.entries g.B.Kept.bearer g.B.Kept.begins_as _ _ _ _)

pub returns-clause-sees : goal.returns-clause-sees
returns-clause-sees g c =
    subst (λ old. SeesMore old (pass_of c.load.new.seat.table_id c.pass.inside.number c.load.new.seat.me.0)) c.pass.view_is
    (sees_looked g.B.Kept.bearer _ _ _ _ _ _ c.load.ensures.0 c.load.ensures.2)
