use Rattle.std.proofs.Common.{refl, [], ◌++◌, None}
use Rattle.ctl_server.proofs.Following.{stays}
use Rattle.ctl_server.proofs.Turning.{worked_none, worked_on, none_went_on}
use Rattle.ctl_server.proofs.working.worker.Goals as goal

pub loop-init : goal.loop-init
loop-init g c = (tt, tt, c.requires, ([], worked_none _ _ None refl (stays _) refl (none_went_on, refl)))

pub loop-preserved : goal.loop-preserved
loop-preserved g c = (
  tt,
  tt,
  c.turn.ensures.out,
  (
    c.loop.invariant.3.0 ++ c.in_default.ensures.worked.0,
    worked_on _ _ _ _ c.loop.invariant.3.0 c.in_default.ensures.worked.0 c.loop.invariant.3.1
        c.in_default.ensures.worked.1,
  ),
)

pub returns-in-Some-turn-clause-worked : goal.returns-in-Some-turn-clause-worked
returns-in-Some-turn-clause-worked g c = (
  c.loop.invariant.3.0 ++ c.in-Some-turn.ensures.worked.0,
  worked_on _ _ _ _ c.loop.invariant.3.0 c.in-Some-turn.ensures.worked.0 c.loop.invariant.3.1
      c.in-Some-turn.ensures.worked.1,
)
