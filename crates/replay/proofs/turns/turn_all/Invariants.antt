use Rattle.ctl_desk.specs.Desk.{state_of}
use Rattle.replay.proofs.Turning.{IsTurning}
use Rattle.replay.proofs.turns.turn_all.Given as goal

abbrev pub invariant-loop-one : goal.invariant-loop-one
invariant-loop-one l =
    IsTurning l.round l.now l.ended (state_of l.fn.desk) (state_of l.desk) l.fn.played l.played l.one-index
