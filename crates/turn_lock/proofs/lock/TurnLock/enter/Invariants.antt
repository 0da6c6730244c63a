use Rattle.turn_lock.specs.Passes.{SeesMore}
use Rattle.turn_lock.proofs.lock.TurnLock.enter.Given as goal

abbrev pub invariant-loop : goal.invariant-loop
invariant-loop g l = SeesMore l.initial.pass l.pass
