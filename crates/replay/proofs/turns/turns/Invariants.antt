use Rattle.std.proofs.Common.{◌≡◌, ◌+◌, ◌-◌}
use Rattle.ctl_desk.specs.Desk.{state_of}
use Rattle.replay.proofs.Several.{IsHaving}
use Rattle.replay.proofs.turns.turns.Given as goal

abbrev pub invariant-loop : goal.invariant-loop
invariant-loop l = record {
  having : IsHaving (l.count - l.counter) l.now (state_of l.desk) (state_of l.fn.desk) l.one l.fn.one l.count;
  number : l.one.daemon.number ≡ l.fn.one.daemon.number + l.counter;
}
