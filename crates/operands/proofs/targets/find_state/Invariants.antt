use Rattle.std.proofs.Common.{◌≡◌, drop}
use Rattle.operands.specs.Targets.{rows, state_among}
use Rattle.operands.proofs.targets.find_state.Given as goal

abbrev pub invariant-loop-own : goal.invariant-loop-own
invariant-loop-own l = state_among (rows (drop l.own-index l.table)) l.code ≡ state_among (rows l.table) l.code
