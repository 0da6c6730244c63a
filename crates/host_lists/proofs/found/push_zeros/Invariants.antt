use Rattle.std.proofs.Common.{◌≡◌, ◌++◌, replicate}
use Rattle.host_lists.proofs.found.push_zeros.Given as goal

abbrev pub invariant-loop : goal.invariant-loop
invariant-loop l = l.text.items ≡ l.initial.text.items ++ replicate l.counter 48
