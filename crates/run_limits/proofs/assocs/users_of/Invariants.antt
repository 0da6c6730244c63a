-- The numbers so far.
use Rattle.std.proofs.Common.{◌≡◌, map, take}
use Rattle.run_limits.specs.Accounts.{number_in}
use Rattle.run_limits.proofs.assocs.users_of.Given as goal

abbrev pub invariant-loop-assoc : goal.invariant-loop-assoc
invariant-loop-assoc l = l.users.items ≡ map (number_in l.records) (take l.assoc-index l.records)
