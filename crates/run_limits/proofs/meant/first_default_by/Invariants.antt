-- None so far names one.
use Rattle.std.proofs.Common.{◌≡◌, filter_map, drop}
use Rattle.run_limits.specs.Accounts.{default_by}
use Rattle.run_limits.proofs.meant.first_default_by.Given as goal

abbrev pub invariant-loop-assoc : goal.invariant-loop-assoc
invariant-loop-assoc l =
    filter_map (default_by l.records l.user) (drop l.assoc-index l.own)
    ≡ filter_map (default_by l.records l.user) l.own
