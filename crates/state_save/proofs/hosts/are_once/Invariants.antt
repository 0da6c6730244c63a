use Rattle.std.proofs.Common.{◌≡◌, length}
use Rattle.state_save.specs.Fitting.{each_once}
use Rattle.state_save.proofs.hosts.are_once.Given as goal

abbrev pub decreases-loop-name : goal.decreases-loop-name
decreases-loop-name l = length l.rest

abbrev pub invariant-loop-name : goal.invariant-loop-name
invariant-loop-name l = each_once l.rest ≡ each_once l.names
