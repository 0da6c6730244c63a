use Rattle.std.proofs.Common.{take, Some}
use Rattle.ctl_show.specs.Found.{LieWithin}
use Rattle.ctl_show.specs.Showing.{is_among}
use Rattle.ctl_show.proofs.spans.hull_of.Given as goal

abbrev pub invariant-loop-target : goal.invariant-loop-target
invariant-loop-target l =
    LieWithin (is_among (Some (take l.target-index l.targets))) l.jobs.records (record { first = l.first; end = l.end })
