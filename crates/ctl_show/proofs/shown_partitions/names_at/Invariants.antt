use Rattle.std.proofs.Common.{◌≡◌, take}
use Rattle.ctl_show.specs.Records
use Rattle.ctl_show.proofs.shown_partitions.names_at.Given as goal

abbrev pub invariant-loop-place : goal.invariant-loop-place
invariant-loop-place l = l.names.items ≡ Records.names_at l.nodes (take l.place-index l.places)
