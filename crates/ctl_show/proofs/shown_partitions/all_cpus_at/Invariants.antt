use Rattle.std.proofs.Common.{◌≡◌, take}
use Rattle.std.specs.Prelude.{min, sum_by}
use Rattle.ctl_show.specs.Found.{last_count}
use Rattle.ctl_show.specs.Records
use Rattle.ctl_show.proofs.shown_partitions.all_cpus_at.Given as goal

abbrev pub invariant-loop-place : goal.invariant-loop-place
invariant-loop-place l =
    l.count ≡ min (sum_by (Records.cpus_at l.nodes) (take l.place-index l.places)) last_count
