use Rattle.std.proofs.Common.{◌≡◌, ◌+◌, ◌-◌, ◌*◌, ◌^◌, min, sum_by, take}
use Rattle.sacct_book.specs.Times.{share_of}
use Rattle.sacct_book.specs.Windows.{seconds_in}
use Rattle.sacct_book.proofs.timeline.Timeline.used_in.Given as goal

abbrev pub invariant-loop-stretch : goal.invariant-loop-stretch
invariant-loop-stretch l =
    l.used ≡ min (sum_by (share_of l.window) (take l.stretch-index l.stretch-items)
    + l.self.cpus * seconds_in l.window l.self.since l.now) (2 ^ 64 - 1)
