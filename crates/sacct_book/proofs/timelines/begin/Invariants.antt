use Rattle.std.proofs.Common.{◌≡◌, map, take}
use Rattle.sacct_book.specs.Times.{begun, times_of}
use Rattle.sacct_book.proofs.timelines.begin.Given as goal

abbrev pub invariant-loop-cpus : goal.invariant-loop-cpus
invariant-loop-cpus l = map times_of l.timelines.items ≡ map (begun l.moment) (take l.cpus-index l.held)
