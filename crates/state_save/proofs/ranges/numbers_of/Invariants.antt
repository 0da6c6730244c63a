use Rattle.std.proofs.Common.{◌≡◌, ◌<◌, length}
use Rattle.std.specs.Prelude.{All}
use Rattle.state_save.specs.Meanings.{rising_from}
use Rattle.state_save.proofs.Rising.{behind}
use Rattle.state_save.proofs.ranges.numbers_of.Given as goal

abbrev pub decreases-loop-run : goal.decreases-loop-run
decreases-loop-run l = length l.rest

abbrev pub invariant-loop-run : goal.invariant-loop-run
invariant-loop-run l = record {
  below : All (λ n. n < l.least) l.cpus;
  says : behind l.cpus l.least l.rest ≡ rising_from 0 l.runs;
}
