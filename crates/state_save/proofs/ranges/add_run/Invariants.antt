use Rattle.std.proofs.Common.{◌≡◌, ◌<◌, ◌≤◌, ◌-◌, ◌++◌}
use Rattle.std.specs.Prelude.{All}
use Rattle.std.specs.List.{range_with_len}
use Rattle.state_save.proofs.ranges.add_run.Given as goal

-- the numbers so far stand behind those that were there
abbrev pub invariant-loop-number : goal.invariant-loop-number
invariant-loop-number l = All (λ n. n < l.first) l.initial.cpus → l.first ≤ l.last
    → l.cpus ≡ l.initial.cpus ++ range_with_len l.first (l.number - l.first)
