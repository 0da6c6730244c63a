use Rattle.std.proofs.Common.{ℕ, List, ◌+◌, ◌-◌, ◌≤◌, ◌++◌, map, fold}
use Rattle.std.specs.List.{range_with_len}
use Rattle.host_lists.specs.Hosts.{padded, with_name}
use Rattle.host_lists.specs.Counting.{Counts}
use Rattle.host_lists.proofs.brackets.count_numbers.Given as goal

abbrev pub invariant-loop-number : goal.invariant-loop-number
invariant-loop-number l = record {
  least : l.first ≤ l.number;
  most : l.number ≤ l.last + 1;
  counts : (prefix : List ℕ) → (names : List (List ℕ)) → Counts prefix l.initial.counted names → Counts prefix l.counted (fold with_name names (map (λ n. prefix ++ padded l.width n) (range_with_len l.first (l.number - l.first))));
}

abbrev pub decreases-loop-number : goal.decreases-loop-number
decreases-loop-number l = l.last + 1 - l.number
