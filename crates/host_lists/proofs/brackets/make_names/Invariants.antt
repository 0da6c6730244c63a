use Rattle.std.proofs.Common.{◌≡◌, ◌+◌, ◌-◌, ◌≤◌, ◌++◌, map, fold}
use Rattle.std.specs.List.{range_with_len}
use Rattle.host_lists.specs.Hosts.{padded, with_name}
use Rattle.host_lists.specs.Found.{AreFound}
use Rattle.host_lists.proofs.brackets.make_names.Given as goal

abbrev pub invariant-loop-number : goal.invariant-loop-number
invariant-loop-number l = record {
  least : l.first ≤ l.number;
  most : l.number ≤ l.last + 1;
  found : AreFound l.found;
  names : l.found.names.keys ≡ fold with_name l.initial.found.names.keys (map (λ n. l.prefix ++ padded l.width n) (range_with_len l.first (l.number - l.first)));
}

abbrev pub decreases-loop-number : goal.decreases-loop-number
decreases-loop-number l = l.last + 1 - l.number
