use Rattle.std.proofs.Common.{◌≡◌, ◌-◌, ◌≤◌, max, take, length, map, fold}
use Rattle.std.specs.List.{range_with_len}
use Rattle.host_lists.specs.Hosts.{with_name}
use Rattle.host_lists.specs.Found.{name_in}
use Rattle.host_lists.proofs.found.add_numbers.Given as goal

abbrev pub invariant-loop-number : goal.invariant-loop-number
invariant-loop-number l = record {
  least : l.fn.run.first ≤ l.number;
  most : l.number ≤ max l.fn.run.first l.fn.run.end;
  prefix : take (length l.row.prefix.now) l.text.items ≡ l.row.prefix.now;
  names : l.names.keys ≡ fold with_name l.initial.names.keys (map (name_in l.row) (range_with_len l.fn.run.first (l.number - l.fn.run.first)));
}
