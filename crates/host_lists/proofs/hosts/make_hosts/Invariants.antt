use Rattle.std.proofs.Common.{◌≡◌, ◌+◌, ◌≤◌, length, true, fold, is_some}
use Rattle.std.specs.List.{list_all}
use Rattle.std.specs.Option.{option_copied, option_map_or}
use Rattle.host_lists.specs.Hosts.{items_of_rest, item_names, all_names, with_name, hosts_in}
use Rattle.host_lists.specs.Found.{AreFound}
use Rattle.host_lists.proofs.hosts.make_hosts.Given as goal

abbrev pub invariant-loop-rest : goal.invariant-loop-rest
invariant-loop-rest l =
    let left = items_of_rest (option_copied l.rest) in
    AreFound l.found × (list_all (λ item. is_some (item_names item)) left ≡ true) × (fold with_name l.found.names.keys (all_names left) ≡ hosts_in l.text) × (length l.found.names.keys ≤ l.most)

abbrev pub decreases-loop-rest : goal.decreases-loop-rest
decreases-loop-rest l = option_map_or (λ r. length r.now + 1) l.rest 0
