use Rattle.std.proofs.Common.{◌≡◌, ◌+◌, ◌≤◌, length}
use Rattle.std.specs.Option.{option_copied, option_map_or}
use Rattle.host_lists.specs.Hosts.{host_items, items_of_rest, bad_from}
use Rattle.host_lists.proofs.items.first_bad_item.Given as goal

abbrev pub invariant-loop-rest : goal.invariant-loop-rest
invariant-loop-rest l =
    (bad_from l.place (items_of_rest (option_copied l.rest)) ≡ bad_from 0 (host_items l.text)) × (l.place + option_map_or (λ r. length r.now + 1) l.rest 0 ≤ length l.text + 1)

abbrev pub decreases-loop-rest : goal.decreases-loop-rest
decreases-loop-rest l = option_map_or (λ r. length r.now + 1) l.rest 0
