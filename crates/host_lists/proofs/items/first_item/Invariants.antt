use Rattle.std.proofs.Common.{◌≡◌, take, drop, false}
use Rattle.host_lists.specs.Hosts.{prepend, items_from}
use Rattle.host_lists.proofs.items.first_item.Given as goal

abbrev pub invariant-loop-place : goal.invariant-loop-place
invariant-loop-place l =
    prepend (take l.place l.text) (items_from l.inside (drop l.place l.text)) ≡ items_from false l.text
