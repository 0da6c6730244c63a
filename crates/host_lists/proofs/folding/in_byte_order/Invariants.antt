use Rattle.std.proofs.Common.{◌≡◌, true, [], take, map, fold}
use Rattle.std.specs.Ordering.{nat_cmp}
use Rattle.std.specs.Cmp.Lexicographic.{slice_cmp}
use Rattle.std.specs.BTreeSet.{insert_key, keys}
use Rattle.std.specs.List.{list_all}
use Rattle.small_texts.specs.Name.{is_name}
use Rattle.host_lists.proofs.folding.in_byte_order.Given as goal

abbrev pub invariant-loop-name : goal.invariant-loop-name
invariant-loop-name l =
    (map (λ name. name.now) (keys l.sorted) ≡ fold (insert_key (slice_cmp nat_cmp)) [] (take l.name-index l.names))
    × (list_all is_name (take l.name-index l.names) ≡ true)
