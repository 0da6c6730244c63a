use Rattle.std.proofs.Common.{◌≡◌, ◌++◌, ◌∷◌, take, map, flat_map}
use Rattle.host_lists.specs.Folding.{group_text}
use Rattle.host_lists.proofs.folding.written_groups.Given as goal

abbrev pub invariant-loop-group : goal.invariant-loop-group
invariant-loop-group l =
    l.text.items ≡ l.initial.text.items ++ flat_map (λ t. 44 ∷ t) (map (λ group. group_text (map (λ name. name.now) group.items)) (take l.group-index l.others))
