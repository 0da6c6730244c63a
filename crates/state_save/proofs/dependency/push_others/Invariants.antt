use Rattle.std.proofs.Common.{◌≡◌, ◌∷◌, ◌++◌, take, flat_map}
use Rattle.table_texts.specs.Dependency.{item_text}
use Rattle.state_save.proofs.dependency.push_others.Given as goal

abbrev pub invariant-loop-item : goal.invariant-loop-item
invariant-loop-item l = l.out.items ≡ l.initial.out.items ++ flat_map (λ item. l.mark ∷ item_text item) (take l.item-index l.others)
