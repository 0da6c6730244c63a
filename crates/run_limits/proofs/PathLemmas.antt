-- The paths of users, one step at a time.
use Rattle.std.proofs.Common.{◌≡◌, ℕ, zero, suc, ◌<◌, List, [], ◌∷◌, ◌++◌, length, map, reverse, refl, ap, ◌∙◌, Option, Some, None}
use Rattle.std.proofs.lemmas.List.{reverse-append}
use Rattle.run_limits.specs.declared.tree.TreeNode.{TreeNode}
use Rattle.run_limits.specs.Tree.{IsTree, parent_at, way_up, level_of, path_of}
use Rattle.run_limits.proofs.Ways.{way-step}

module _ (usage shares : Option ℕ → ℕ) (nodes : List TreeNode) where
  pub path_of-none : path_of usage shares nodes None ≡ []
  unfolding path_of
  path_of-none = ap (λ l. reverse (map (level_of usage shares nodes) l)) (none (length nodes))
    where
      none : (f : ℕ) → way_up f nodes None ≡ []
      none zero = refl
      none (suc f) = refl

  pub path_of-step : IsTree nodes → (place : ℕ) → place < length nodes → path_of usage shares nodes (Some place)
      ≡ path_of usage shares nodes (parent_at nodes place) ++ level_of usage shares nodes place ∷ []
  unfolding path_of
  path_of-step tree place low =
      ap (λ l. reverse (map (level_of usage shares nodes) l)) (way-step nodes tree place low)
      ∙ reverse-append (level_of usage shares nodes place ∷ []) (map (level_of usage shares nodes) (way_up (length nodes) nodes (parent_at nodes place)))
