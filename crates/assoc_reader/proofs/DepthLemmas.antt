-- The way up from an association, where one more stands behind the others.
use Rattle.std.proofs.Common.{ℕ, zero, suc, ◌≡◌, ◌+◌, ◌-◌, ◌<◌, ◌≤◌, List, [], ◌∷◌, ◌++◌, length, unwrap_or, IfSome, ◌⊎◌, inl, inr, Option, Some, None, option_map, refl, ap, sym, one-add, arith}
use Rattle.std.specs.List.{slice_get}
use Rattle.std.proofs.lemmas.Bool.{cases_order}
use Rattle.std.proofs.lemmas.Option.{slice_get-map}
use Rattle.plain_data.specs.Assocs.{way_up, parents_in}
use Rattle.plain_data.specs.declared.assoc.AssocConf.{AssocConf}
use Rattle.assoc_reader.proofs.ListLemmas.{slice_get-before, slice_get-last, slice_get-behind}

-- each parent stands before its child
abbrev pub Rises : List (Option ℕ) → Type 0
Rises parents = (place : ℕ) → IfSome (slice_get parents place) (λ parent. IfSome parent (λ p. p < place))

abbrev pub Within : ℕ → Option ℕ → Type 0
Within size place = IfSome place (λ p. p < size)

pub way_up-more : (most : ℕ) (parents : List (Option ℕ)) (last place : Option ℕ) → Rises parents → Within (length parents) place → way_up most (parents ++ last ∷ []) place ≡ way_up most parents place
way_up-more zero parents last place rises within = refl
way_up-more (suc most) parents last None rises within = refl
way_up-more (suc most) parents last (Some p) rises within =
    rw (slice_get-before parents last p within) (by_parent (slice_get parents p) (rises p) (λ up h. way_up-more most parents last up rises h)) where
      below : (up : Option ℕ) → IfSome up (λ q. q < p) → Within (length parents) up
      below None h = tt
      below (Some q) h = omega (arith, h, within)

      by_parent : (o : Option (Option ℕ)) → IfSome o (λ up. IfSome up (λ q. q < p)) → ((up : Option ℕ) → Within (length parents) up → way_up most (parents ++ last ∷ []) up ≡ way_up most parents up)
          → unwrap_or (option_map (λ up. p ∷ way_up most (parents ++ last ∷ []) up) o) [] ≡ unwrap_or (option_map (λ up. p ∷ way_up most parents up) o) []
      by_parent None h more = refl
      by_parent (Some up) h more = ap (λ (way : List ℕ). p ∷ way) (more up (below up h))

-- fewer steps make no longer way
pub way_up-le : (most : ℕ) (parents : List (Option ℕ)) (place : Option ℕ) → length (way_up most parents place) ≤ length (way_up (suc most) parents place)
way_up-le zero parents place = omega arith
way_up-le (suc most) parents None = omega arith
way_up-le (suc most) parents (Some p) = by_parent (slice_get parents p) (λ up. way_up-le most parents up) where
  by_parent : (o : Option (Option ℕ)) → ((up : Option ℕ) → length (way_up most parents up) ≤ length (way_up (suc most) parents up))
      → length (unwrap_or (option_map (λ up. p ∷ way_up most parents up) o) []) ≤ length (unwrap_or (option_map (λ up. p ∷ way_up (suc most) parents up) o) [])
  by_parent None less = omega arith
  by_parent (Some up) less = omega (arith, less up)

-- no way is longer than it may be, where the way of the last one's parent is shorter
pub way_up-push : (most : ℕ) (parents : List (Option ℕ)) (last : Option ℕ) → Rises parents → Within (length parents) last
    → ((place : ℕ) → length (way_up (suc most) parents (Some place)) ≤ most) → length (way_up (suc most) parents last) < most
    → (place : ℕ) → length (way_up (suc most) (parents ++ last ∷ []) (Some place)) ≤ most
way_up-push most parents last rises within all short place = by_place (cases_order place (length parents)) where
  by_place : (place ≡ length parents) ⊎ ((place < length parents) ⊎ (length parents < place)) → length (way_up (suc most) (parents ++ last ∷ []) (Some place)) ≤ most
  by_place (inl at) =
      let up : way_up most (parents ++ last ∷ []) last ≡ way_up most parents last = way_up-more most parents last last rises within in
      rw (slice_get-last parents last place at, up) (omega (arith, way_up-le most parents last))
  by_place (inr (inl before)) =
      rw (way_up-more (suc most) parents last (Some place) rises before) (all place)
  by_place (inr (inr behind)) = rw (slice_get-behind parents last place behind) (omega arith)

-- one step of the way up
pub way-step : (most level : ℕ) (assocs : List AssocConf) (place : ℕ) (assoc : AssocConf) → level < suc most → slice_get assocs place ≡ Some assoc
    → length (way_up (suc most - level) (parents_in assocs) (Some place)) ≡ 1 + length (way_up (suc most - (level + 1)) (parents_in assocs) assoc.parent)
way-step most level assocs place assoc less at =
    let left : suc most - level ≡ suc (suc most - (level + 1)) = omega arith in
    rw (left, slice_get-map (λ (one : AssocConf). one.parent) assocs place, at) (sym (one-add (length (way_up (suc most - (level + 1)) (parents_in assocs) assoc.parent))))

-- no way leads up from a place where nothing stands
pub way-missing : (most : ℕ) (assocs : List AssocConf) (place : ℕ) → slice_get assocs place ≡ None → way_up most (parents_in assocs) (Some place) ≡ []
way-missing zero assocs place none = refl
way-missing (suc most) assocs place none = rw (slice_get-map (λ (one : AssocConf). one.parent) assocs place, none) refl
