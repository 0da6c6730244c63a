-- The places on the way up to root.
use Rattle.std.proofs.Common.{◌≡◌, ℕ, zero, suc, ◌+◌, ◌<◌, ◌≤◌, Bool, true, false, cond, List, [], ◌∷◌, length, refl, ap, ◌∙◌, inl, inr, arith, Option, Some, None}
use Rattle.std.specs.Prelude.{nat_eq, IfSome, unwrap_or, option_map}
use Rattle.std.specs.List.{list_any}
use Rattle.std.proofs.lemmas.Bool.{cases_eq, eq-eqb, ne_eqb}
use Rattle.run_limits.specs.declared.tree.TreeNode.{TreeNode}
use Rattle.run_limits.specs.Tree.{IsTree, parent_at, way_up, is_same_place}

-- a place, if it is one, below a bound
abbrev pub IsUnder : ℕ → Option ℕ → Type 0
IsUnder bound at = IfSome at (λ place. place < bound)

pub under-less : (low high : ℕ) → low ≤ high → (at : Option ℕ) → IsUnder low at → IsUnder high at
under-less low high le None under = tt
under-less low high le (Some place) under = omega (arith, under)

-- what is added at most
pub added-low : (b : Bool) (n : ℕ) → cond b n 0 ≤ n
added-low true n = omega arith
added-low false n = omega arith

-- the way from a parent is shorter
pub steps-less : (place : ℕ) (at : Option ℕ) → IsUnder place at → unwrap_or (option_map suc at) 0 < suc place
steps-less place None under = omega arith
steps-less place (Some parent) under = omega (arith, under)

-- what a place is still owed on a way
abbrev pub owed : List TreeNode → Option ℕ → Option ℕ → ℕ → ℕ
owed nodes None at by = 0
owed nodes (Some account) at by = cond (list_any (nat_eq account) (way_up (length nodes) nodes at)) by 0

module _ (nodes : List TreeNode) (tree : IsTree nodes) where
  -- as many steps as there are places below are enough
  way-steps : (f g : ℕ) (at : Option ℕ) → IsUnder f at → IsUnder g at → way_up f nodes at ≡ way_up g nodes at
  way-steps zero zero at low high = refl
  way-steps zero (suc g) None low high = refl
  way-steps zero (suc g) (Some place) low high = absurd (omega (arith, low))
  way-steps (suc f) zero None low high = refl
  way-steps (suc f) zero (Some place) low high = absurd (omega (arith, high))
  way-steps (suc f) (suc g) None low high = refl
  way-steps (suc f) (suc g) (Some place) low high =
      ap (λ l. place ∷ l) (way-steps f g (parent_at nodes place)
      (under-less place f (omega (arith, low)) (parent_at nodes place) (tree.parents place))
      (under-less place g (omega (arith, high)) (parent_at nodes place) (tree.parents place)))

  pub way-step : (place : ℕ) → place < length nodes
      → way_up (length nodes) nodes (Some place) ≡ place ∷ way_up (length nodes) nodes (parent_at nodes place)
  way-step place low =
      way-steps (length nodes) (suc (length nodes)) (Some place) low (omega (arith, low))

  -- a way begins below
  way-under : (f : ℕ) (at : Option ℕ) (account : ℕ) → IsUnder account at → list_any (nat_eq account) (way_up f nodes at) ≡ false
  way-under zero at account under = refl
  way-under (suc f) None account under = refl
  way-under (suc f) (Some place) account under =
      rw (ne_eqb account place (λ e. absurd (omega (arith, under, e))))
      (way-under f (parent_at nodes place) account (under-less place account (omega (arith, under)) (parent_at nodes place) (tree.parents place)))

  pub owed-step : (one : Option ℕ) (place by : ℕ) → place < length nodes
      → owed nodes one (Some place) by ≡ cond (is_same_place one (Some place)) by 0 + owed nodes one (parent_at nodes place) by
  owed-step None place by low = refl
  owed-step (Some account) place by low = rw (way-step place low) (elim (cases_eq account place) [
    | inl e ↦
        let same : account ≡ place = e in
        rw (same, eq-eqb place place refl, way-under (length nodes) (parent_at nodes place) place (tree.parents place)) (omega arith)
    | inr apart ↦ rw (ne_eqb account place apart) (omega arith)
  ])

  pub owed-end : (one : Option ℕ) (by : ℕ) → owed nodes one None by ≡ 0
  owed-end None by = refl
  owed-end (Some account) by = rw (none (length nodes)) refl
    where
      none : (f : ℕ) → way_up f nodes None ≡ []
      none zero = refl
      none (suc f) = refl

  -- at a place on the way what it is owed is more than what its parent is
  pub owed-here : (place by : ℕ) → place < length nodes
      → owed nodes (Some place) (Some place) by ≡ by + owed nodes (Some place) (parent_at nodes place) by
  owed-here place by low = owed-step (Some place) place by low ∙ rw (eq-eqb place place refl) refl
