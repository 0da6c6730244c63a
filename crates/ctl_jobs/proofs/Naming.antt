-- Which of a list's members a test finds.
use Rattle.std.proofs.Common.{ℕ, ◌≡◌, ◌≤◌, Bool, false, ◌&&◌, ◌||◌, List, [], ◌∷◌, ◌++◌, take, drop, slice_get, All, refl, sym, ap, ◌∙◌, arith, inl, inr}
use Rattle.std.specs.List.{filter, find, list_any, slice_range}
use Rattle.std.proofs.lemmas.Bool.{cases_Bool}
use Rattle.std.proofs.lemmas.List.{append-nil, take-append-drop}
use Rattle.std.proofs.lemmas.List.Elements.{All-head, All-tail, filter-append}
use Rattle.std.proofs.lemmas.List.Folds.{drop_split}

-- one that passes two tests passes the one among those that pass the other
pub any_filter : {X : Type 0} (named test : X → Bool) (xs : List X)
    → list_any (λ x. named x && test x) xs ≡ list_any test (filter named xs)
any_filter named test [] = refl
any_filter named test (x ∷ xs) = grind (arith, any_filter named test xs)

pub any_either : {X : Type 0} (one other test : X → Bool) (xs : List X)
    → list_any (λ x. (one x || other x) && test x) xs
    ≡ (list_any test (filter one xs) || list_any (λ x. other x && test x) xs)
any_either one other test [] = refl
any_either one other test (x ∷ xs) = grind (arith, any_either one other test xs)

pub any_nothing : {X : Type 0} (test : X → Bool) (xs : List X) → list_any (λ x. false && test x) xs ≡ false
any_nothing test [] = refl
any_nothing test (x ∷ xs) = any_nothing test xs

-- one of the targets names a member that passes, or one of the members that pass is named
pub any_named : {X T : Type 0} (named : T → X → Bool) (test : X → Bool) (xs : List X) (targets : List T)
    → list_any (λ x. list_any (λ target. named target x) targets && test x) xs
    ≡ list_any (λ target. list_any test (filter (named target) xs)) targets
any_named named test xs [] = any_nothing test xs
any_named named test xs (target ∷ targets) =
    any_either (named target) (λ x. list_any (λ other. named other x) targets) test xs
    ∙ ap (λ rest. list_any test (filter (named target) xs) || rest) (any_named named test xs targets)

-- lists of which a test finds the same have the same first one
found_first : {X : Type 0} (test : X → Bool) (xs : List X) → find test xs ≡ slice_get (filter test xs) 0
found_first test [] = refl
found_first test (x ∷ xs) = elim (cases_Bool (test x)) [
  | inl finds ↦ rw finds refl
  | inr fails ↦ rw fails (found_first test xs)
]

pub same_found : {X : Type 0} (test : X → Bool) (xs ys : List X) → filter test xs ≡ filter test ys
    → find test xs ≡ find test ys
same_found test xs ys same = found_first test xs ∙ ap (λ zs. slice_get zs 0) same ∙ sym (found_first test ys)
