-- The places of names in a list: the first of each.
use Rattle.std.proofs.Common.{◌≡◌, ℕ, ◌+◌, ◌<◌, Bool, true, false, cond, if◌then◌else◌, ltb, eqb, List, [], ◌∷◌, ◌++◌, length, take, get_or, bytes_eq, Option, Some, None, refl, sym, ap, ◌∙◌, arith, inl, inr}
use Rattle.std.specs.Prelude.{is_some, position}
use Rattle.std.specs.List.{position_or_len}
use Rattle.std.specs.Cmp.Lexicographic.{nat_list_eq_equiv}
use Rattle.std.proofs.lemmas.Bool.{both_ways, cases_Bool}
use Rattle.std.proofs.lemmas.Bool.Decides.{nat_tests}
use Rattle.std.proofs.lemmas.Slice.Eq.{bytes_eq-Decides}
use Rattle.std.proofs.lemmas.List.{length_push, length-take-le, take_more}
use Rattle.std.proofs.lemmas.List.Folds.{position_or_len_push}
use Rattle.node_state.proofs.Places.{position-push}

-- what was found is found still, with one more behind the others
position-kept : {X : Type 0} (p : X → Bool) (xs : List X) (y : X) (at : ℕ) → position p xs ≡ Some at
    → position p (xs ++ y ∷ []) ≡ Some at
position-kept p xs y at found =
    rw (position_or_len_push p xs y, length_push xs y) (go (p y) (position_or_len p xs) (length xs) found)
  where
    go : (b : Bool) (n m : ℕ) → cond (ltb n m) (Some n) None ≡ Some at
        → cond (ltb (cond (eqb n m) (m + cond b 0 1) n) (m + 1)) (Some (cond (eqb n m) (m + cond b 0 1) n)) None ≡ Some at
    go true n m found = grind (arith, nat_tests)
    go false n m found = grind (arith, nat_tests)

turned : (one other : List ℕ) → bytes_eq one other ≡ bytes_eq other one
turned one other = nat_list_eq_equiv.symm one other

module _ (name key : List ℕ) (names : List (List ℕ)) (place : ℕ) (inside : place < length names) (is : key ≡ get_or names place key) where
  count : length (take place names) ≡ place
  count = length-take-le place names (omega (arith, inside))

  more : take (place + 1) names ≡ take place names ++ key ∷ []
  more = take_more names place key inside ∙ ap (λ last. take place names ++ last ∷ []) (sym is)

  -- one more name that isn't there yet
  pub first-more : (was now : Option ℕ) → position (bytes_eq key) (take place names) ≡ None
      → was ≡ position (bytes_eq name) (take place names) → now ≡ (if bytes_eq key name then Some place else was)
      → now ≡ position (bytes_eq name) (take (place + 1) names)
  first-more was now alone before after =
      let none : bytes_eq name key ≡ true → position (bytes_eq name) (take place names) ≡ None =
      λ same. rw ((bytes_eq-Decides name key).0 same) alone in
      rw (after, turned key name, before, more, position-push (bytes_eq name) (take place names) key none, count) refl

  -- one that is
  pub first-kept : (was : Option ℕ) (at : ℕ) → position (bytes_eq key) (take place names) ≡ Some at
      → was ≡ position (bytes_eq name) (take place names) → was ≡ position (bytes_eq name) (take (place + 1) names)
  first-kept was at found before = elim (cases_Bool (bytes_eq name key)) [
    | inl same ↦
        let here : position (bytes_eq name) (take place names) ≡ Some at =
        rw ((bytes_eq-Decides name key).0 same) found in
        before ∙ here ∙ sym (rw more (position-kept (bytes_eq name) (take place names) key at here))
    | inr other ↦
        let none : bytes_eq name key ≡ true → position (bytes_eq name) (take place names) ≡ None =
        λ same. absurd (both_ways (bytes_eq name key) other same) in
        before ∙ sym (rw (more, position-push (bytes_eq name) (take place names) key none, other) refl)
  ]

-- whether something was found
pub unlisted : (found one : Option ℕ) → found ≡ one → is_some found ≡ false → one ≡ None
unlisted found None is none = refl
unlisted found (Some at) is none = absurd (let never = rw is at none in cc)

pub listed-at : (found one : Option ℕ) → found ≡ one → is_some found ≡ true → (at : ℕ) × (one ≡ Some at)
listed-at found None is some = absurd (let never = rw is at some in cc)
listed-at found (Some at) is some = (at, refl)
