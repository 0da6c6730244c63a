-- Which numbers a list has that is filtered, or a range.
use Rattle.std.proofs.Common.{◌≡◌, ℕ, zero, suc, cond, ◌+◌, ◌<◌, ◌≤◌, Bool, true, false, ◌&&◌, ◌||◌, List, [], ◌∷◌, All, AllPairs, refl, sym, ap, ◌∙◌, arith, inl, inr}
use Rattle.std.specs.Prelude.{nat_eq, nat_le, nat_lt}
use Rattle.std.specs.List.{filter, range_with_len}
use Rattle.std.proofs.lemmas.Bool.{and_right, both_ways, cases_Bool, cases_lt, eq-eqb, eqb-true, false_from_ne_true, le-leb, lt-ltb, or_cases, or_left}
use Rattle.std.proofs.lemmas.Bool.Decides.{nat_tests}
use Rattle.std.proofs.lemmas.List.Elements.{All-head, All-tail}
use Rattle.std.proofs.lemmas.List.FromFn.{length-range_with_len, get_or-range_with_len}
use Rattle.std.proofs.lemmas.List.Kept.{AllPairs-filter}
use Rattle.plain_data.specs.Rows.{has_id}

pub has_id-filter : (p : ℕ → Bool) (xs : List ℕ) (k : ℕ) → has_id (filter p xs) k ≡ (has_id xs k && p k)
has_id-filter p [] k = refl
has_id-filter p (x ∷ xs) k =
    at (p x) (p k) (nat_eq x k) refl (λ here. ap p (eqb-true x k here)) (has_id-filter p xs k) where
      at : (b c e : Bool) → nat_eq x k ≡ e → (e ≡ true → b ≡ c) → has_id (filter p xs) k ≡ (has_id xs k && c)
          → has_id (cond b (x ∷ filter p xs) (filter p xs)) k ≡ ((nat_eq x k || has_id xs k) && c)
      at true true true is here rest = rw is refl
      at true true false is here rest = rw (is, rest) refl
      at true false true is here rest = absurd (let same = here refl in cc)
      at true false false is here rest = rw (is, rest) refl
      at false true true is here rest = absurd (let same = here refl in cc)
      at false true false is here rest = rw (is, rest) refl
      at false false e is here rest =
          rest ∙ and_right (has_id xs k) false refl ∙ sym (and_right (nat_eq x k || has_id xs k) false refl)

pub has_id-range : (a n k : ℕ) → has_id (range_with_len a n) k ≡ (nat_le a k && nat_lt k (a + n))
has_id-range a zero k = grind (arith, nat_tests)
has_id-range a (suc n) k = rw (has_id-range (a + 1) n k) (grind (arith, nat_tests))
