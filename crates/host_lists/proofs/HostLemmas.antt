-- Names of hosts and their numbers.
use Rattle.std.proofs.Common.{ℕ, zero, suc, ◌≡◌, ◌+◌, ◌-◌, ◌^◌, ◌<◌, ◌≤◌, ◌||◌, if◌then◌else◌, Bool, true, false, List, [], ◌∷◌, ◌++◌, map, sym, refl, ap, ◌∙◌, arith}
use Rattle.std.specs.Str.{bytes_eq}
use Rattle.std.specs.List.{list_all, range_with_len}
use Rattle.std.proofs.Math.Nat.{pow-le-pow_right}
use Rattle.std.proofs.lemmas.List.Folds.{list_any-append, list_all-append, list_all_at}
use Rattle.std.proofs.lemmas.List.FromFn.{map-range_with_len_more, length-map-range_with_len, get_or-map-range_with_len}
use Rattle.std.proofs.lemmas.List.Sums.{fold-append}
use Rattle.std.proofs.lemmas.Bool.Decides.{same_from_decides}
use Rattle.std.proofs.lemmas.Slice.Eq.{bytes_eq-Decides}
use Rattle.host_lists.specs.Hosts.{has}

-- a number of at most eight digits
pub small_number : (n i : ℕ) → i < 9 → n < 10 ^ i → n < 10 ^ 8
small_number n i h k = omega (arith, k, pow-le-pow_right {n = 10} (omega arith) {i = i} {j = 8} (omega arith))

-- the bytes of two texts
pub bytes_eq-same : (a b : List ℕ) → bytes_eq a b ≡ true → a ≡ b
bytes_eq-same a b h = (bytes_eq-Decides a b).0 h

pub bytes_eq-refl : (a : List ℕ) → bytes_eq a a ≡ true
bytes_eq-refl a = (bytes_eq-Decides a a).1 refl

pub bytes_eq-sym : (a b : List ℕ) → bytes_eq a b ≡ bytes_eq b a
bytes_eq-sym a b =
    same_from_decides (bytes_eq a b) (bytes_eq b a) (bytes_eq-Decides a b) (λ h. sym ((bytes_eq-Decides b a).0 h), λ h. (bytes_eq-Decides b a).1 (sym h))

-- one name more
pub has-push : (q : List ℕ) (names : List (List ℕ)) (name : List ℕ) → has q (names ++ name ∷ []) ≡ (has q names || bytes_eq q name)
has-push q names name = list_any-append (bytes_eq q) names (name ∷ []) ∙ ap (λ (t : Bool). has q names || t) (or_false (bytes_eq q name)) where
  or_false : (t : Bool) → (t || false) ≡ t
  or_false true = refl
  or_false false = refl

-- the set of names, with one more
pub has-insert : (q name : List ℕ) (names : List (List ℕ)) (was now : Bool) → was ≡ has q names → now ≡ (if bytes_eq name q then true else was) → now ≡ has q (names ++ name ∷ [])
has-insert q name names was now h k = k ∙ (rw (h, bytes_eq-sym name q) (swapped (bytes_eq q name) (has q names)) ∙ sym (has-push q names name)) where
  swapped : (a b : Bool) → (if a then true else b) ≡ (b || a)
  swapped true true = refl
  swapped true false = refl
  swapped false true = refl
  swapped false false = refl

-- the numbers from the first on, with one more
pub numbers_more : {X : Type 0} (f : ℕ → X) (first number : ℕ) → first ≤ number → map f (range_with_len first (number + 1 - first)) ≡ map f (range_with_len first (number - first)) ++ f number ∷ []
numbers_more f first number h =
    let n : number + 1 - first ≡ number - first + 1 = omega arith in
    rw n (map-range_with_len_more f first (number - first) number (omega arith))

-- the numbers up to one, and the others
numbers_on : {X : Type 0} (f : ℕ → X) (n first number len : ℕ) → number ≡ first + n → map f (range_with_len first (n + len)) ≡ map f (range_with_len first n) ++ map f (range_with_len number len)
numbers_on f zero first number len e =
    let same : number ≡ first = omega arith in
    let all : zero + len ≡ len = omega arith in
    rw (same, all) refl
numbers_on f (suc n) first number len e =
    let all : suc n + len ≡ suc (n + len) = omega arith in
    rw all (ap (λ (xs : List _). f first ∷ xs) (numbers_on f n (first + 1) number len (omega arith)))

pub numbers_up_to : {X : Type 0} (f : ℕ → X) (first number end : ℕ) → first ≤ number → number ≤ end → map f (range_with_len first (end - first)) ≡ map f (range_with_len first (number - first)) ++ map f (range_with_len number (end - number))
numbers_up_to f first number end h k =
    let all : end - first ≡ number - first + (end - number) = omega arith in
    ap (λ (n : ℕ). map f (range_with_len first n)) all ∙ numbers_on f (number - first) first number (end - number) (omega arith)

-- one of the numbers fails a test
pub numbers_bad : {X : Type 0} (p : X → Bool) (f : ℕ → X) (first last number : ℕ) → first ≤ number → number < last → p (f number) ≡ false → list_all p (map f (range_with_len first (last - first))) ≡ false
numbers_bad p f first last number h k e =
    list_all_at p (map f (range_with_len first (last - first))) (number - first) (f number) (rw length-map-range_with_len (omega arith)) (rw (get_or-map-range_with_len f first (last - first) (number - first) number (f number) (omega arith) (omega arith)) e)

pub ruleset numbering = (numbers_more, numbers_bad, fold-append, list_all-append)
