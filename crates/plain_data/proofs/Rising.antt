-- Lists of numbers that rise.
use Rattle.std.proofs.Common.{◌≡◌, ℕ, zero, suc, ◌+◌, ◌-◌, ◌<◌, ◌≤◌, Bool, true, false, cond, inl, inr, subst, ltb, eqb, ◌&&◌, ◌||◌, List, [], ◌∷◌, ◌++◌, All, AllPairs, refl, sym, ap, ◌∙◌, arith}
use Rattle.std.specs.List.{filter, range_with_len}
use Rattle.std.proofs.lemmas.Bool.{and_from, lt-ltb, or_cases, eqb-true, ne_eqb, eq-eqb, false_from_ne_true}
use Rattle.std.proofs.lemmas.List.{append-nil}
use Rattle.std.proofs.lemmas.List.Elements.{All-nil, All-cons, All-head, All-tail}
use Rattle.plain_data.specs.Rows.{has_id}
use Rattle.plain_data.proofs.Ranges.{has_id-inside, filter-range_same, filter-range_none, filter-range_append}

-- what holds of each number of a list holds of one that is there
pub at-has_id : (P : ℕ → Type 0) (ids : List ℕ) (k : ℕ) → All P ids → has_id ids k ≡ true → P k
at-has_id P [] k all has = absurd cc
at-has_id P (id ∷ ids) k all has = elim (or_cases (eqb id k) (has_id ids k) has) as (λ _. P k) [
  | inl here ↦ subst P (eqb-true id k here) (All-head P id ids all)
  | inr later ↦ at-has_id P ids k (All-tail P id ids all) later
]

bounds-range : (p : ℕ → Bool) (a n : ℕ) → All (λ k. (a ≤ k) × (k < a + n)) (filter p (range_with_len a n))
bounds-range p a zero = All-nil _
bounds-range p a (suc n) = at (p a) (filter p (range_with_len (a + 1) n)) (bounds-range p (a + 1) n) where
  at : (b : Bool) (rest : List ℕ) → All (λ k. (a + 1 ≤ k) × (k < a + 1 + n)) rest → All (λ k. (a ≤ k) × (k < a + suc n)) (cond b (a ∷ rest) rest)
  at true rest later = All-cons (λ k. (a ≤ k) × (k < a + suc n)) a rest (omega arith, omega arith) (λ k d inside. (omega (arith, later k d inside), omega (arith, later k d inside)))
  at false rest later = λ k d inside. (omega (arith, later k d inside), omega (arith, later k d inside))

pub below-range : (p : ℕ → Bool) (n : ℕ) → All (λ k. k < n) (filter p (range_with_len 0 n))
below-range p n = λ k d inside. omega (arith, bounds-range p 0 n k d inside)

rises-cons : (first : ℕ) (rest : List ℕ) → All (λ k. first < k) rest → AllPairs (λ x y. x < y) rest → AllPairs (λ x y. x < y) (first ∷ rest)
rises-cons first rest low rises zero zero d before inside = absurd (omega arith)
rises-cons first rest low rises (suc i) zero d before inside = absurd (omega arith)
rises-cons first rest low rises zero (suc j) d before inside = low j d (omega arith)
rises-cons first rest low rises (suc i) (suc j) d before inside = rises i j d (omega arith) (omega arith)

pub rising-range : (p : ℕ → Bool) (a n : ℕ) → AllPairs (λ x y. x < y) (filter p (range_with_len a n))
rising-range p a zero = λ i j d before inside. absurd (omega arith)
rising-range p a (suc n) = at (p a) (filter p (range_with_len (a + 1) n)) (bounds-range p (a + 1) n) (rising-range p (a + 1) n) where
  at : (b : Bool) (rest : List ℕ) → All (λ k. (a + 1 ≤ k) × (k < a + 1 + n)) rest → AllPairs (λ x y. x < y) rest → AllPairs (λ x y. x < y) (cond b (a ∷ rest) rest)
  at true rest later rises = rises-cons a rest (λ k d inside. omega (arith, later k d inside)) rises
  at false rest later rises = rises

-- a number above all others comes last
last-at : (p q : ℕ → Bool) (number rest : ℕ) → All (λ k. k < number) (filter p (range_with_len 0 (number + suc rest)))
    → ((k : ℕ) → k < number + suc rest → q k ≡ (p k || eqb number k))
    → filter q (range_with_len 0 (number + suc rest)) ≡ filter p (range_with_len 0 (number + suc rest)) ++ number ∷ []
last-at p q number rest low more =
    let none : (k : ℕ) → number ≤ k → k < number + suc rest → p k ≡ false
    = λ k above below. false_from_ne_true (p k) (λ yes. absurd (omega (arith, above, at-has_id (λ k. k < number) _ k low (has_id-inside p (number + suc rest) k ∙ and_from _ _ (lt-ltb k (number + suc rest) below) yes)))) in
    let front : filter q (range_with_len 0 number) ≡ filter p (range_with_len 0 number)
    = filter-range_same q p 0 number (λ k above below. rw (more k (omega arith), ne_eqb number k (λ e. omega arith)) (or-false (p k))) in
    let back : filter q (range_with_len (number + 1) rest) ≡ []
    = filter-range_none q (number + 1) rest (λ k above below. rw (more k (omega arith), none k (omega arith) (omega arith), ne_eqb number k (λ e. omega arith)) refl) in
    let here : q number ≡ true = rw (more number (omega arith), eq-eqb number number refl) (or-true (p number)) in
    let nothing : filter p (range_with_len number (suc rest)) ≡ [] = filter-range_none p number (suc rest) none in
    rw (filter-range_append q number (suc rest), front, here, back, filter-range_append p number (suc rest), nothing, append-nil (filter p (range_with_len 0 number))) refl where
      or-false : (b : Bool) → (b || false) ≡ b
      or-false true = refl
      or-false false = refl

      or-true : (b : Bool) → (b || true) ≡ true
      or-true true = refl
      or-true false = refl

pub range-with_last : (p q : ℕ → Bool) (number n : ℕ) → number < n → All (λ k. k < number) (filter p (range_with_len 0 n))
    → ((k : ℕ) → k < n → q k ≡ (p k || eqb number k))
    → filter q (range_with_len 0 n) ≡ filter p (range_with_len 0 n) ++ number ∷ []
range-with_last p q number n inside low more = at n (n - suc number) (omega arith) low more where
  at : (n rest : ℕ) → n ≡ number + suc rest → All (λ k. k < number) (filter p (range_with_len 0 n)) → ((k : ℕ) → k < n → q k ≡ (p k || eqb number k))
      → filter q (range_with_len 0 n) ≡ filter p (range_with_len 0 n) ++ number ∷ []
  at n rest is = subst (λ n. All (λ k. k < number) (filter p (range_with_len 0 n)) → ((k : ℕ) → k < n → q k ≡ (p k || eqb number k)) → filter q (range_with_len 0 n) ≡ filter p (range_with_len 0 n) ++ number ∷ []) (sym is) (last-at p q number rest)

-- equal lists have equal tests
pub same-tests : (p q : ℕ → Bool) (n k : ℕ) → filter p (range_with_len 0 n) ≡ filter q (range_with_len 0 n) → k < n → p k ≡ q k
same-tests p q n k same inside =
    let both : (ltb k n && p k) ≡ (ltb k n && q k) = sym (has_id-inside p n k) ∙ ap (λ ids. has_id ids k) same ∙ has_id-inside q n k in
    rw (lt-ltb k n inside) at both
