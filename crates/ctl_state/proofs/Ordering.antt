-- A list in order has the elements of the list, and a stable sort makes it.
use Rattle.std.proofs.Common.{◌≡◌, suc, Bool, true, false, cond, List, [], ◌∷◌, filter, All, AllPairs, refl, sym, ap, ◌∙◌, inl, inr, arith}
use Rattle.std.specs.Cmp.{IsStrictWeakOrder}
use Rattle.std.specs.List.Sorted.{IsPermutation, IsSortedBy, IsStableBy, ties}
use Rattle.std.proofs.lemmas.Bool.{both_ways, cases_Bool, cond_both}
use Rattle.std.proofs.lemmas.Bool.Decides.{nat_tests}
use Rattle.std.proofs.lemmas.List.Elements.{All-cons, All-head, All-filter}
use Rattle.std.proofs.lemmas.List.Kept.{AllPairs-cons}
use Rattle.std.proofs.lemmas.List.Sorted.{All-permutation, IsPermutation-cons, IsPermutation-middle, IsPermutation-refl, IsPermutation-sym, IsPermutation-trans, sorted_far}
use Rattle.ctl_state.specs.Ordered.{ordered_by, put}
use Rattle.list_lemmas.proofs.Pairs.{pairs-head, pairs-tail}

module _ {X : Type 0} (before : X → X → Bool) where
  -- the elements stay
  put-moves : (x : X) (ys : List X) → IsPermutation (x ∷ ys) (put before x ys)
  put-moves x [] = IsPermutation-refl (x ∷ [])
  put-moves x (y ∷ ys) = cond_both (before y x) (y ∷ put before x ys) (x ∷ y ∷ ys) (IsPermutation (x ∷ y ∷ ys))
      (λ first. IsPermutation-trans _ _ _ (IsPermutation-sym _ _ (IsPermutation-middle (y ∷ []) x ys)) (IsPermutation-cons y _ _ (put-moves x ys)))
      (λ there. IsPermutation-refl (x ∷ y ∷ ys))

  pub ordered-moves : (xs : List X) → IsPermutation xs (ordered_by before xs)
  unfolding ordered_by
  ordered-moves [] = IsPermutation-refl []
  ordered-moves (x ∷ xs) = IsPermutation-trans _ _ _ (IsPermutation-cons x _ _ (ordered-moves xs)) (put-moves x (ordered_by before xs))

  -- and so does what holds of each two, whichever comes first
  module _ (R : X → X → Type 0) (turn : (x y : X) → R x y → R y x) where
    put-pairs : (x : X) (ys : List X) → All (R x) ys → AllPairs R ys → AllPairs R (put before x ys)
    put-pairs x [] one pairs = AllPairs-cons R x [] one pairs
    put-pairs x (y ∷ ys) one pairs = cond_both (before y x) (y ∷ put before x ys) (x ∷ y ∷ ys) (AllPairs R)
        (λ first. AllPairs-cons R y (put before x ys)
        (All-permutation (R y) (x ∷ ys) _ (put-moves x ys) (All-cons (R y) x ys (turn x y (All-head (R x) y ys one)) (pairs-head R y ys pairs)))
        (put-pairs x ys (λ k d below. one (suc k) d (omega (arith, below))) (pairs-tail R y ys pairs)))
        (λ there. AllPairs-cons R x (y ∷ ys) one pairs)

    pub ordered-pairs : (xs : List X) → AllPairs R xs → AllPairs R (ordered_by before xs)
    unfolding ordered_by
    ordered-pairs [] pairs = pairs
    ordered-pairs (x ∷ xs) pairs =
        put-pairs x (ordered_by before xs) (All-permutation (R x) xs _ (ordered-moves xs) (pairs-head R x xs pairs)) (ordered-pairs xs (pairs-tail R x xs pairs))

  module _ (weak : IsStrictWeakOrder before) where
    abbrev Follows : X → X → Type 0
    Follows one other = before other one ≡ false

    apart : (x y z : X) → before y x ≡ true → ties before z x ≡ true → ties before z y ≡ false
    apart x y z first tie = elim (cases_Bool (ties before z y)) [
      | inl too ↦
          let low : before y z ≡ false = grind (arith, nat_tests) in
          let high : before z x ≡ false = grind (arith, nat_tests) in
          absurd (both_ways (before y x) (weak.chain y z x low high) first)
      | inr other ↦ other
    ]

    -- those that tie stay as they stand
    put-stable : (x : X) (ys : List X) → IsStableBy before (x ∷ ys) (put before x ys)
    put-stable x [] z = refl
    put-stable x (y ∷ ys) z = cond_both (before y x) (y ∷ put before x ys) (x ∷ y ∷ ys) (λ l. filter (ties before z) l ≡ filter (ties before z) (x ∷ y ∷ ys))
        (λ first. ap (λ l. cond (ties before z y) (y ∷ l) l) (put-stable x ys z) ∙ swapped (ties before z x) (ties before z y) (filter (ties before z) ys) (apart x y z first))
        (λ there. refl)
      where
        swapped : (p q : Bool) (l : List X) → (p ≡ true → q ≡ false)
            → cond q (y ∷ cond p (x ∷ l) l) (cond p (x ∷ l) l) ≡ cond p (x ∷ cond q (y ∷ l) l) (cond q (y ∷ l) l)
        swapped true q l off = rw (off refl) refl
        swapped false q l off = refl

    ordered-stable : (xs : List X) → IsStableBy before xs (ordered_by before xs)
    unfolding ordered_by
    ordered-stable [] z = refl
    ordered-stable (x ∷ xs) z = put-stable x (ordered_by before xs) z ∙ ap (λ l. cond (ties before z x) (x ∷ l) l) (ordered-stable xs z)

    -- no later one is before an earlier one
    put-follows : (x : X) (ys : List X) → AllPairs Follows ys → AllPairs Follows (put before x ys)
    put-follows x [] pairs = AllPairs-cons Follows x [] (λ k d below. absurd (omega (arith, below))) pairs
    put-follows x (y ∷ ys) pairs = cond_both (before y x) (y ∷ put before x ys) (x ∷ y ∷ ys) (AllPairs Follows)
        (λ first. AllPairs-cons Follows y (put before x ys)
        (All-permutation (Follows y) (x ∷ ys) _ (put-moves x ys) (All-cons (Follows y) x ys (weak.one_way y x first) (pairs-head Follows y ys pairs)))
        (put-follows x ys (pairs-tail Follows y ys pairs)))
        (λ there. AllPairs-cons Follows x (y ∷ ys)
        (All-cons (Follows x) y ys there (λ k d below. weak.chain _ y x (pairs-head Follows y ys pairs k d below) there)) pairs)

    ordered-follows : (xs : List X) → AllPairs Follows (ordered_by before xs)
    unfolding ordered_by
    ordered-follows [] = λ i j d earlier below. absurd (omega (arith, below))
    ordered-follows (x ∷ xs) = put-follows x (ordered_by before xs) (ordered-follows xs)

    itself : (x : X) → before x x ≡ false
    itself x = elim (cases_Bool (before x x)) [ inl less ↦ weak.one_way x x less | inr not_less ↦ not_less ]

    -- lists in order with the same ties are one
    not-less : (x y : X) (ys later : List X) → AllPairs Follows (y ∷ ys) → filter (ties before x) (y ∷ ys) ≡ x ∷ later → before x y ≡ false
    not-less x y ys later pairs has =
        let all = All-filter (ties before x) (Follows y) (y ∷ ys) (All-cons (Follows y) y ys (itself y) (pairs-head Follows y ys pairs)) in
        All-head (Follows y) x later (rw has at all)

    same : (xs ys : List X) → AllPairs Follows xs → AllPairs Follows ys → IsStableBy before xs ys → ys ≡ xs
    same [] [] up up' stable = refl
    same [] (y ∷ ys) up up' stable = let lost = stable y in absurd (cc (rw (itself y) at lost))
    same (x ∷ xs) [] up up' stable = let lost = stable x in absurd (cc (rw (itself x) at lost))
    same (x ∷ xs) (y ∷ ys) up up' stable =
        let first : filter (ties before x) (x ∷ xs) ≡ x ∷ filter (ties before x) xs = rw (itself x) refl in
        let other : filter (ties before y) (y ∷ ys) ≡ y ∷ filter (ties before y) ys = rw (itself y) refl in
        let low = not-less x y ys _ up' (stable x ∙ first) in
        let high = not-less y x xs _ up (sym (stable y) ∙ other) in
        let both : y ∷ filter (ties before x) ys ≡ x ∷ filter (ties before x) xs = rw (low, high, itself x) at (stable x) in
        let head : y ≡ x = cc in
        let tail = same xs ys (pairs-tail Follows x xs up) (pairs-tail Follows y ys up') (λ z. rest (ties before z x) x _ _ (rw head at (stable z))) in
        cc
      where
        rest : (b : Bool) (x : X) (l m : List X) → cond b (x ∷ l) l ≡ cond b (x ∷ m) m → l ≡ m
        rest true x l m alike = cc
        rest false x l m alike = alike

    pub sorted-is_ordered : (xs ys : List X) → IsSortedBy before ys → IsStableBy before xs ys → ys ≡ ordered_by before xs
    sorted-is_ordered xs ys sorted stable =
        same (ordered_by before xs) ys (ordered-follows xs) (λ i j d earlier below. sorted_far before weak ys sorted i j d (omega (arith, earlier)) below)
        (λ z. stable z ∙ sym (ordered-stable xs z))
