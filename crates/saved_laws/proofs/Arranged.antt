-- A list put into an order: what holds of its members and of pairs of them.
use Rattle.std.proofs.Common.{ℕ, ◌≡◌, ◌≢◌, ◌∙◌, Bool, true, false, List, [], ◌∷◌, All, AllPairs, refl, ap, sym, arith}
use Rattle.std.specs.Ordering.{is_lt, nat_cmp}
use Rattle.std.specs.Cmp.Lexicographic.{slice_cmp}
use Rattle.std.specs.declared.cmp.Ordering.{Ordering}
use Rattle.std.specs.declared.cmp.Ordering.TheVariants.{Less, Equal, Greater}
use Rattle.std.proofs.lemmas.Bool.{both_ways, cond_both}
use Rattle.std.proofs.lemmas.Cmp.{alike_right, nat_list_cmp_total}
use Rattle.std.proofs.lemmas.List.Elements.{All-cons, All-head, All-nil, All-tail, All-weaker}
use Rattle.std.proofs.lemmas.List.Kept.{AllPairs-cons}
use Rattle.list_lemmas.proofs.Pairs.{pairs-head, pairs-tail}
use Rattle.ctl_state.specs.Ordered.{ordered_by, put}
use Rattle.saved_data.specs.Order.{IsNotBehind}

module _ {X : Type 0} (before : X → X → Bool) where
  put-all : (P : X → Type 0) (x : X) (ys : List X) → P x → All P ys → All P (put before x ys)
  put-all P x [] is all = All-cons P x [] is all
  put-all P x (y ∷ ys) is all =
      cond_both (before y x) (y ∷ put before x ys) (x ∷ y ∷ ys) (All P)
      (λ ahead. All-cons P y (put before x ys) (All-head P y ys all) (put-all P x ys is (All-tail P y ys all)))
      (λ behind. All-cons P x (y ∷ ys) is all)

  pub order_all : (P : X → Type 0) (xs : List X) → All P xs → All P (ordered_by before xs)
  unfolding ordered_by
  order_all P [] all = all
  order_all P (x ∷ xs) all =
      put-all P x (ordered_by before xs) (All-head P x xs all) (order_all P xs (All-tail P x xs all))

  put-pairs : (R : X → X → Type 0) (x : X) (ys : List X) → ((one other : X) → R one other → R other one)
      → All (R x) ys → AllPairs R ys → AllPairs R (put before x ys)
  put-pairs R x [] back all pairs = AllPairs-cons R x [] all pairs
  put-pairs R x (y ∷ ys) back all pairs =
      cond_both (before y x) (y ∷ put before x ys) (x ∷ y ∷ ys) (AllPairs R)
      (λ ahead. AllPairs-cons R y (put before x ys)
      (put-all (R y) x ys (back x y (All-head (R x) y ys all)) (pairs-head R y ys pairs))
      (put-pairs R x ys back (All-tail (R x) y ys all) (pairs-tail R y ys pairs)))
      (λ behind. AllPairs-cons R x (y ∷ ys) all pairs)

  -- what holds of each two, whichever comes first
  pub order_pairs : (R : X → X → Type 0) (xs : List X) → ((one other : X) → R one other → R other one)
      → AllPairs R xs → AllPairs R (ordered_by before xs)
  unfolding ordered_by
  order_pairs R [] back pairs = pairs
  order_pairs R (x ∷ xs) back pairs =
      put-pairs R x (ordered_by before xs) back (order_all (R x) xs (pairs-head R x xs pairs))
      (order_pairs R xs back (pairs-tail R x xs pairs))

  -- the order itself
  put-ordered : (R : X → X → Type 0) (x : X) (ys : List X) → ((y x : X) → before y x ≡ true → R y x)
      → ((y x : X) → before y x ≡ false → R x y) → ((x y z : X) → R x y → R y z → R x z)
      → AllPairs R ys → AllPairs R (put before x ys)
  put-ordered R x [] ahead behind on pairs = AllPairs-cons R x [] (All-nil (R x)) pairs
  put-ordered R x (y ∷ ys) ahead behind on pairs =
      cond_both (before y x) (y ∷ put before x ys) (x ∷ y ∷ ys) (AllPairs R)
      (λ is. AllPairs-cons R y (put before x ys) (put-all (R y) x ys (ahead y x is) (pairs-head R y ys pairs))
      (put-ordered R x ys ahead behind on (pairs-tail R y ys pairs)))
      (λ not. AllPairs-cons R x (y ∷ ys)
      (All-cons (R x) y ys (behind y x not)
      (All-weaker (R y) (R x) (λ z later. on x y z (behind y x not) later) ys (pairs-head R y ys pairs)))
      pairs)

  pub order_ordered : (R : X → X → Type 0) (xs : List X) → ((y x : X) → before y x ≡ true → R y x)
      → ((y x : X) → before y x ≡ false → R x y) → ((x y z : X) → R x y → R y z → R x z)
      → AllPairs R (ordered_by before xs)
  unfolding ordered_by
  order_ordered R [] ahead behind on = λ i j d earlier below. absurd (omega (arith, below))
  order_ordered R (x ∷ xs) ahead behind on =
      put-ordered R x (ordered_by before xs) ahead behind on (order_ordered R xs ahead behind on)

-- ---- byte order of names

pub less_first : (one other : List ℕ) → is_lt (slice_cmp nat_cmp one other) ≡ true → IsNotBehind one other
less_first one other is behind = absurd (let no = ap is_lt behind in let yes = sym no ∙ is in cc)

pub else_second : (one other : List ℕ) → is_lt (slice_cmp nat_cmp one other) ≡ false → IsNotBehind other one
else_second one other not behind =
    let less : slice_cmp nat_cmp one other ≡ Less = nat_list_cmp_total.antisymm one other ∙ ap turned behind in
    both_ways (is_lt (slice_cmp nat_cmp one other)) not (ap is_lt less)
  where
    turned : Ordering → Ordering
    turned Less = Greater
    turned Equal = Equal
    turned Greater = Less

pub not_behind_on : (one middle other : List ℕ) → IsNotBehind one middle → IsNotBehind middle other
    → IsNotBehind one other
not_behind_on one middle other first second = by (slice_cmp nat_cmp one middle) refl (slice_cmp nat_cmp middle other) refl
  where
    R : List ℕ → List ℕ → Ordering
    R one other = slice_cmp nat_cmp one other

    by : (o : Ordering) → R one middle ≡ o → (p : Ordering) → R middle other ≡ p → R one other ≢ Greater
    by Greater is p more = absurd (first is)
    by o is Greater more = absurd (second more)
    by Equal is p more = λ behind. second (sym (nat_list_cmp_total.congr one middle other is) ∙ behind)
    by Less is Less more = λ behind. absurd (let less = nat_list_cmp_total.trans one middle other is more in
        let never = sym less ∙ behind in cc)
    by Less is Equal more = λ behind. absurd (let less = sym (alike_right nat_list_cmp_total middle other one more) ∙ is in
        let never = sym less ∙ behind in cc)
