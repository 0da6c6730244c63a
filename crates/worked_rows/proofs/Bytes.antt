-- Names in byte order.
use Rattle.std.proofs.Common.{ℕ, ◌≡◌, ◌||◌, Bool, true, false, Ordering, List, [], ◌∷◌, fold, All, AllPairs, sym, refl, ap, ◌∙◌, arith}
use Rattle.std.specs.Str.{bytes_eq}
use Rattle.std.specs.BTreeSet.{insert_key}
use Rattle.std.specs.Ordering.{nat_cmp, match_ordering, ordering_reverse, is_eq}
use Rattle.std.specs.Cmp.Lexicographic.{slice_cmp, nat_list_cmp_total}
use Rattle.std.specs.declared.cmp.Ordering.TheVariants.{Less, Equal, Greater}
use Rattle.std.proofs.lemmas.Map.Text.{is_eq-slice_cmp}
use Rattle.std.proofs.lemmas.Slice.Eq.{bytes_eq-Decides}
use Rattle.std.proofs.lemmas.List.Elements.{All-nil, All-cons, All-head, All-tail, All-weaker}
use Rattle.std.proofs.lemmas.List.Kept.{AllPairs-cons}
use Rattle.host_lists.specs.Hosts.{has}
use Rattle.host_lists.specs.Folding.{in_byte_order}
use Rattle.worked_rows.specs.Folds.{IsBelow}
use Rattle.host_lists.proofs.NameSets.{or_assoc}
use Rattle.list_lemmas.proofs.Pairs.{pairs-head, pairs-tail}

abbrev put : List (List ℕ) → List ℕ → List (List ℕ)
put = insert_key (slice_cmp nat_cmp)

-- ---- in order

put-all-step : (P : List ℕ → Type 0) (name x : List ℕ) (names : List (List ℕ)) → P name → All P (x ∷ names)
    → All P (put names name) → (o : Ordering)
    → All P (match_ordering o (name ∷ x ∷ names) (x ∷ names) (x ∷ put names name))
put-all-step P name x names h all more Less = All-cons P name (x ∷ names) h all
put-all-step P name x names h all more Equal = all
put-all-step P name x names h all more Greater = All-cons P x (put names name) (All-head P x names all) more

put-all : (P : List ℕ → Type 0) (name : List ℕ) (names : List (List ℕ)) → P name → All P names → All P (put names name)
put-all P name [] h all = All-cons P name [] h all
put-all P name (x ∷ names) h all = put-all-step P name x names h all
    (put-all P name names h (All-tail P x names all)) (slice_cmp nat_cmp name x)

above : (name x : List ℕ) → slice_cmp nat_cmp name x ≡ Greater → IsBelow x name
above name x e = nat_list_cmp_total.antisymm x name ∙ ap ordering_reverse e

put-order-step : (name x : List ℕ) (names : List (List ℕ)) → AllPairs IsBelow (x ∷ names)
    → AllPairs IsBelow (put names name) → (o : Ordering) → slice_cmp nat_cmp name x ≡ o
    → AllPairs IsBelow (match_ordering o (name ∷ x ∷ names) (x ∷ names) (x ∷ put names name))
put-order-step name x names pairs more Less e =
    let behind : All (IsBelow name) names = All-weaker (IsBelow x) (IsBelow name)
    (λ y h. nat_list_cmp_total.trans name x y e h) names (pairs-head IsBelow x names pairs) in
    AllPairs-cons IsBelow name (x ∷ names) (All-cons (IsBelow name) x names e behind) pairs
put-order-step name x names pairs more Equal e = pairs
put-order-step name x names pairs more Greater e =
    AllPairs-cons IsBelow x (put names name)
    (put-all (IsBelow x) name names (above name x e) (pairs-head IsBelow x names pairs)) more

put-order : (name : List ℕ) (names : List (List ℕ)) → AllPairs IsBelow names → AllPairs IsBelow (put names name)
put-order name [] pairs = AllPairs-cons IsBelow name [] (All-nil (IsBelow name)) pairs
put-order name (x ∷ names) pairs = put-order-step name x names pairs
    (put-order name names (pairs-tail IsBelow x names pairs)) (slice_cmp nat_cmp name x) refl

fold-order : (more names : List (List ℕ)) → AllPairs IsBelow names → AllPairs IsBelow (fold put names more)
fold-order [] names pairs = pairs
fold-order (name ∷ more) names pairs = fold-order more (put names name) (put-order name names pairs)

pub names-in_order : (names : List (List ℕ)) → AllPairs IsBelow (in_byte_order names)
unfolding in_byte_order
names-in_order names = fold-order names [] (λ i j d before below. absurd (omega (arith, below)))

-- ---- the same names

or_swap : (a b : Bool) → (a || b) ≡ (b || a)
or_swap true true = refl
or_swap true false = refl
or_swap false true = refl
or_swap false false = refl

or_false : (a : Bool) → (a || false) ≡ a
or_false true = refl
or_false false = refl

-- a name that is the first already
has-twice : (q x name : List ℕ) (names : List (List ℕ)) → name ≡ x
    → has q (x ∷ names) ≡ (has q (x ∷ names) || bytes_eq q name)
has-twice q x name names e =
    twice (bytes_eq q x) (has q names) ∙ ap (λ (y : List ℕ). (bytes_eq q x || has q names) || bytes_eq q y) (sym e)
  where
    twice : (a b : Bool) → (a || b) ≡ ((a || b) || a)
    twice true b = refl
    twice false true = refl
    twice false false = refl

has-put-step : (q x name : List ℕ) (names : List (List ℕ))
    → has q (put names name) ≡ (has q names || bytes_eq q name) → (o : Ordering) → slice_cmp nat_cmp name x ≡ o
    → has q (match_ordering o (name ∷ x ∷ names) (x ∷ names) (x ∷ put names name))
    ≡ ((bytes_eq q x || has q names) || bytes_eq q name)
has-put-step q x name names more Less e = or_swap (bytes_eq q name) (bytes_eq q x || has q names)
has-put-step q x name names more Equal e =
    has-twice q x name names ((bytes_eq-Decides name x).0 (sym (is_eq-slice_cmp name x) ∙ ap is_eq e))
has-put-step q x name names more Greater e = ap (λ (t : Bool). bytes_eq q x || t) more
    ∙ sym (or_assoc (bytes_eq q x) (has q names) (bytes_eq q name))

has-put : (q name : List ℕ) (names : List (List ℕ)) → has q (put names name) ≡ (has q names || bytes_eq q name)
has-put q name [] = or_false (bytes_eq q name)
has-put q name (x ∷ names) = has-put-step q x name names (has-put q name names) (slice_cmp nat_cmp name x) refl

has-fold : (q : List ℕ) (more names : List (List ℕ)) → has q (fold put names more) ≡ (has q names || has q more)
has-fold q [] names = sym (or_false (has q names))
has-fold q (name ∷ more) names =
    has-fold q more (put names name)
    ∙ (ap (λ (t : Bool). t || has q more) (has-put q name names) ∙ or_assoc (has q names) (bytes_eq q name)
    (has q more))

pub names-kept : (names : List (List ℕ)) (name : List ℕ) → has name (in_byte_order names) ≡ has name names
unfolding in_byte_order
names-kept names name = has-fold name names []
