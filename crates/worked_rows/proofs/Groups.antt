-- The groups of names.
use Rattle.std.proofs.Common.{ℕ, ◌≡◌, ◌≢◌, ◌&&◌, ◌==◌, not, if◌then◌else◌, Bool, true, false, List, [], ◌∷◌, ◌++◌, length, map, get_or, fold, flat_map, All, AllPairs, IsPermutation, sym, refl, ap, ◌∙◌, subst, arith, append_assoc, eqb-true}
use Rattle.std.specs.Str.{bytes_eq}
use Rattle.std.proofs.lemmas.Bool.Decides.{nat_tests}
use Rattle.std.proofs.lemmas.Slice.Eq.{bytes_eq-Decides}
use Rattle.std.proofs.lemmas.List.{append-nil}
use Rattle.std.proofs.lemmas.List.Elements.{All-nil, All-cons, All-head, All-tail, All-push, All-weaker}
use Rattle.std.proofs.lemmas.List.Quantifiers.{all_pairs_push}
use Rattle.std.proofs.lemmas.List.Sorted.{IsPermutation-refl, IsPermutation-sym, IsPermutation-trans, IsPermutation-middle, IsPermutation-append_left, IsPermutation-append_right}
use Rattle.host_lists.specs.Folding.{prefix_of, digits_len, same_group, is_of_group, with_grouped, grouped}
use Rattle.worked_rows.specs.Folds.{first_of, AreAlike}
use Rattle.worked_rows.proofs.Modes.{not-true}
use Rattle.line_words.proofs.WordLemmas.{both-left, both-right}
use Rattle.list_lemmas.proofs.Pairs.{pairs-head, pairs-tail}

abbrev Group : Type 0
Group = List (List ℕ)

abbrev flat : List Group → List (List ℕ)
flat groups = flat_map (λ group. group) groups

-- ---- the names

holds-with-step : (name : List ℕ) (group : Group) (groups : List Group)
    → IsPermutation (name ∷ flat groups) (flat (with_grouped groups name)) → (t : Bool)
    → IsPermutation (name ∷ (group ++ flat groups))
    (flat (if t then (group ++ name ∷ []) ∷ groups else group ∷ with_grouped groups name))
holds-with-step name group groups more true =
    subst (IsPermutation (name ∷ (group ++ flat groups))) (sym (append_assoc group (name ∷ []) (flat groups)))
    (IsPermutation-sym _ _ (IsPermutation-middle group name (flat groups)))
holds-with-step name group groups more false =
    IsPermutation-trans _ _ _ (IsPermutation-sym _ _ (IsPermutation-middle group name (flat groups)))
    (IsPermutation-append_right group _ _ more)

holds-with : (name : List ℕ) (groups : List Group)
    → IsPermutation (name ∷ flat groups) (flat (with_grouped groups name))
holds-with name [] = IsPermutation-refl (name ∷ [])
holds-with name (group ∷ groups) = holds-with-step name group groups (holds-with name groups) (is_of_group group name)

holds-fold : (names : List (List ℕ)) (groups : List Group)
    → IsPermutation (flat groups ++ names) (flat (fold with_grouped groups names))
holds-fold [] groups = subst (λ (xs : List (List ℕ)). IsPermutation xs (flat groups))
    (sym (append-nil (flat groups))) (IsPermutation-refl (flat groups))
holds-fold (name ∷ names) groups =
    IsPermutation-trans _ _ _ (IsPermutation-middle (flat groups) name names)
    (IsPermutation-trans _ _ _ (IsPermutation-append_left names (name ∷ flat groups)
    (flat (with_grouped groups name)) (holds-with name groups)) (holds-fold names (with_grouped groups name)))

pub groups-hold : (names : List (List ℕ)) → IsPermutation names (flat_map (λ group. group) (grouped names))
unfolding grouped
groups-hold names = holds-fold names []

-- ---- what holds of each group

-- a name more: what holds of each group before holds of it after
module _ (P Q : Group → Type 0) (name : List ℕ) (stays : (group : Group) → P group → Q group)
    (gets : (group : Group) → is_of_group group name ≡ true → P group → Q (group ++ name ∷ []))
    (begins : Q (name ∷ [])) where
  each-step : (group : Group) (groups : List Group) → All P (group ∷ groups) → All Q (with_grouped groups name)
      → (t : Bool) → is_of_group group name ≡ t
      → All Q (if t then (group ++ name ∷ []) ∷ groups else group ∷ with_grouped groups name)
  each-step group groups all more true e = All-cons Q (group ++ name ∷ []) groups
      (gets group e (All-head P group groups all)) (All-weaker P Q stays groups (All-tail P group groups all))
  each-step group groups all more false e = All-cons Q group (with_grouped groups name)
      (stays group (All-head P group groups all)) more

  each-with : (groups : List Group) → All P groups → All Q (with_grouped groups name)
  each-with [] all = All-cons Q (name ∷ []) [] begins (All-nil Q)
  each-with (group ∷ groups) all = each-step group groups all (each-with groups (All-tail P group groups all))
      (is_of_group group name) refl

module _ (P : Group → Type 0) (gets : (name : List ℕ) (group : Group) → is_of_group group name ≡ true → P group → P
    (group ++ name ∷ [])) (begins : (name : List ℕ) → P (name ∷ [])) where
  each-fold : (names : List (List ℕ)) (groups : List Group) → All P groups → All P (fold with_grouped groups names)
  each-fold [] groups all = all
  each-fold (name ∷ names) groups all = each-fold names (with_grouped groups name)
      (each-with P P name (λ group h. h) (gets name) (begins name) groups all)

-- what the test of a group says
record IsSame (one other : List ℕ) : Type 0 where
  digits : digits_len other ≢ 0
  alike : AreAlike one other

same : (one other : List ℕ) → same_group one other ≡ true → IsSame one other
same one other h =
    let some : (digits_len other == 0) ≡ false = not-true (digits_len other == 0)
    (both-left (not (digits_len other == 0))
    (bytes_eq (prefix_of one) (prefix_of other) && digits_len one == digits_len other) h) in
    let both : (bytes_eq (prefix_of one) (prefix_of other) && digits_len one == digits_len other) ≡ true =
    both-right (not (digits_len other == 0)) (bytes_eq (prefix_of one)
    (prefix_of other) && digits_len one == digits_len other) h in
    record {
      digits = λ none. let zero : (digits_len other == 0) ≡ true = rw none refl in let clash : false ≡ true =
          sym some ∙ zero in cc;
      alike = (
        (bytes_eq-Decides (prefix_of one) (prefix_of other)).0
            (both-left (bytes_eq (prefix_of one) (prefix_of other))
            (digits_len one == digits_len other) both),
        eqb-true (digits_len one) (digits_len other)
            (both-right (bytes_eq (prefix_of one) (prefix_of other)) (digits_len one == digits_len other) both),
      );
    }

-- and what it says where it fails
not_same : (one other : List ℕ) → same_group one other ≡ false → AreAlike one other → digits_len one ≡ 0
not_same one other h alike = by_digits (digits_len one == 0) refl where
  prefixes : bytes_eq (prefix_of one) (prefix_of other) ≡ true
  prefixes = (bytes_eq-Decides (prefix_of one) (prefix_of other)).1 alike.0

  lengths : (digits_len one == digits_len other) ≡ true
  lengths = let e : digits_len one ≡ digits_len other = alike.1 in grind (arith, nat_tests)

  by_digits : (t : Bool) → (digits_len one == 0) ≡ t → digits_len one ≡ 0
  by_digits true e = eqb-true (digits_len one) 0 e
  by_digits false e =
      let other_digits : (digits_len other == 0) ≡ false = subst (λ (n : ℕ). (n == 0) ≡ false) alike.1 e in
      let yes : same_group one other ≡ true = rw (other_digits, prefixes, lengths) refl in
      let clash : false ≡ true = sym h ∙ yes in
      cc

-- a group has a name, its names are alike, and one without digits stands alone
record IsGroup (group : Group) : Type 0 where
  some : group ≢ []
  alike : All (AreAlike (first_of group)) group
  alone : digits_len (first_of group) ≡ 0 → length group ≡ 1

group-begins : (name : List ℕ) → IsGroup (name ∷ [])
group-begins name = record {
  some = λ none. let clash : name ∷ [] ≡ [] = none in cc;
  alike = All-cons (AreAlike name) name [] (refl, refl) (All-nil (AreAlike name));
  alone = λ none. refl;
}

group-gets : (name : List ℕ) (group : Group) → is_of_group group name ≡ true → IsGroup group
    → IsGroup (group ++ name ∷ [])
group-gets name [] h is = absurd (is.some refl)
group-gets name (first ∷ names) h is =
    let test : IsSame first name = same first name h in
    record {
      some = λ none. let clash : first ∷ (names ++ name ∷ []) ≡ [] = none in cc;
      alike = All-push (AreAlike first) (first ∷ names) name is.alike test.alike;
      alone = λ none. absurd (test.digits (sym test.alike.1 ∙ none));
    }

are_groups : (names : List (List ℕ)) → All IsGroup (grouped names)
unfolding grouped
are_groups names = each-fold IsGroup group-gets group-begins names [] (All-nil IsGroup)

pub groups-alike : (names : List (List ℕ))
    → All (λ group. (group ≢ []) × All (AreAlike (first_of group)) group) (grouped names)
groups-alike names = All-weaker IsGroup (λ group. (group ≢ []) × All (AreAlike (first_of group)) group)
    (λ group is. (is.some, is.alike)) (grouped names) (are_groups names)

pub groups-alone : (names : List (List ℕ))
    → All (λ group. digits_len (first_of group) ≡ 0 → length group ≡ 1) (grouped names)
groups-alone names = All-weaker IsGroup (λ group. digits_len (first_of group) ≡ 0 → length group ≡ 1)
    (λ group is. is.alone) (grouped names) (are_groups names)

-- ---- the first names

abbrev firsts : List Group → List (List ℕ)
firsts groups = map first_of groups

-- a name joins a group, or comes behind the first names, of whose groups none takes it
data Comes (groups : List Group) (name : List ℕ) (after : List Group) : Type 0 where
  Joins : firsts after ≡ firsts groups → Comes groups name after
  Opens : firsts after ≡ firsts groups ++ name ∷ [] → All (λ first. same_group first name ≡ false) (firsts groups)
      → Comes groups name after

comes-behind : (group : Group) (groups : List Group) (name : List ℕ) → same_group (first_of group) name ≡ false
    → Comes groups name (with_grouped groups name) → Comes (group ∷ groups) name (group ∷ with_grouped groups name)
comes-behind group groups name e (Joins f) = Joins (ap (λ (u : List (List ℕ)). first_of group ∷ u) f)
comes-behind group groups name e (Opens f none) =
    Opens (ap (λ (u : List (List ℕ)). first_of group ∷ u) f)
    (All-cons (λ first. same_group first name ≡ false) (first_of group) (firsts groups) e none)

comes-step : (group : Group) (groups : List Group) (name : List ℕ) → IsGroup group
    → Comes groups name (with_grouped groups name) → (t : Bool) → is_of_group group name ≡ t
    → Comes (group ∷ groups) name (if t then (group ++ name ∷ []) ∷ groups else group ∷ with_grouped groups name)
comes-step [] groups name is more t e = absurd (is.some refl)
comes-step (first ∷ names) groups name is more true e = Joins refl
comes-step (first ∷ names) groups name is more false e = comes-behind (first ∷ names) groups name e more

comes : (groups : List Group) (name : List ℕ) → All IsGroup groups → Comes groups name (with_grouped groups name)
comes [] name are = Opens refl (All-nil (λ first. same_group first name ≡ false))
comes (group ∷ groups) name are =
    comes-step group groups name (All-head IsGroup group groups are)
    (comes groups name (All-tail IsGroup group groups are)) (is_of_group group name) refl

-- what holds of each two names, of which one opens a group behind the other's
module _ (R : List ℕ → List ℕ → Type 0) where
  abbrev May : List ℕ → List ℕ → Type 0
  May one other = same_group one other ≡ false → R one other

  -- the names behind are so to the first names of the groups
  abbrev Follow : List (List ℕ) → List (List ℕ) → Type 0
  Follow heads names = All (λ name. All (λ first. May first name) heads) names

  firsts-with : (groups : List Group) (name : List ℕ) → AllPairs R (firsts groups)
      → All (λ first. May first name) (firsts groups) → Comes groups name (with_grouped groups name)
      → AllPairs R (firsts (with_grouped groups name))
  firsts-with groups name pairs may (Joins f) = subst (AllPairs R) (sym f) pairs
  firsts-with groups name pairs may (Opens f none) =
      subst (AllPairs R) (sym f) (all_pairs_push R (firsts groups) name pairs
      (λ k d inside. may k d inside (none k d inside)))

  follow-with : (groups : List Group) (name : List ℕ) (names : List (List ℕ)) → Follow (firsts groups) names
      → All (May name) names → Comes groups name (with_grouped groups name)
      → Follow (firsts (with_grouped groups name)) names
  follow-with groups name names follow later (Joins f) = subst (λ (heads : List (List ℕ)). Follow heads names)
      (sym f) follow
  follow-with groups name names follow later (Opens f none) =
      subst (λ (heads : List (List ℕ)). Follow heads names) (sym f)
      (λ k d inside. All-push (λ first. May first (get_or names k d)) (firsts groups) name (follow k d inside)
      (later k d inside))

  firsts-fold : (names : List (List ℕ)) (groups : List Group) → All IsGroup groups → AllPairs R (firsts groups)
      → Follow (firsts groups) names → AllPairs May names → AllPairs R (firsts (fold with_grouped groups names))
  firsts-fold [] groups are pairs follow mays = pairs
  firsts-fold (name ∷ names) groups are pairs follow mays =
      let how : Comes groups name (with_grouped groups name) = comes groups name are in
      firsts-fold names (with_grouped groups name)
      (each-with IsGroup IsGroup name (λ group h. h) (group-gets name) (group-begins name) groups are)
      (firsts-with groups name pairs (All-head (λ n. All (λ first. May first n) (firsts groups)) name names follow) how)
      (follow-with groups name names (All-tail (λ n. All (λ first. May first n) (firsts groups)) name names follow)
      (pairs-head May name names mays) how)
      (pairs-tail May name names mays)

  firsts-grouped : (names : List (List ℕ)) → AllPairs May names → AllPairs R (firsts (grouped names))
  unfolding grouped
  firsts-grouped names mays =
      firsts-fold names [] (All-nil IsGroup) (λ i j d before below. absurd (omega (arith, below)))
      (λ k d inside. All-nil (λ first. May first (get_or names k d))) mays

pub groups-apart : (names : List (List ℕ))
    → AllPairs (λ one other. AreAlike one other → digits_len one ≡ 0) (map first_of (grouped names))
groups-apart names = firsts-grouped (λ one other. AreAlike one other → digits_len one ≡ 0) names
    (λ i j d before below. not_same (get_or names i d) (get_or names j d))

-- ---- the order

module _ (R : List ℕ → List ℕ → Type 0) where
  pub order-firsts : (names : List (List ℕ)) → AllPairs R names → AllPairs R (map first_of (grouped names))
  order-firsts names pairs = firsts-grouped R names (λ i j d before below fails. pairs i j d before below)

  -- a group whose names are in order, each before a name
  abbrev IsReady : List ℕ → Group → Type 0
  IsReady name group = AllPairs R group × All (λ n. R n name) group

  -- and each before all the names behind
  abbrev IsAhead : List (List ℕ) → Group → Type 0
  IsAhead names group = AllPairs R group × All (λ name. All (λ n. R n name) group) names

  ahead-gets : (name : List ℕ) (names : List (List ℕ)) → All (R name) names → (group : Group)
      → IsAhead (name ∷ names) group → IsAhead names (group ++ name ∷ [])
  ahead-gets name names later group h = (
    all_pairs_push R group name h.0 (All-head (λ m. All (λ n. R n m) group) name names h.1),
    λ k d inside. All-push (λ n. R n (get_or names k d)) group name
        (All-tail (λ m. All (λ n. R n m) group) name names h.1 k d inside) (later k d inside),
  )

  ahead-begins : (name : List ℕ) (names : List (List ℕ)) → All (R name) names → IsAhead names (name ∷ [])
  ahead-begins name names later = (
    (λ i j d before below. absurd (omega (arith, before, below))),
    λ k d inside. All-cons
        (λ n. R n (get_or names k d)) name [] (later k d inside) (All-nil (λ n. R n (get_or names k d))),
  )

  ahead-fold : (names : List (List ℕ)) (groups : List Group) → All (IsAhead names) groups → AllPairs R names
      → All (AllPairs R) (fold with_grouped groups names)
  ahead-fold [] groups ahead pairs = All-weaker (IsAhead []) (AllPairs R) (λ group h. h.0) groups ahead
  ahead-fold (name ∷ names) groups ahead pairs =
      let later : All (R name) names = pairs-head R name names pairs in
      ahead-fold names (with_grouped groups name)
      (each-with (IsAhead (name ∷ names)) (IsAhead names) name
      (λ group h. (h.0, All-tail (λ m. All (λ n. R n m) group) name names h.1))
      (λ group taken h. ahead-gets name names later group h)
      (ahead-begins name names later) groups ahead)
      (pairs-tail R name names pairs)

  pub order-within : (names : List (List ℕ)) → AllPairs R names → All (AllPairs R) (grouped names)
  unfolding grouped
  order-within names pairs = ahead-fold names [] (All-nil (IsAhead names)) pairs
