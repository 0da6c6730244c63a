-- Where the associations of a name stand, and what stands in a span of them.
use Rattle.std.proofs.Common.{◌≡◌, ℕ, ◌+◌, ◌-◌, ◌<◌, ◌≤◌, Bool, true, false, cond, if◌then◌else◌, not, ltb, eqb, List, [], ◌∷◌, ◌++◌, length, take, drop, get_or, bytes_eq, unwrap_or, Option, Some, None, option_map, refl, sym, ap, ◌∙◌, arith, length-append, suc}
use Rattle.std.specs.List.{position, position_or_len, cons_option}
use Rattle.std.specs.Prelude.{◌&&◌, filter_map, option_and_then, slice_get}
use Rattle.std.specs.Option.{option_or}
use Rattle.std.proofs.lemmas.Bool.{and_parts}
use Rattle.std.proofs.lemmas.Bool.Decides.{nat_tests}
use Rattle.std.proofs.lemmas.Slice.Eq.{bytes_eq-Decides}
use Rattle.std.proofs.lemmas.List.{length_push, length-take-le, take_more, take-append-drop, append-nil, drop-append-le}
use Rattle.std.proofs.Math.Seq.{drop-append-add, drop-length}
use Rattle.std.proofs.lemmas.List.Elements.{filter_map-append}
use Rattle.std.proofs.lemmas.List.Folds.{prefix_len-append, position_or_len_push}
use Rattle.std.proofs.lemmas.List.Sums.{prefix_len-le-length}
use Rattle.run_limits.specs.declared.record.AssocRecord.{AssocRecord}
use Rattle.run_limits.specs.declared.spans.Span.{Span}
use Rattle.run_limits.specs.Accounts.{account_of, default_by, is_named, is_of_user, is_users_in, place_in, place_meant}
use Rattle.run_limits.specs.Spans.{IsSpan, IsSpanIfAny, up_to, within}

-- the first that passes in two lists, one behind the other
position-append : {X : Type 0} (p : X → Bool) (xs ys : List X)
    → position p (xs ++ ys) ≡ option_or (position p xs) (option_map (λ n. length xs + n) (position p ys))
position-append p xs ys =
    rw (prefix_len-append (λ x. not (p x)) xs ys, length-append xs ys)
    (at (position_or_len p xs) (length xs) (position_or_len p ys) (length ys)
    (prefix_len-le-length (λ x. not (p x)) xs) (prefix_len-le-length (λ x. not (p x)) ys)) where
      at : (n m k l : ℕ) → n ≤ m → k ≤ l
          → cond (ltb (cond (eqb n m) (m + k) n) (m + l)) (Some (cond (eqb n m) (m + k) n)) None
          ≡ option_or (cond (ltb n m) (Some n) None) (option_map (λ i. m + i) (cond (ltb k l) (Some k) None))
      at n m k l front back = grind (arith, nat_tests)

-- with one more before the others, and behind them
position-cons : {X : Type 0} (p : X → Bool) (x : X) (xs : List X)
    → position p (x ∷ xs) ≡ (if p x then Some 0 else option_map (λ n. n + 1) (position p xs))
position-cons p x xs = at (p x) (position_or_len p xs) (length xs) where
  at : (b : Bool) (n m : ℕ)
      → cond (ltb (cond (not b) (1 + n) 0) (suc m)) (Some (cond (not b) (1 + n) 0)) None
      ≡ cond b (Some 0) (option_map (λ i. i + 1) (cond (ltb n m) (Some n) None))
  at true n m = grind (arith, nat_tests)
  at false n m = grind (arith, nat_tests)

position-more : {X : Type 0} (p : X → Bool) (xs : List X) (y : X)
    → position p (xs ++ y ∷ []) ≡ option_or (position p xs) (if p y then Some (length xs) else None)
position-more p xs y =
    rw (position_or_len_push p xs y, length_push xs y) (at (p y) (position_or_len p xs) (length xs)
    (prefix_len-le-length (λ x. not (p x)) xs)) where
      at : (b : Bool) (n m : ℕ) → n ≤ m
          → cond (ltb (cond (eqb n m) (m + cond b 0 1) n) (m + 1)) (Some (cond (eqb n m) (m + cond b 0 1) n)) None
          ≡ option_or (cond (ltb n m) (Some n) None) (cond b (Some m) None)
      at true n m within = grind (arith, nat_tests)
      at false n m within = grind (arith, nat_tests)

-- where none passes a test, none passes one from which it follows
none-follows : {X : Type 0} (p test : X → Bool) → ((x : X) → p x ≡ true → test x ≡ true) → (xs : List X)
    → position test xs ≡ None → position p xs ≡ None
none-follows p test implies [] none = refl
none-follows {X} p test implies (x ∷ xs) none =
    position-cons p x xs
    ∙ by (test x) (p x) refl refl (position test xs) refl (none-follows p test implies xs) (sym
    (position-cons test x xs) ∙ none)
  where
    by : (tests passes : Bool) → test x ≡ tests → p x ≡ passes → (o : Option ℕ) → position test xs ≡ o
        → (position test xs ≡ None → position p xs ≡ None)
        → (if tests then Some 0 else option_map (λ n. n + 1) o) ≡ None
        → (if passes then Some 0 else option_map (λ n. n + 1) (position p xs)) ≡ None
    by true passes tests is o found later never = absurd (let no = never in cc)
    by false true tests is o found later none = absurd (let no = sym tests ∙ implies x is in cc)
    by false false tests is None found later none = ap (option_map (λ n. n + 1)) (later found)
    by false false tests is (Some n) found later never = absurd (let no = never in cc)

-- and nothing is made of any
none-made : {X Y : Type 0} (made : X → Option Y) (test : X → Bool) → ((x : X) → test x ≡ false → made x ≡ None)
    → (xs : List X) → position test xs ≡ None → filter_map made xs ≡ []
none-made made test implies [] none = refl
none-made {X} {Y} made test implies (x ∷ xs) none =
    by (test x) refl (position test xs) refl (none-made made test implies xs) (sym (position-cons test x xs) ∙ none)
  where
    by : (tests : Bool) → test x ≡ tests → (o : Option ℕ) → position test xs ≡ o
        → (position test xs ≡ None → filter_map made xs ≡ [])
        → (if tests then Some 0 else option_map (λ n. n + 1) o) ≡ None
        → cons_option (made x) (filter_map made xs) ≡ []
    by true tests o found later never = absurd (let no = never in cc)
    by false tests None found later none = rw (implies x tests) (later found)
    by false tests (Some n) found later never = absurd (let no = never in cc)

-- the first that passes is among these
position-inside : {X : Type 0} (p : X → Bool) (xs : List X) (place : ℕ) → position p xs ≡ Some place
    → place < length xs
position-inside p xs place is = at (position_or_len p xs) (length xs) is where
  at : (n m : ℕ) → cond (ltb n m) (Some n) None ≡ Some place → place < m
  at n m is = grind (arith, nat_tests, is)

past-all : {X : Type 0} (xs : List X) (count : ℕ) → length xs ≡ count → drop count xs ≡ []
past-all xs count is = rw (← is) (drop-length xs)

-- one more association, of the name or of another
named-more : (assocs : List AssocRecord) (assoc : AssocRecord) (name : List ℕ) (span : Option Span)
    → IsSpanIfAny assocs name span → is_named name assoc ≡ true
    → IsSpan (assocs ++ assoc ∷ []) name (up_to span (length assocs))
named-more assocs assoc name None none named = record {
  first = position-more (is_named name) assocs assoc ∙ rw (none, named) refl;
  ordered = omega arith;
  inside = omega (arith, length_push assocs assoc);
  behind =
      ap (position (is_named name))
      (past-all (assocs ++ assoc ∷ []) (length assocs + 1) (omega (arith, length_push assocs assoc)));
}
named-more assocs assoc name (Some span) is named = record {
  first = position-more (is_named name) assocs assoc ∙ rw is.first refl;
  ordered = omega (arith, is.ordered, is.inside);
  inside = omega (arith, length_push assocs assoc);
  behind =
      ap (position (is_named name))
      (past-all (assocs ++ assoc ∷ []) (length assocs + 1) (omega (arith, length_push assocs assoc)));
}

other-more : (assocs : List AssocRecord) (assoc : AssocRecord) (name : List ℕ) (span : Option Span)
    → IsSpanIfAny assocs name span → is_named name assoc ≡ false → IsSpanIfAny (assocs ++ assoc ∷ []) name span
other-more assocs assoc name None none other = position-more (is_named name) assocs assoc ∙ rw (none, other) refl
other-more assocs assoc name (Some span) is other = record {
  first = position-more (is_named name) assocs assoc ∙ rw is.first refl;
  ordered = is.ordered;
  inside = omega (arith, is.inside, length_push assocs assoc);
  behind =
      ap (position (is_named name)) (drop-append-le (span.last + 1) assocs (assoc ∷ []) (omega (arith, is.inside)))
      ∙ position-more (is_named name) (drop (span.last + 1) assocs) assoc
      ∙ rw (is.behind, other) refl;
}

-- the spans of the names, one association more counted
pub spans_more : (name key : List ℕ) (assocs : List AssocRecord) (place : ℕ) (assoc : AssocRecord)
    (own was now : Option Span) (span : Span)
    → place < length assocs → assoc ≡ get_or assocs place assoc → key ≡ assoc.conf.name
    → IsSpanIfAny (take place assocs) assoc.conf.name own → IsSpanIfAny (take place assocs) name was
    → span ≡ up_to own place → now ≡ (if bytes_eq key name then Some span else was)
    → IsSpanIfAny (take (place + 1) assocs) name now
spans_more name key assocs place assoc own was now span inside is same before others reaches after =
    let more : take (place + 1) assocs ≡ take place assocs ++ assoc ∷ [] = take_more assocs place assoc inside
    ∙ ap (λ last. take place assocs ++ last ∷ []) (sym is) in
    rw (more, after, same) (at (bytes_eq assoc.conf.name name) refl) where
      at : (b : Bool) → bytes_eq assoc.conf.name name ≡ b
          → IsSpanIfAny (take place assocs ++ assoc ∷ []) name (if b then Some span else was)
      at true named =
          let name_is : assoc.conf.name ≡ name = (bytes_eq-Decides _ _).0 named in
          let made = named-more (take place assocs) assoc name own (rw name_is at before) named in
          let count : length (take place assocs) ≡ place = length-take-le place assocs (omega (arith, inside)) in
          rw reaches (rw count at made)
      at false other = other-more (take place assocs) assoc name was others other

-- no association of the name stands before its span, or behind it
none-before : (assocs : List AssocRecord) (name : List ℕ) (span : Span) → IsSpan assocs name span
    → position (is_named name) (take span.first assocs) ≡ None
none-before assocs name span is = by (position (is_named name) (take span.first assocs)) refl where
  by : (o : Option ℕ) → position (is_named name) (take span.first assocs) ≡ o
      → position (is_named name) (take span.first assocs) ≡ None
  by None there = there
  by (Some place) there =
      let whole : option_or (Some place) (option_map (λ n. length (take span.first assocs) + n) (position
      (is_named name) (drop span.first assocs))) ≡ Some span.first
      = ap (λ o. option_or o (option_map (λ n. length (take span.first assocs) + n) (position
      (is_named name) (drop span.first assocs)))) (sym there)
      ∙ sym (position-append (is_named name) (take span.first assocs) (drop span.first assocs))
      ∙ ap (position (is_named name)) (take-append-drop span.first assocs) ∙ is.first in
      let same : place ≡ span.first = ap (λ o. unwrap_or o 0) whole in
      let less = position-inside (is_named name) (take span.first assocs) place there in
      absurd (omega (arith, same, less, length-take-le span.first assocs (omega (arith, is.ordered, is.inside))))

none-behind : (assocs : List AssocRecord) (name : List ℕ) (span : Span) → IsSpan assocs name span
    → position (is_named name) (drop (span.last + 1 - span.first) (drop span.first assocs)) ≡ None
none-behind assocs name span is =
    let front : List AssocRecord = take span.first assocs in
    let count : length front ≡ span.first = length-take-le span.first assocs (omega (arith, is.ordered, is.inside)) in
    let sum : length front + (span.last + 1 - span.first) ≡ span.last + 1 = omega (arith, count, is.ordered) in
    let same : drop (span.last + 1 - span.first) (drop span.first assocs) ≡ drop (span.last + 1) assocs
    = sym (drop-append-add front (drop span.first assocs) (span.last + 1 - span.first))
    ∙ ap (λ n. drop n (front ++ drop span.first assocs)) sum
    ∙ ap (drop (span.last + 1)) (take-append-drop span.first assocs) in
    ap (position (is_named name)) same ∙ is.behind

-- the list before its span, the span, and what stands behind it
parts : (assocs : List AssocRecord) (span : Span)
    → take span.first assocs ++ (within assocs span ++ drop (span.last + 1 - span.first) (drop span.first assocs))
    ≡ assocs
parts assocs span =
    ap (λ back. take span.first assocs ++ back) (take-append-drop (span.last + 1 - span.first) (drop span.first assocs))
    ∙ take-append-drop span.first assocs

-- the first of all that passes a test of the name is the first in the span
position_in_span : (p : AssocRecord → Bool) (assocs : List AssocRecord) (name : List ℕ) (span : Span)
    → IsSpan assocs name span → ((assoc : AssocRecord) → p assoc ≡ true → is_named name assoc ≡ true)
    → position p assocs ≡ option_map (λ n. span.first + n) (position p (within assocs span))
position_in_span p assocs name span is implies =
    let front : List AssocRecord = take span.first assocs in
    let own : List AssocRecord = within assocs span in
    let back : List AssocRecord = drop (span.last + 1 - span.first) (drop span.first assocs) in
    sym (ap (position p) (parts assocs span))
    ∙ position-append p front (own ++ back)
    ∙ ap (λ o. option_or (position p front) (option_map (λ n. length front + n) o)) (position-append p own back)
    ∙ between (position p front) (position p own) (position p back) (length front) span.first (length own)
    (none-follows p (is_named name) implies front (none-before assocs name span is))
    (none-follows p (is_named name) implies back (none-behind assocs name span is))
    (length-take-le span.first assocs (omega (arith, is.ordered, is.inside)))
  where
    between : (before among behind : Option ℕ) (n m k : ℕ) → before ≡ None → behind ≡ None → n ≡ m
        → option_or before (option_map (λ i. n + i) (option_or among (option_map (λ i. k + i) behind)))
        ≡ option_map (λ i. m + i) among
    between before None behind n m k none_before none_behind same = rw (none_before, none_behind) refl
    between before (Some place) behind n m k none_before none_behind same = rw (none_before, same) refl

-- what is made of the associations of the name is made in the span
made_in_span : {Y : Type 0} (made : AssocRecord → Option Y) (assocs : List AssocRecord) (name : List ℕ) (span : Span)
    → IsSpan assocs name span → ((assoc : AssocRecord) → is_named name assoc ≡ false → made assoc ≡ None)
    → filter_map made assocs ≡ filter_map made (within assocs span)
made_in_span {Y} made assocs name span is implies =
    let front : List AssocRecord = take span.first assocs in
    let own : List AssocRecord = within assocs span in
    let back : List AssocRecord = drop (span.last + 1 - span.first) (drop span.first assocs) in
    sym (ap (filter_map made) (parts assocs span))
    ∙ filter_map-append made front (own ++ back)
    ∙ ap (λ made_of. filter_map made front ++ made_of) (filter_map-append made own back)
    ∙ between (filter_map made front) (filter_map made own) (filter_map made back)
    (none-made made (is_named name) implies front (none-before assocs name span is))
    (none-made made (is_named name) implies back (none-behind assocs name span is))
  where
    between : (before among behind : List Y) → before ≡ [] → behind ≡ [] → before ++ (among ++ behind) ≡ among
    between before among behind none_before none_behind = rw (none_before, none_behind) (append-nil among)

-- an association of the user's has his name
named-of : (user : List ℕ) (assoc : AssocRecord) → is_of_user user assoc ≡ true → is_named user assoc ≡ true
named-of user assoc his = (and_parts assoc.conf.user (is_named user assoc) his).1

named-in : (assocs : List AssocRecord) (user account : List ℕ) (assoc : AssocRecord)
    → is_users_in assocs user account assoc ≡ true → is_named user assoc ≡ true
named-in assocs user account assoc his =
    named-of user assoc (and_parts (is_of_user user assoc) (bytes_eq (account_of assocs assoc) account) his).0

-- what has another name names no default account of the user's
no-default : (assocs : List AssocRecord) (user : List ℕ) (assoc : AssocRecord) → is_named user assoc ≡ false
    → default_by assocs user assoc ≡ None
no-default assocs user assoc other =
    ap (λ his. if his then option_and_then (place_in assocs user) assoc.conf.default_account else None)
    (never assoc.conf.user (is_named user assoc) other)
  where
    never : (of_user named : Bool) → named ≡ false → (of_user && named) ≡ false
    never true named other = other
    never false named other = refl

-- the places that the code finds in the span of the user's name
pub place_found : (assocs : List AssocRecord) (user account : List ℕ) (span : Span) → IsSpan assocs user span
    → (own : List AssocRecord) (index : Option ℕ) → own ≡ within assocs span
    → index ≡ position (is_users_in assocs user account) own
    → place_in assocs user account ≡ option_map (λ n. span.first + n) index
place_found assocs user account span is own index own_is index_is =
    position_in_span (is_users_in assocs user account) assocs user span is (named-in assocs user account)
    ∙ ap (λ among. option_map (λ n. span.first + n) (position (is_users_in assocs user account) among)) (sym own_is)
    ∙ ap (option_map (λ n. span.first + n)) (sym index_is)

pub first_found : (assocs : List AssocRecord) (user : List ℕ) (span : Span) → IsSpan assocs user span
    → (own : List AssocRecord) (index : Option ℕ) → own ≡ within assocs span
    → index ≡ position (is_of_user user) own
    → position (is_of_user user) assocs ≡ option_map (λ n. span.first + n) index
first_found assocs user span is own index own_is index_is =
    position_in_span (is_of_user user) assocs user span is (named-of user)
    ∙ ap (λ among. option_map (λ n. span.first + n) (position (is_of_user user) among)) (sym own_is)
    ∙ ap (option_map (λ n. span.first + n)) (sym index_is)

pub defaults_found : (assocs : List AssocRecord) (user : List ℕ) (span : Span) → IsSpan assocs user span
    → filter_map (default_by assocs user) (within assocs span) ≡ filter_map (default_by assocs user) assocs
defaults_found assocs user span is =
    sym (made_in_span (default_by assocs user) assocs user span is (no-default assocs user))

-- whose name no association has means none
pub none_meant : (assocs : List AssocRecord) (user : List ℕ) (account : Option (List ℕ))
    → position (is_named user) assocs ≡ None → place_meant assocs user account ≡ None
unfolding place_meant
none_meant assocs user (Some account) none =
    none-follows (is_users_in assocs user account) (is_named user) (named-in assocs user account) assocs none
none_meant assocs user None none =
    ap (λ defaults. option_or (slice_get defaults 0) (position (is_of_user user) assocs))
    (none-made (default_by assocs user) (is_named user) (no-default assocs user) assocs none)
    ∙ none-follows (is_of_user user) (is_named user) (named-of user) assocs none
