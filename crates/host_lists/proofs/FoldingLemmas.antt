-- Names of hosts in groups.
use Rattle.std.proofs.Common.{ℕ, not, suc, ◌≡◌, ◌+◌, ◌-◌, ◌<◌, ◌≤◌, ◌&&◌, ◌==◌, if◌then◌else◌, Bool, true, false, Some, None, Option, option_map, Ordering, List, [], ◌∷◌, ◌++◌, min, reverse, length, get_or, take, drop, set, map, fold, sym, refl, ap, ◌∙◌, subst, arith, Bor, eqb-true}
use Rattle.std.specs.Str.{bytes_eq}
use Rattle.std.specs.Char.{is_ascii_digit}
use Rattle.std.specs.List.{suffix_len, list_all}
use Rattle.std.specs.BTreeSet.{insert_key}
use Rattle.std.specs.Ordering.{nat_cmp, match_ordering}
use Rattle.std.specs.Cmp.Lexicographic.{slice_cmp}
use Rattle.std.specs.declared.cmp.Ordering.TheVariants.{Less, Equal, Greater}
use Rattle.std.proofs.lemmas.List.Sums.{suffix_len-take_yes, suffix_len-take_no, suffix_len-le-length, prefix_len_passes, list_all-from_AllPass, fold-append}
use Rattle.std.proofs.lemmas.List.{take_more, length-drop, get_or-drop, get_or-reverse, drop-map, drop_more, drop_all, append-nil, append_assoc, map-set, get_or-map, take-map, map-append}
use Rattle.host_lists.proofs.HostLemmas.{bytes_eq-same}
use Rattle.host_lists.proofs.Both.{both-left, both-right}
use Rattle.std.proofs.lemmas.Bool.Decides.{nat_tests}
use Rattle.host_lists.specs.Folding.{with_grouped, is_of_group, prefix_of, digits_len, digits_of, number_of, continued, runs, run_text, runs_text}

-- a key at its place, seen through a function that the order reads
insert_key-map-step : {K J : Type 0} (f : K → J) (cmp : J → J → Ordering) (x : K) (keys : List K) (k : K) → map f (insert_key (λ a b. cmp (f a) (f b)) keys k) ≡ insert_key cmp (map f keys) (f k) → (o : Ordering) → map f (match_ordering o (k ∷ x ∷ keys) (x ∷ keys) (x ∷ insert_key (λ a b. cmp (f a) (f b)) keys k)) ≡ match_ordering o (f k ∷ f x ∷ map f keys) (f x ∷ map f keys) (f x ∷ insert_key cmp (map f keys) (f k))
insert_key-map-step f cmp x keys k more Less = refl
insert_key-map-step f cmp x keys k more Equal = refl
insert_key-map-step f cmp x keys k more Greater = ap (λ (u : List _). f x ∷ u) more

insert_key-map : {K J : Type 0} (f : K → J) (cmp : J → J → Ordering) (keys : List K) (k : K) → map f (insert_key (λ a b. cmp (f a) (f b)) keys k) ≡ insert_key cmp (map f keys) (f k)
insert_key-map f cmp [] k = refl
insert_key-map f cmp (x ∷ keys) k = insert_key-map-step f cmp x keys k (insert_key-map f cmp keys k) (cmp (f k) (f x))

-- one name more in order
pub sorted-more : (names : List (List ℕ)) (i : ℕ) (name : List ℕ) (keys : List (Bor (List ℕ))) (key : Bor (List ℕ)) → i < length names → name ≡ get_or names i name → key.now ≡ name → map (λ k. k.now) keys ≡ fold (insert_key (slice_cmp nat_cmp)) [] (take i names) → map (λ k. k.now) (insert_key (λ a b. slice_cmp nat_cmp a.now b.now) keys key) ≡ fold (insert_key (slice_cmp nat_cmp)) [] (take (i + 1) names)
sorted-more names i name keys key h at same before =
    insert_key-map (λ (k : Bor (List ℕ)). k.now) (slice_cmp nat_cmp) keys key
    ∙ (rw (before, same) refl
    ∙ sym (ap (fold (insert_key (slice_cmp nat_cmp)) []) (take_more names i name h ∙ ap (λ (x : List ℕ). take i names ++ x ∷ []) (sym at)) ∙ fold-append (insert_key (slice_cmp nat_cmp)) [] (take i names) (name ∷ [])))

-- one byte more of the digits at the end
pub suffix_len-more : (name : List ℕ) (i : ℕ) → i < length name → is_ascii_digit (get_or name i 0) ≡ true → suffix_len is_ascii_digit (take (i + 1) name) ≡ suffix_len is_ascii_digit (take i name) + 1
suffix_len-more name i h e =
    let back : i + 1 - 1 ≡ i = omega arith in
    let more = suffix_len-take_yes is_ascii_digit name (i + 1) 0 (omega arith) (omega arith) (rw back e) in
    more ∙ (ap (λ (n : ℕ). 1 + suffix_len is_ascii_digit (take n name)) back ∙ omega arith)

pub suffix_len-none : (name : List ℕ) (i : ℕ) → i < length name → is_ascii_digit (get_or name i 0) ≡ false → suffix_len is_ascii_digit (take (i + 1) name) ≡ 0
suffix_len-none name i h e =
    let back : i + 1 - 1 ≡ i = omega arith in
    suffix_len-take_no is_ascii_digit name (i + 1) 0 (omega arith) (omega arith) (rw back e)

pub ruleset trailing = (suffix_len-more, suffix_len-none)

-- the last elements, as many as pass
drop-passes : {X : Type 0} (p : X → Bool) (xs : List X) (k : ℕ) → k ≤ suffix_len p xs → list_all p (drop (length xs - k) xs) ≡ true
drop-passes p xs k h =
    list_all-from_AllPass p (drop (length xs - k) xs) (λ j d g.
    let few : suffix_len p xs ≤ length xs = suffix_len-le-length p xs in
    let lt : j < k = omega (arith, length-drop (length xs - k) xs) in
    let at : get_or (drop (length xs - k) xs) j d ≡ get_or (reverse xs) (k - 1 - j) d = get_or-drop (length xs - k) xs j d ∙ (ap (λ (i : ℕ). get_or xs i d) (omega arith) ∙ sym (get_or-reverse xs (k - 1 - j) d (omega arith))) in
    rw at (prefix_len_passes p (reverse xs) (k - 1 - j) d (omega arith)))

pub digits_of-digits : (name : List ℕ) → list_all is_ascii_digit (digits_of name) ≡ true
unfolding digits_len
digits_of-digits name = drop-passes is_ascii_digit name (min 9 (suffix_len is_ascii_digit name)) (omega arith)

pub digits_len-le : (name : List ℕ) → digits_len name ≤ length name
unfolding digits_len
digits_len-le name = omega (arith, suffix_len-le-length is_ascii_digit name)

pub digits_len-few : (name : List ℕ) → digits_len name ≤ 9
unfolding digits_len
digits_len-few name = omega arith

pub length-digits_of : (name : List ℕ) → length (digits_of name) ≡ digits_len name
length-digits_of name = omega (arith, length-drop (length name - digits_len name) name, digits_len-le name)

pub ruleset numbered = (digits_of-digits, digits_len-le, digits_len-few, length-digits_of)

-- a name behind a run
continued-next : (first last name : List ℕ) (rs : List (List ℕ × List ℕ)) → (number_of name == number_of last + 1) ≡ true → continued first last (continued name name rs) ≡ continued first name rs
continued-next first last name [] e = rw e refl
continued-next first last name (next ∷ rs) e = by_next (number_of next.0 == number_of name + 1) where
  by_next : (t : Bool) → continued first last (if t then (name, next.1) ∷ rs else (name, name) ∷ next ∷ rs) ≡ (if t then (first, next.1) ∷ rs else (first, name) ∷ next ∷ rs)
  by_next true = rw e refl
  by_next false = rw e refl

continued-apart : (first last name : List ℕ) (rs : List (List ℕ × List ℕ)) → (number_of name == number_of last + 1) ≡ false → continued first last (continued name name rs) ≡ (first, last) ∷ continued name name rs
continued-apart first last name [] e = rw e refl
continued-apart first last name (next ∷ rs) e = by_next (number_of next.0 == number_of name + 1) where
  by_next : (t : Bool) → continued first last (if t then (name, next.1) ∷ rs else (name, name) ∷ next ∷ rs) ≡ (first, last) ∷ (if t then (name, next.1) ∷ rs else (name, name) ∷ next ∷ rs)
  by_next true = rw e refl
  by_next false = rw e refl

-- the text of a run and of those behind it
runs_text-cons : (text : List ℕ) (first last a b : List ℕ) (rs : List (List ℕ × List ℕ)) → text ++ runs_text ((first, last) ∷ continued a b rs) ≡ text ++ run_text first last ++ 44 ∷ [] ++ runs_text (continued a b rs)
runs_text-cons text first last a b [] = simp append_assoc
runs_text-cons text first last a b (next ∷ rs) = by_next (number_of next.0 == number_of b + 1) where
  by_next : (t : Bool) → text ++ runs_text ((first, last) ∷ (if t then (a, next.1) ∷ rs else (a, b) ∷ next ∷ rs)) ≡ text ++ run_text first last ++ 44 ∷ [] ++ runs_text (if t then (a, next.1) ∷ rs else (a, b) ∷ next ∷ rs)
  by_next true = simp append_assoc
  by_next false = simp append_assoc

pub runs-next : {X : Type 0} (f : X → List ℕ) (xs : List X) (i : ℕ) (d : X) (text first last : List ℕ) → i < length xs → (number_of (f (get_or xs i d)) == number_of last + 1) ≡ true → text ++ runs_text (continued first last (runs (drop i (map f xs)))) ≡ text ++ runs_text (continued first (f (get_or xs i d)) (runs (drop (i + 1) (map f xs))))
runs-next f xs i d text first last h e =
    rw (drop-map f i xs, drop_more xs i d h, drop-map f (i + 1) xs) (ap (λ (rs : List (List ℕ × List ℕ)). text ++ runs_text rs) (continued-next first last (f (get_or xs i d)) (runs (map f (drop (i + 1) xs))) e))

pub runs-apart : {X : Type 0} (f : X → List ℕ) (xs : List X) (i : ℕ) (d : X) (text first last : List ℕ) → i < length xs → (number_of (f (get_or xs i d)) == number_of last + 1) ≡ false → text ++ runs_text (continued first last (runs (drop i (map f xs)))) ≡ text ++ run_text first last ++ 44 ∷ [] ++ runs_text (continued (f (get_or xs i d)) (f (get_or xs i d)) (runs (drop (i + 1) (map f xs))))
runs-apart f xs i d text first last h e =
    rw (drop-map f i xs, drop_more xs i d h, drop-map f (i + 1) xs)
    (ap (λ (rs : List (List ℕ × List ℕ)). text ++ runs_text rs) (continued-apart first last (f (get_or xs i d)) (runs (map f (drop (i + 1) xs))) e)
    ∙ runs_text-cons text first last (f (get_or xs i d)) (f (get_or xs i d)) (runs (map f (drop (i + 1) xs))))

pub runs-end : {X : Type 0} (f : X → List ℕ) (xs : List X) (i : ℕ) (text first last : List ℕ) → length xs ≤ i → text ++ runs_text (continued first last (runs (drop i (map f xs)))) ≡ text ++ run_text first last
runs-end f xs i text first last h =
    rw (drop-map f i xs, drop_all i xs h) (ap (λ (u : List ℕ). text ++ u) (append-nil (run_text first last)))

pub ruleset running = (runs-next, runs-apart, runs-end)

-- the place of the group of a prefix and a number of digits
abbrev pub is_of_key : List ℕ → ℕ → List (List ℕ) → Bool
is_of_key prefix width [] = false
is_of_key prefix width (first ∷ names) = not (width == 0) && (bytes_eq (prefix_of first) prefix && digits_len first == width)

abbrev pub place_in : List ℕ → ℕ → List (List (List ℕ)) → Option ℕ
place_in prefix width [] = None
place_in prefix width (group ∷ groups) =
    if is_of_key prefix width group then Some 0 else option_map suc (place_in prefix width groups)

-- a group's list is written in a list of groups
pub map-set-push : {X : Type 0} (f : X → List (List ℕ)) (xs : List X) (i : ℕ) (d y : X) (name : List ℕ) → i < length xs → f y ≡ f (get_or xs i d) ++ name ∷ [] → map f (set xs i y) ≡ set (map f xs) i (get_or (map f xs) i [] ++ name ∷ [])
map-set-push f xs i d y name h e =
    map-set f xs i y ∙ ap (set (map f xs) i) (e ∙ ap (λ (u : List (List ℕ)). u ++ name ∷ []) (sym (get_or-map f xs i d [] h)))

-- what a name does to the places of groups
key-of_group : (group : List (List ℕ)) (name : List ℕ) → is_of_key (prefix_of name) (digits_len name) group ≡ is_of_group group name
key-of_group [] name = refl
key-of_group (first ∷ names) name = refl

pub record PutAt (groups : List (List (List ℕ))) (name : List ℕ) (i : ℕ) : Type 0 where
  pub within : i < length groups
  pub puts : with_grouped groups name ≡ set groups i (get_or groups i [] ++ name ∷ [])
  pub places : (prefix : List ℕ) (width : ℕ) → place_in prefix width (with_grouped groups name) ≡ place_in prefix width groups

same_key : (group : List (List ℕ)) (name prefix : List ℕ) (width : ℕ) → is_of_group group name ≡ true → is_of_key prefix width (group ++ name ∷ []) ≡ is_of_key prefix width group
same_key [] name prefix width h = cc
same_key (first ∷ names) name prefix width h = refl

suc-Some : (o : Option ℕ) (i : ℕ) → option_map suc o ≡ Some i → (j : ℕ) × (o ≡ Some j) × (i ≡ suc j)
suc-Some None i h = cc
suc-Some (Some j) i h = (j, refl, cc)

put_first : (group : List (List ℕ)) (groups : List (List (List ℕ))) (name : List ℕ) → is_of_group group name ≡ true → PutAt (group ∷ groups) name 0
put_first group groups name e = record {
  within = omega arith;
  puts = rw e refl;
  places = λ prefix width. rw (e, same_key group name prefix width e) refl;
}

put_later : (group : List (List ℕ)) (groups : List (List (List ℕ))) (name : List ℕ) (j : ℕ) → is_of_group group name ≡ false → PutAt groups name j → PutAt (group ∷ groups) name (suc j)
put_later group groups name j e more = record {
  within = omega (arith, more.within);
  puts = rw e (ap (λ (u : List (List (List ℕ))). group ∷ u) more.puts);
  places = λ prefix width. rw e (ap (λ (o : Option ℕ). if is_of_key prefix width group then Some 0 else option_map suc o) (more.places prefix width));
}

put_at-step : (group : List (List ℕ)) (groups : List (List (List ℕ))) (name : List ℕ) (i : ℕ) → ((j : ℕ) → place_in (prefix_of name) (digits_len name) groups ≡ Some j → PutAt groups name j) → (t : Bool) → is_of_group group name ≡ t → (if t then Some 0 else option_map suc (place_in (prefix_of name) (digits_len name) groups)) ≡ Some i → PutAt (group ∷ groups) name i
put_at-step group groups name i more true e h =
    let zero_is : 0 ≡ i = cc in
    let P : ℕ → Type 0 = λ n. PutAt (group ∷ groups) name n in
    subst P zero_is (put_first group groups name e)
put_at-step group groups name i more false e h =
    let found = suc-Some (place_in (prefix_of name) (digits_len name) groups) i h in
    let P : ℕ → Type 0 = λ n. PutAt (group ∷ groups) name n in
    subst P (sym found.2) (put_later group groups name found.0 e (more found.0 found.1))

pub put_at : (groups : List (List (List ℕ))) (name : List ℕ) (i : ℕ) → place_in (prefix_of name) (digits_len name) groups ≡ Some i → PutAt groups name i
put_at [] name i h = cc
put_at (group ∷ groups) name i h =
    put_at-step group groups name i (λ j g. put_at groups name j g) (is_of_group group name) refl (ap (λ (t : Bool). if t then Some 0 else option_map suc (place_in (prefix_of name) (digits_len name) groups)) (sym (key-of_group group name)) ∙ h)

pub record PutBehind (groups : List (List (List ℕ))) (name : List ℕ) : Type 0 where
  pub puts : with_grouped groups name ≡ groups ++ (name ∷ []) ∷ []
  pub places : (prefix : List ℕ) (width : ℕ) → place_in prefix width (groups ++ (name ∷ []) ∷ []) ≡ (if bytes_eq (prefix_of name) prefix && digits_len name == width then Some (length groups) else place_in prefix width groups)

suc-None : (o : Option ℕ) → option_map suc o ≡ None → o ≡ None
suc-None None h = refl
suc-None (Some j) h = cc

-- two keys that are equal are those of the same groups
other_key : (group : List (List ℕ)) (name prefix : List ℕ) (width : ℕ) → is_of_group group name ≡ false → (bytes_eq (prefix_of name) prefix && digits_len name == width) ≡ true → is_of_key prefix width group ≡ false
other_key group name prefix width e h =
    let same : prefix_of name ≡ prefix = bytes_eq-same (prefix_of name) prefix (both-left (bytes_eq (prefix_of name) prefix) (digits_len name == width) h) in
    let len : digits_len name ≡ width = eqb-true (digits_len name) width (both-right (bytes_eq (prefix_of name) prefix) (digits_len name == width) h) in
    ap (λ (p : List ℕ). is_of_key p width group) (sym same) ∙ (ap (λ (w : ℕ). is_of_key (prefix_of name) w group) (sym len) ∙ (key-of_group group name ∙ e))

behind-places : (group : List (List ℕ)) (groups : List (List (List ℕ))) (name prefix : List ℕ) (width : ℕ) → is_of_group group name ≡ false → (t : Bool) → (bytes_eq (prefix_of name) prefix && digits_len name == width) ≡ t → (rest : Option ℕ) → rest ≡ (if t then Some (length groups) else place_in prefix width groups) → (if is_of_key prefix width group then Some 0 else option_map suc rest) ≡ (if t then Some (suc (length groups)) else (if is_of_key prefix width group then Some 0 else option_map suc (place_in prefix width groups)))
behind-places group groups name prefix width e true f rest h = rw (other_key group name prefix width e f, h) refl
behind-places group groups name prefix width e false f rest h = rw h refl

put_behind-step : (group : List (List ℕ)) (groups : List (List (List ℕ))) (name : List ℕ) → (place_in (prefix_of name) (digits_len name) groups ≡ None → PutBehind groups name) → (t : Bool) → is_of_group group name ≡ t → (if t then Some 0 else option_map suc (place_in (prefix_of name) (digits_len name) groups)) ≡ None → PutBehind (group ∷ groups) name
put_behind-step group groups name more true e h = cc
put_behind-step group groups name more false e h =
    let rest : PutBehind groups name = more (suc-None (place_in (prefix_of name) (digits_len name) groups) h) in
    record {
      puts = rw e (ap (λ (u : List (List (List ℕ))). group ∷ u) rest.puts);
      places = λ prefix width. behind-places group groups name prefix width e (bytes_eq (prefix_of name) prefix && digits_len name == width) refl (place_in prefix width (groups ++ (name ∷ []) ∷ [])) (rest.places prefix width);
    }

no_and : (t : Bool) → (t && false) ≡ false
no_and true = refl
no_and false = refl

one_group : (name prefix : List ℕ) (width : ℕ) → (digits_len name == 0) ≡ false → is_of_key prefix width (name ∷ []) ≡ (bytes_eq (prefix_of name) prefix && digits_len name == width)
one_group name prefix width h = by_key (bytes_eq (prefix_of name) prefix && digits_len name == width) refl where
  by_key : (t : Bool) → (bytes_eq (prefix_of name) prefix && digits_len name == width) ≡ t → (not (width == 0) && t) ≡ t
  by_key true e =
      let len : digits_len name ≡ width = eqb-true (digits_len name) width (both-right (bytes_eq (prefix_of name) prefix) (digits_len name == width) e) in
      let some : (width == 0) ≡ false = ap (λ (w : ℕ). w == 0) (sym len) ∙ h in
      rw some refl
  by_key false e = no_and (not (width == 0))

pub put_behind : (groups : List (List (List ℕ))) (name : List ℕ) → (digits_len name == 0) ≡ false → place_in (prefix_of name) (digits_len name) groups ≡ None → PutBehind groups name
put_behind [] name g h = record { puts = refl; places = λ prefix width. rw (one_group name prefix width g) refl }
put_behind (group ∷ groups) name g h =
    put_behind-step group groups name (λ k. put_behind groups name g k) (is_of_group group name) refl (ap (λ (t : Bool). if t then Some 0 else option_map suc (place_in (prefix_of name) (digits_len name) groups)) (sym (key-of_group group name)) ∙ h)

-- a name without digits stands alone
pub record PutAlone (groups : List (List (List ℕ))) (name : List ℕ) : Type 0 where
  pub puts : with_grouped groups name ≡ groups ++ (name ∷ []) ∷ []
  pub places : (prefix : List ℕ) (width : ℕ) → place_in prefix width (groups ++ (name ∷ []) ∷ []) ≡ place_in prefix width groups

alone-group : (group : List (List ℕ)) (name : List ℕ) → digits_len name ≡ 0 → is_of_group group name ≡ false
alone-group [] name h = refl
alone-group (first ∷ names) name h = rw h refl

alone-key : (name prefix : List ℕ) (width : ℕ) → digits_len name ≡ 0 → is_of_key prefix width (name ∷ []) ≡ false
alone-key name prefix width h = by_width (width == 0) refl where
  by_width : (t : Bool) → (width == 0) ≡ t → (not t && (bytes_eq (prefix_of name) prefix && digits_len name == width)) ≡ false
  by_width true e = refl
  by_width false e =
      let apart : (digits_len name == width) ≡ false = rw h (swapped width e) in
      rw apart (no_and (bytes_eq (prefix_of name) prefix))
    where
      swapped : (width : ℕ) → (width == 0) ≡ false → (0 == width) ≡ false
      swapped width e = grind (arith, nat_tests)

pub put_alone : (groups : List (List (List ℕ))) (name : List ℕ) → digits_len name ≡ 0 → PutAlone groups name
put_alone [] name h = record { puts = refl; places = λ prefix width. rw (alone-key name prefix width h) refl }
put_alone (group ∷ groups) name h =
    let rest : PutAlone groups name = put_alone groups name h in
    record {
      puts = rw (alone-group group name h) (ap (λ (u : List (List (List ℕ))). group ∷ u) rest.puts);
      places = λ prefix width. ap (λ (o : Option ℕ). if is_of_key prefix width group then Some 0 else option_map suc o) (rest.places prefix width);
    }

-- one name more in its group
pub grouped-more : {X : Type 0} (f : X → List ℕ) (xs : List X) (i : ℕ) (d : X) → i < length xs → fold with_grouped [] (take (i + 1) (map f xs)) ≡ with_grouped (fold with_grouped [] (take i (map f xs))) (f (get_or xs i d))
grouped-more f xs i d h =
    rw (take-map f (i + 1) xs, take_more xs i d h, map-append f (take i xs) (get_or xs i d ∷ []), take-map f i xs) (fold-append with_grouped [] (map f (take i xs)) (f (get_or xs i d) ∷ []))

pub map-map : {X Y Z : Type 0} (g : Y → Z) (f : X → Y) (xs : List X) → map (λ x. g (f x)) xs ≡ map g (map f xs)
map-map g f [] = refl
map-map g f (x ∷ xs) = ap (λ (u : List _). g (f x) ∷ u) (map-map g f xs)
