-- The text of a group gives the names of the group.
use Rattle.std.proofs.Common.{ℕ, zero, suc, ◌≡◌, ◌+◌, ◌-◌, ◌^◌, ◌<◌, ◌≤◌, ◌&&◌, ◌==◌, if◌then◌else◌, not, nat_le, nat_lt, Bool, true, false, Some, List, [], ◌∷◌, ◌++◌, length, take, drop, map, flat_map, sym, refl, ap, ◌∙◌, subst, arith, eqb-true}
use Rattle.std.specs.Str.{bytes_eq}
use Rattle.std.specs.Char.{is_ascii_digit}
use Rattle.std.specs.List.{list_all, range_with_len, slice_split}
use Rattle.std.proofs.lemmas.Bool.Decides.{nat_tests}
use Rattle.std.proofs.lemmas.List.{append-nil, append_assoc}
use Rattle.std.proofs.lemmas.List.Folds.{list_all-append}
use Rattle.std.specs.Str.{all_ascii_digits}
use Rattle.std.specs.Str.Parse.{digits_value}
use Rattle.small_texts.specs.Digits.{number_within}
use Rattle.small_texts.specs.Fields.{fields}
use Rattle.small_texts.specs.Name.{is_name, is_name_byte}
use Rattle.host_lists.specs.Hosts.{Numbers, number_in, numbers_of, numbers_in, padded, range_names, distinct, made_by_parts, made_behind, made_by, few, item_names}
use Rattle.host_lists.specs.Folding.{digits_len, prefix_of, digits_of, number_of, same_group, continued, runs, run_text, with_commas, runs_text, group_text}
use Rattle.host_lists.proofs.Decimals.{padded_digits, small}
use Rattle.host_lists.proofs.FoldingLemmas.{digits_of-digits, digits_len-few, length-digits_of}
use Rattle.host_lists.proofs.HostLemmas.{bytes_eq-same}
use Rattle.host_lists.proofs.NameSets.{length-fold-with_name-le}
use Rattle.host_lists.proofs.Groups.{IsGroup}
use Rattle.host_lists.proofs.FoldedItems.{other_byte, is_run_byte, is_bracket_byte, Passes, Passes-name, Passes-bracket}
use Rattle.host_lists.proofs.Both.{both-left, both-right}

-- ---- lists

list_all-weaker : {X : Type 0} (p q : X → Bool) (xs : List X) → ((x : X) → p x ≡ true → q x ≡ true) → list_all p xs ≡ true → list_all q xs ≡ true
list_all-weaker p q [] f h = refl
list_all-weaker p q (x ∷ xs) f h =
    rw (f x (both-left (p x) (list_all p xs) h), list_all-weaker p q xs f (both-right (p x) (list_all p xs) h)) refl

list_all-join : {X : Type 0} (p : X → Bool) (xs ys : List X) → list_all p xs ≡ true → list_all p ys ≡ true → list_all p (xs ++ ys) ≡ true
list_all-join p xs ys h k = list_all-append p xs ys ∙ rw (h, k) refl

list_all-front : {X : Type 0} (p : X → Bool) (xs : List X) (k : ℕ) → list_all p xs ≡ true → list_all p (take k xs) ≡ true
list_all-front p xs zero h = refl
list_all-front p [] (suc k) h = refl
list_all-front p (x ∷ xs) (suc k) h =
    rw (both-left (p x) (list_all p xs) h, list_all-front p xs k (both-right (p x) (list_all p xs) h)) refl

not-true : (t : Bool) → not t ≡ true → t ≡ false
not-true true h = sym h
not-true false h = refl

-- a text is cut where a byte passes a test
split-none : (p : ℕ → Bool) (xs : List ℕ) → list_all (λ x. not (p x)) xs ≡ true → slice_split p xs ≡ xs ∷ []
split-none p [] h = refl
split-none p (x ∷ xs) h =
    rw (not-true (p x) (both-left (not (p x)) (list_all (λ y. not (p y)) xs) h), split-none p xs (both-right (not (p x)) (list_all (λ y. not (p y)) xs) h)) refl

split-first : (p : ℕ → Bool) (xs : List ℕ) (y : ℕ) (ys : List ℕ) → list_all (λ x. not (p x)) xs ≡ true → p y ≡ true → slice_split p (xs ++ y ∷ ys) ≡ xs ∷ slice_split p ys
split-first p [] y ys h k = rw k refl
split-first p (x ∷ xs) y ys h k =
    rw (not-true (p x) (both-left (not (p x)) (list_all (λ z. not (p z)) xs) h), split-first p xs y ys (both-right (not (p x)) (list_all (λ z. not (p z)) xs) h) k) refl

abbrev pub AllWithout : List (List ℕ) → Type 0
AllWithout [] = Unit {0}
AllWithout (text ∷ texts) = (list_all (λ b. not (b == 44)) text ≡ true) × AllWithout texts

pub split_with_commas : (text : List ℕ) (texts : List (List ℕ)) → AllWithout (text ∷ texts) → slice_split (λ b. b == 44) (with_commas (text ∷ texts)) ≡ text ∷ texts
split_with_commas text [] h = rw append-nil (split-none (λ b. b == 44) text h.0)
split_with_commas text (next ∷ texts) h =
    split-first (λ b. b == 44) text 44 (next ++ flat_map (λ t. 44 ∷ t) texts) h.0 refl ∙ ap (λ (u : List (List ℕ)). text ∷ u) (split_with_commas next texts h.1)

-- ---- runs

-- names with one prefix and so many digits
abbrev IsOf : List ℕ → ℕ → List (List ℕ) → Type 0
IsOf prefix width [] = Unit {0}
IsOf prefix width (name ∷ names) = ((prefix_of name ≡ prefix) × (digits_len name ≡ width)) × IsOf prefix width names

list_all-digits : (digits : List ℕ) → all_ascii_digits digits ≡ list_all is_ascii_digit digits
list_all-digits [] = refl
list_all-digits (d ∷ digits) = ap (λ (t : Bool). is_ascii_digit d && t) (list_all-digits digits)

digit-number_in : (digits : List ℕ) → list_all is_ascii_digit digits ≡ true → 1 ≤ length digits → length digits ≤ 9 → number_in digits ≡ Some (digits_value 10 digits)
unfolding number_within
digit-number_in digits h k n = rw (some (length digits) k, few_digits (length digits) n, list_all-digits digits, h, low (digits_value 10 digits) (small digits h n)) refl where
  some : (m : ℕ) → 1 ≤ m → nat_lt 0 m ≡ true
  some m k = grind (arith, nat_tests)

  few_digits : (m : ℕ) → m ≤ 9 → nat_le m 9 ≡ true
  few_digits m n = grind (arith, nat_tests)

  low : (m : ℕ) → m < 10 ^ 9 → nat_le m 999_999_999 ≡ true
  low m n = grind (arith, nat_tests)

name-digits : (name : List ℕ) → prefix_of name ++ digits_of name ≡ name
name-digits name = joined (length name - digits_len name) name where
  joined : (k : ℕ) (xs : List ℕ) → take k xs ++ drop k xs ≡ xs
  joined zero xs = refl
  joined (suc k) [] = refl
  joined (suc k) (x ∷ xs) = ap (λ (u : List ℕ). x ∷ u) (joined k xs)

name-padded : (name prefix : List ℕ) (width : ℕ) → 1 ≤ width → prefix_of name ≡ prefix → digits_len name ≡ width → prefix ++ padded width (number_of name) ≡ name
name-padded name prefix width h p w =
    let len : length (digits_of name) ≡ width = length-digits_of name ∙ w in
    let few : digits_len name ≤ 9 = digits_len-few name in
    let same : padded (length (digits_of name)) (number_of name) ≡ digits_of name = padded_digits (digits_of name) (digits_of-digits name) (omega arith) (omega arith) in
    ap (λ (x : List ℕ). x ++ padded width (number_of name)) (sym p)
    ∙ (ap (λ (n : ℕ). prefix_of name ++ padded n (number_of name)) (sym len)
    ∙ (ap (λ (x : List ℕ). prefix_of name ++ x) same ∙ name-digits name))

abbrev run_range : ℕ → List ℕ × List ℕ → Numbers
run_range width run = record { first = number_of run.0; last = number_of run.1; width = width }

record IsRun (width : ℕ) (run : List ℕ × List ℕ) : Type 0 where
  pub rising : number_of run.0 ≤ number_of run.1
  pub first_width : digits_len run.0 ≡ width
  pub last_width : digits_len run.1 ≡ width

abbrev AreRuns : ℕ → List (List ℕ × List ℕ) → Type 0
AreRuns width [] = Unit {0}
AreRuns width (run ∷ rs) = IsRun width run × AreRuns width rs

one_run : (width : ℕ) (name : List ℕ) → digits_len name ≡ width → IsRun width (name, name)
one_run width name w = record { rising = omega arith; first_width = w; last_width = w }

AreRuns-continued : (width : ℕ) (name : List ℕ) (rs : List (List ℕ × List ℕ)) → digits_len name ≡ width → AreRuns width rs → AreRuns width (continued name name rs)
AreRuns-continued width name [] w g = (one_run width name w, tt)
AreRuns-continued width name (next ∷ rs) w g = by_next (number_of next.0 == number_of name + 1) refl where
  by_next : (t : Bool) → (number_of next.0 == number_of name + 1) ≡ t → AreRuns width (if t then (name, next.1) ∷ rs else (name, name) ∷ next ∷ rs)
  by_next true e =
      let at : number_of next.0 ≡ number_of name + 1 = eqb-true (number_of next.0) (number_of name + 1) e in
      (record { rising = omega (arith, at, g.0.rising); first_width = w; last_width = g.0.last_width }, g.1)
  by_next false e = (one_run width name w, g)

AreRuns-runs : (prefix : List ℕ) (width : ℕ) (names : List (List ℕ)) → IsOf prefix width names → AreRuns width (runs names)
AreRuns-runs prefix width [] h = tt
AreRuns-runs prefix width (name ∷ names) h =
    AreRuns-continued width name (runs names) h.0.1 (AreRuns-runs prefix width names h.1)

-- the names of the ranges of runs are the names
one_range : (prefix : List ℕ) (width : ℕ) (name : List ℕ) → prefix ++ padded width (number_of name) ≡ name → range_names prefix (run_range width (name, name)) ≡ name ∷ []
unfolding range_names
one_range prefix width name h =
    let one : number_of name + 1 - number_of name ≡ 1 = omega arith in
    rw one (ap (λ (x : List ℕ). x ∷ []) h)

more_range : (prefix : List ℕ) (width : ℕ) (name first last : List ℕ) → prefix ++ padded width (number_of name) ≡ name → number_of first ≡ number_of name + 1 → number_of first ≤ number_of last → range_names prefix (run_range width (name, last)) ≡ name ∷ range_names prefix (run_range width (first, last))
unfolding range_names
more_range prefix width name first last h e k =
    let count : number_of last + 1 - number_of name ≡ suc (number_of last + 1 - number_of first) = omega arith in
    rw (count, e) (ap (λ (x : List ℕ). x ∷ map (λ n. prefix ++ padded width n) (range_with_len (number_of name + 1) (number_of last + 1 - (number_of name + 1)))) h)

names-continued : (prefix : List ℕ) (width : ℕ) (name : List ℕ) (rs : List (List ℕ × List ℕ)) → prefix ++ padded width (number_of name) ≡ name → AreRuns width rs → flat_map (range_names prefix) (map (run_range width) (continued name name rs)) ≡ name ∷ flat_map (range_names prefix) (map (run_range width) rs)
names-continued prefix width name [] h g = rw (one_range prefix width name h) refl
names-continued prefix width name (next ∷ rs) h g = by_next (number_of next.0 == number_of name + 1) refl where
  by_next : (t : Bool) → (number_of next.0 == number_of name + 1) ≡ t → flat_map (range_names prefix) (map (run_range width) (if t then (name, next.1) ∷ rs else (name, name) ∷ next ∷ rs)) ≡ name ∷ flat_map (range_names prefix) (map (run_range width) (next ∷ rs))
  by_next true e = rw (more_range prefix width name next.0 next.1 h (eqb-true (number_of next.0) (number_of name + 1) e) g.0.rising) refl
  by_next false e = rw (one_range prefix width name h) refl

names-runs : (prefix : List ℕ) (width : ℕ) (names : List (List ℕ)) → 1 ≤ width → IsOf prefix width names → flat_map (range_names prefix) (map (run_range width) (runs names)) ≡ names
names-runs prefix width [] h g = refl
names-runs prefix width (name ∷ names) h g =
    names-continued prefix width name (runs names) (name-padded name prefix width h g.0.0 g.0.1) (AreRuns-runs prefix width names g.1)
    ∙ ap (λ (u : List (List ℕ)). name ∷ u) (names-runs prefix width names h g.1)

-- ---- the texts of runs

digits-no_dash : (name : List ℕ) → list_all (λ b. not (b == 45)) (digits_of name) ≡ true
digits-no_dash name = list_all-weaker is_ascii_digit (λ b. not (b == 45)) (digits_of name) (λ b h. ap not (other_byte is_ascii_digit b 45 h refl)) (digits_of-digits name)

name-number_in : (name : List ℕ) (width : ℕ) → digits_len name ≡ width → 1 ≤ width → number_in (digits_of name) ≡ Some (number_of name)
name-number_in name width w h =
    let len : length (digits_of name) ≡ digits_len name = length-digits_of name in
    let few : digits_len name ≤ 9 = digits_len-few name in
    digit-number_in (digits_of name) (digits_of-digits name) (omega arith) (omega arith)

numbers_in-run : (width : ℕ) (first last : List ℕ) → 1 ≤ width → IsRun width (first, last) → numbers_in (run_text first last) ≡ Some (run_range width (first, last))
unfolding numbers_of run_text
numbers_in-run width first last h g = by_same (bytes_eq first last) refl where
  len : length (digits_of first) ≡ width
  len = length-digits_of first ∙ g.first_width

  low : (a b : ℕ) → a ≤ b → nat_le a b ≡ true
  low a b h = grind (arith, nat_tests)

  by_same : (t : Bool) → bytes_eq first last ≡ t → numbers_in (if t then digits_of first else digits_of first ++ 45 ∷ digits_of last) ≡ Some (run_range width (first, last))
  by_same true e =
      let same : first ≡ last = bytes_eq-same first last e in
      let P : List ℕ → Type 0 = λ x. numbers_in (digits_of first) ≡ Some (record { first = number_of first; last = number_of x; width = width }) in
      subst P same (rw (split-none (λ b. b == 45) (digits_of first) (digits-no_dash first), name-number_in first width g.first_width h, len) refl)
  by_same false e =
      rw (split-first (λ b. b == 45) (digits_of first) 45 (digits_of last) (digits-no_dash first) refl, split-none (λ b. b == 45) (digits_of last) (digits-no_dash last), name-number_in first width g.first_width h, name-number_in last width g.last_width h, len, low (number_of first) (number_of last) g.rising) refl

made_by_parts-runs : (prefix : List ℕ) (width : ℕ) (rs : List (List ℕ × List ℕ)) → 1 ≤ width → AreRuns width rs → made_by_parts prefix (map (λ run. run_text run.0 run.1) rs) ≡ Some (flat_map (range_names prefix) (map (run_range width) rs))
made_by_parts-runs prefix width [] h g = refl
made_by_parts-runs prefix width (run ∷ rs) h g = rw (numbers_in-run width run.0 run.1 h g.0, made_by_parts-runs prefix width rs h g.1) refl

run_text-bytes : (first last : List ℕ) → list_all is_run_byte (run_text first last) ≡ true
unfolding run_text
run_text-bytes first last = by_same (bytes_eq first last) where
  digit : (name : List ℕ) → list_all is_run_byte (digits_of name) ≡ true
  digit name = list_all-weaker is_ascii_digit is_run_byte (digits_of name) (λ b h. rw h refl) (digits_of-digits name)

  by_same : (t : Bool) → list_all is_run_byte (if t then digits_of first else digits_of first ++ 45 ∷ digits_of last) ≡ true
  by_same true = digit first
  by_same false = list_all-join is_run_byte (digits_of first) (45 ∷ digits_of last) (digit first) (digit last)

AllWithout-runs : (rs : List (List ℕ × List ℕ)) → AllWithout (map (λ run. run_text run.0 run.1) rs)
AllWithout-runs [] = tt
AllWithout-runs (run ∷ rs) =
    (list_all-weaker is_run_byte (λ b. not (b == 44)) (run_text run.0 run.1) (λ b h. ap not (other_byte is_run_byte b 44 h refl)) (run_text-bytes run.0 run.1), AllWithout-runs rs)

others-bytes : (rs : List (List ℕ × List ℕ)) → list_all is_bracket_byte (flat_map (λ t. 44 ∷ t) (map (λ run. run_text run.0 run.1) rs)) ≡ true
others-bytes [] = refl
others-bytes (run ∷ rs) =
    list_all-join is_bracket_byte (run_text run.0 run.1) (flat_map (λ t. 44 ∷ t) (map (λ r. run_text r.0 r.1) rs)) (bracket (run_text run.0 run.1) (run_text-bytes run.0 run.1)) (others-bytes rs)
  where
    bracket : (text : List ℕ) → list_all is_run_byte text ≡ true → list_all is_bracket_byte text ≡ true
    bracket text h = list_all-weaker is_run_byte is_bracket_byte text (λ b k. rw k refl) h

pub runs_text-bytes : (rs : List (List ℕ × List ℕ)) → list_all is_bracket_byte (runs_text rs) ≡ true
runs_text-bytes [] = refl
runs_text-bytes (run ∷ rs) =
    list_all-join is_bracket_byte (run_text run.0 run.1) (flat_map (λ t. 44 ∷ t) (map (λ r. run_text r.0 r.1) rs)) (bracket (run_text run.0 run.1) (run_text-bytes run.0 run.1)) (others-bytes rs)
  where
    bracket : (text : List ℕ) → list_all is_run_byte text ≡ true → list_all is_bracket_byte text ≡ true
    bracket text h = list_all-weaker is_run_byte is_bracket_byte text (λ b k. rw k refl) h

-- ---- the text of a group

name-bytes : (name : List ℕ) → is_name name ≡ true → list_all is_name_byte name ≡ true
unfolding is_name
name-bytes name h = both-right _ (list_all is_name_byte name) h

prefix-bytes : (name : List ℕ) → is_name name ≡ true → list_all is_name_byte (prefix_of name) ≡ true
prefix-bytes name h = list_all-front is_name_byte name (length name - digits_len name) (name-bytes name h)

no_bracket : (text : List ℕ) → list_all is_name_byte text ≡ true → list_all (λ b. not (b == 91)) text ≡ true
no_bracket text h = list_all-weaker is_name_byte (λ b. not (b == 91)) text (λ b k. ap not (other_byte is_name_byte b 91 k refl)) h

no_closing : (text : List ℕ) → list_all is_bracket_byte text ≡ true → list_all (λ b. not (b == 93)) text ≡ true
no_closing text h = list_all-weaker is_bracket_byte (λ b. not (b == 93)) text (λ b k. ap not (other_byte is_bracket_byte b 93 k refl)) h

no_opening : (text : List ℕ) → list_all is_bracket_byte text ≡ true → list_all (λ b. not (b == 91)) (text ++ 93 ∷ []) ≡ true
no_opening text h = list_all-join (λ b. not (b == 91)) text (93 ∷ []) (list_all-weaker is_bracket_byte (λ b. not (b == 91)) text (λ b k. ap not (other_byte is_bracket_byte b 91 k refl)) h) refl

made_by-name : (name : List ℕ) → is_name name ≡ true → made_by (fields 91 name) ≡ Some (name ∷ [])
unfolding made_by
made_by-name name h = rw (split-none (λ b. b == 91) name (no_bracket name (name-bytes name h))) refl

made_by-bracket : (prefix inside : List ℕ) → list_all is_name_byte prefix ≡ true → list_all is_bracket_byte inside ≡ true → made_by (fields 91 (prefix ++ 91 ∷ inside ++ 93 ∷ [])) ≡ made_by_parts prefix (fields 44 inside)
unfolding made_by made_behind
made_by-bracket prefix inside h k =
    let whole : prefix ++ 91 ∷ inside ++ 93 ∷ [] ≡ prefix ++ (91 ∷ (inside ++ 93 ∷ [])) = simp append_assoc in
    rw (whole, split-first (λ b. b == 91) prefix 91 (inside ++ 93 ∷ []) (no_bracket prefix h) refl, split-none (λ b. b == 91) (inside ++ 93 ∷ []) (no_opening inside k), split-first (λ b. b == 93) inside 93 [] (no_closing inside k) refl) refl

-- a group's names are of its first name's prefix and number of digits
same_group-is : (first name : List ℕ) → same_group first name ≡ true → (prefix_of name ≡ prefix_of first) × (digits_len name ≡ digits_len first) × (1 ≤ digits_len name)
same_group-is first name h =
    let some : not (digits_len name == 0) ≡ true = both-left (not (digits_len name == 0)) (bytes_eq (prefix_of first) (prefix_of name) && digits_len first == digits_len name) h in
    let both : (bytes_eq (prefix_of first) (prefix_of name) && digits_len first == digits_len name) ≡ true = both-right (not (digits_len name == 0)) (bytes_eq (prefix_of first) (prefix_of name) && digits_len first == digits_len name) h in
    (sym (bytes_eq-same (prefix_of first) (prefix_of name) (both-left (bytes_eq (prefix_of first) (prefix_of name)) (digits_len first == digits_len name) both)), sym (eqb-true (digits_len first) (digits_len name) (both-right (bytes_eq (prefix_of first) (prefix_of name)) (digits_len first == digits_len name) both)), positive (digits_len name) (not-true (digits_len name == 0) some))
  where
    positive : (n : ℕ) → (n == 0) ≡ false → 1 ≤ n
    positive n e = grind (arith, nat_tests)

IsOf-group : (first : List ℕ) (names : List (List ℕ)) → list_all (same_group first) names ≡ true → IsOf (prefix_of first) (digits_len first) names
IsOf-group first [] h = tt
IsOf-group first (name ∷ names) h =
    let one = same_group-is first name (both-left (same_group first name) (list_all (same_group first) names) h) in
    ((one.0, one.1), IsOf-group first names (both-right (same_group first name) (list_all (same_group first) names) h))

few-names : (names : List (List ℕ)) → list_all is_name names ≡ true → length names ≤ 1024 → few names ≡ Some names
unfolding few
few-names names h k = rw (h, low (length (distinct names)) (omega (arith, length-fold-with_name-le names []))) refl where
  low : (n : ℕ) → n ≤ 1024 → nat_le n 1024 ≡ true
  low n k = grind (arith, nat_tests)

-- there is a run where there is a name
split-runs : (name : List ℕ) (names : List (List ℕ)) → slice_split (λ b. b == 44) (runs_text (runs (name ∷ names))) ≡ map (λ run. run_text run.0 run.1) (runs (name ∷ names))
split-runs name names = by_runs (runs names) where
  by_runs : (rs : List (List ℕ × List ℕ)) → slice_split (λ b. b == 44) (runs_text (continued name name rs)) ≡ map (λ run. run_text run.0 run.1) (continued name name rs)
  by_runs [] = split_with_commas (run_text name name) [] (AllWithout-runs ((name, name) ∷ []))
  by_runs (next ∷ rs) = by_next (number_of next.0 == number_of name + 1) where
    by_next : (t : Bool) → slice_split (λ b. b == 44) (runs_text (if t then (name, next.1) ∷ rs else (name, name) ∷ next ∷ rs)) ≡ map (λ run. run_text run.0 run.1) (if t then (name, next.1) ∷ rs else (name, name) ∷ next ∷ rs)
    by_next true = split_with_commas (run_text name next.1) (map (λ run. run_text run.0 run.1) rs) (AllWithout-runs ((name, next.1) ∷ rs))
    by_next false = split_with_commas (run_text name name) (map (λ run. run_text run.0 run.1) (next ∷ rs)) (AllWithout-runs ((name, name) ∷ next ∷ rs))

made_by-group : (group : List (List ℕ)) → IsGroup group → made_by (fields 91 (group_text group)) ≡ Some group
unfolding group_text
made_by-group [] g = absurd g
made_by-group (name ∷ []) g = made_by-name name g.0
made_by-group (name ∷ next ∷ names) g =
    let one = same_group-is name next (both-left (same_group name next) (list_all (same_group name) names) g.2) in
    let of : IsOf (prefix_of name) (digits_len name) (name ∷ next ∷ names) = ((refl, refl), IsOf-group name (next ∷ names) g.2) in
    made_by-bracket (prefix_of name) (runs_text (runs (name ∷ next ∷ names))) (prefix-bytes name g.0) (runs_text-bytes (runs (name ∷ next ∷ names)))
    ∙ (ap (made_by_parts (prefix_of name)) (split-runs name (next ∷ names))
    ∙ (made_by_parts-runs (prefix_of name) (digits_len name) (runs (name ∷ next ∷ names)) (omega arith) (AreRuns-runs (prefix_of name) (digits_len name) (name ∷ next ∷ names) of)
    ∙ ap Some (names-runs (prefix_of name) (digits_len name) (name ∷ next ∷ names) (omega arith) of)))

group-named : (group : List (List ℕ)) → IsGroup group → list_all is_name group ≡ true
group-named [] g = absurd g
group-named (name ∷ names) g = rw (g.0, g.1) refl

pub item_names-group : (group : List (List ℕ)) → IsGroup group → length group ≤ 1024 → item_names (group_text group) ≡ Some group
item_names-group group g k = rw (made_by-group group g) (few-names group (group-named group g) k)

pub Passes-group : (group : List (List ℕ)) → IsGroup group → Passes (group_text group)
unfolding group_text
Passes-group [] g = absurd g
Passes-group (name ∷ []) g = Passes-name name g.0
Passes-group (name ∷ next ∷ names) g =
    Passes-bracket (prefix_of name) (runs_text (runs (name ∷ next ∷ names))) (prefix-bytes name g.0) (runs_text-bytes (runs (name ∷ next ∷ names)))
