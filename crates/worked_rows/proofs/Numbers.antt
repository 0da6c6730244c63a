-- The numbers of names that are alike rise in byte order.
use Rattle.std.proofs.Common.{ℕ, ◌≡◌, ◌+◌, ◌-◌, ◌*◌, ◌<◌, ◌≤◌, ◌==◌, min, cond, nat_le, nat_lt, Bool, true, false, List, [], ◌∷◌, ◌++◌, length, drop, reverse, get_or, All, AllPairs, sym, refl, ap, ◌∙◌, arith, eqb-true}
use Rattle.std.specs.Char.{is_ascii_digit, digit_value}
use Rattle.std.specs.List.{list_all, suffix_len}
use Rattle.std.specs.Ordering.{nat_cmp, ordering_then}
use Rattle.std.specs.Cmp.Lexicographic.{slice_cmp}
use Rattle.std.specs.declared.cmp.Ordering.TheVariants.{Less, Equal, Greater}
use Rattle.std.specs.Str.Parse.{digits_value_after}
use Rattle.std.proofs.lemmas.Bool.Decides.{nat_tests}
use Rattle.std.proofs.lemmas.List.{length-drop, get_or-drop, get_or-reverse, take-append-drop}
use Rattle.std.proofs.lemmas.List.Sums.{suffix_len-le-length, prefix_len_passes, list_all-from_AllPass}
use Rattle.host_lists.specs.Folding.{in_byte_order, prefix_of, digits_of, digits_len, number_of, grouped}
use Rattle.worked_rows.specs.Folds.{AreAlike, IsBelow, first_of}
use Rattle.worked_rows.proofs.Bytes.{names-in_order}
use Rattle.worked_rows.proofs.Groups.{groups-alike, order-within}
use Rattle.line_words.proofs.WordLemmas.{both-left, both-right}
use Rattle.host_lists.proofs.FoldingLemmas.{length-digits_of as length-digits}

-- ---- digits

record IsDigit (c : ℕ) : Type 0 where
  least : 48 ≤ c
  most : c ≤ 57

digit : (c : ℕ) → is_ascii_digit c ≡ true → IsDigit c
digit c h = record { least = least (nat_le 48 c) refl; most = most (nat_le 48 c) refl } where
  least : (t : Bool) → nat_le 48 c ≡ t → 48 ≤ c
  least t e = grind (arith, nat_tests, h)

  most : (t : Bool) → nat_le 48 c ≡ t → c ≤ 57
  most t e = grind (arith, nat_tests, h)

value : (c : ℕ) → IsDigit c → digit_value c ≡ c - 48
value c d =
    let least : 48 ≤ c = d.least in
    let most : c ≤ 57 = d.most in
    let low : nat_lt c 48 ≡ false = grind (arith, nat_tests) in
    let high : nat_lt c 58 ≡ true = grind (arith, nat_tests) in
    rw (low, high) refl

abbrev AreDigits : List ℕ → Type 0
AreDigits ds = list_all is_ascii_digit ds ≡ true

first-digit : (d : ℕ) (ds : List ℕ) → AreDigits (d ∷ ds) → IsDigit d
first-digit d ds h = digit d (both-left (is_ascii_digit d) (list_all is_ascii_digit ds) h)

other-digits : (d : ℕ) (ds : List ℕ) → AreDigits (d ∷ ds) → AreDigits ds
other-digits d ds h = both-right (is_ascii_digit d) (list_all is_ascii_digit ds) h

-- a lesser front makes a lesser number, whatever as many digits follow
lesser_front : (ds es : List ℕ) (m n : ℕ) → length ds ≡ length es → AreDigits ds → AreDigits es → m < n
    → digits_value_after 10 m ds < digits_value_after 10 n es
lesser_front [] [] m n e h k less = less
lesser_front [] (x ∷ es) m n e h k less = absurd (omega (arith, e))
lesser_front (d ∷ ds) [] m n e h k less = absurd (omega (arith, e))
lesser_front (d ∷ ds) (x ∷ es) m n e h k less =
    let one : IsDigit d = first-digit d ds h in
    let is : digit_value d ≡ d - 48 = value d one in
    lesser_front ds es (m * 10 + digit_value d) (n * 10 + digit_value x) (omega (arith, e)) (other-digits d ds h)
    (other-digits x es k) (omega (arith, is, one.least, one.most, less))

-- one digit more: the first two that differ decide
digits-step : (d x : ℕ) (ds es : List ℕ) (m n : ℕ) → length ds ≡ length es → AreDigits (d ∷ ds) → AreDigits (x ∷ es)
    → m ≤ n
    → ((low high : ℕ) → low ≤ high → slice_cmp nat_cmp ds es ≡ Less
    → digits_value_after 10 low ds < digits_value_after 10 high es)
    → (less same : Bool) → nat_lt d x ≡ less → (d == x) ≡ same → ordering_then
    (cond less Less (cond same Equal Greater)) (slice_cmp nat_cmp ds es) ≡ Less
    → digits_value_after 10 (m * 10 + digit_value d) ds < digits_value_after 10 (n * 10 + digit_value x) es
digits-step d x ds es m n e h k low more true same f g now =
    let less : d < x = grind (arith, nat_tests, f) in
    let is_d : digit_value d ≡ d - 48 = value d (first-digit d ds h) in
    let is_x : digit_value x ≡ x - 48 = value x (first-digit x es k) in
    lesser_front ds es (m * 10 + digit_value d) (n * 10 + digit_value x) e (other-digits d ds h)
    (other-digits x es k) (omega (arith, is_d, is_x, (first-digit d ds h).least, less, low))
digits-step d x ds es m n e h k low more false true f g now =
    let values : digit_value d ≡ digit_value x = ap digit_value (eqb-true d x g) in
    more (m * 10 + digit_value d) (n * 10 + digit_value x) (omega (arith, values, low)) now
digits-step d x ds es m n e h k low more false false f g now = let clash : Greater ≡ Less = now in cc

-- as many digits in byte order are numbers in order
lesser_digits : (ds es : List ℕ) (m n : ℕ) → length ds ≡ length es → AreDigits ds → AreDigits es → m ≤ n
    → slice_cmp nat_cmp ds es ≡ Less → digits_value_after 10 m ds < digits_value_after 10 n es
lesser_digits [] [] m n e h k low below = cc
lesser_digits [] (x ∷ es) m n e h k low below = absurd (omega (arith, e))
lesser_digits (d ∷ ds) [] m n e h k low below = absurd (omega (arith, e))
lesser_digits (d ∷ ds) (x ∷ es) m n e h k low below =
    let long : length ds ≡ length es = omega (arith, e) in
    digits-step d x ds es m n long h k low
    (λ a b less under. lesser_digits ds es a b long (other-digits d ds h) (other-digits x es k) less under)
    (nat_lt d x) (d == x) refl refl below

-- ---- names

-- a front that two texts share has no say in their order
same_front : (front ds es : List ℕ) → slice_cmp nat_cmp (front ++ ds) (front ++ es) ≡ slice_cmp nat_cmp ds es
same_front [] ds es = refl
same_front (b ∷ front) ds es =
    let low : nat_lt b b ≡ false = grind (arith, nat_tests) in
    let same : (b == b) ≡ true = grind (arith, nat_tests) in
    rw (low, same) (same_front front ds es)

passes-drop : (p : ℕ → Bool) (xs : List ℕ) (k : ℕ) → k ≤ suffix_len p xs → list_all p (drop (length xs - k) xs) ≡ true
passes-drop p xs k h =
    list_all-from_AllPass p (drop (length xs - k) xs) (λ j d g.
    let few : suffix_len p xs ≤ length xs = suffix_len-le-length p xs in
    let lt : j < k = omega (arith, length-drop (length xs - k) xs) in
    let at : get_or (drop (length xs - k) xs) j d ≡ get_or (reverse xs) (k - 1 - j) d =
    get_or-drop (length xs - k) xs j d ∙ (ap (λ (i : ℕ). get_or xs i d) (omega arith)
    ∙ sym (get_or-reverse xs (k - 1 - j) d (omega arith))) in
    rw at (prefix_len_passes p (reverse xs) (k - 1 - j) d (omega arith)))

name-digits : (name : List ℕ) → AreDigits (digits_of name)
unfolding digits_len
name-digits name = passes-drop is_ascii_digit name (min 9 (suffix_len is_ascii_digit name)) (omega arith)

name-parts : (name : List ℕ) → prefix_of name ++ digits_of name ≡ name
name-parts name = take-append-drop (length name - digits_len name) name

rising : (one other : List ℕ) → AreAlike one other → IsBelow one other → number_of one < number_of other
rising one other alike below =
    let parts : other ≡ prefix_of one ++ digits_of other = sym (name-parts other)
    ∙ ap (λ (front : List ℕ). front ++ digits_of other) (sym alike.0) in
    let whole : slice_cmp nat_cmp (prefix_of one ++ digits_of one) (prefix_of one ++ digits_of other) ≡ Less =
    ap (λ (text : List ℕ). slice_cmp nat_cmp text (prefix_of one ++ digits_of other)) (name-parts one)
    ∙ (ap (slice_cmp nat_cmp one) (sym parts) ∙ below) in
    lesser_digits (digits_of one) (digits_of other) 0 0 (length-digits one ∙ (alike.1 ∙ sym (length-digits other)))
    (name-digits one) (name-digits other) (omega arith)
    (sym (same_front (prefix_of one) (digits_of one) (digits_of other)) ∙ whole)

pub numbers-rise : (names : List (List ℕ))
    → All (AllPairs (λ one other. number_of one < number_of other)) (grouped (in_byte_order names))
numbers-rise names k d inside i j e before below =
    let sorted : List (List ℕ) = in_byte_order names in
    let group : List (List ℕ) = get_or (grouped sorted) k d in
    let alike : All (AreAlike (first_of group)) group = (groups-alike sorted k d inside).1 in
    let one : AreAlike (first_of group) (get_or group i e) = alike i e (omega (arith, before, below)) in
    let other : AreAlike (first_of group) (get_or group j e) = alike j e below in
    rising (get_or group i e) (get_or group j e) (sym one.0 ∙ other.0, sym one.1 ∙ other.1)
    (order-within IsBelow sorted (names-in_order names) k d inside i j e before below)
