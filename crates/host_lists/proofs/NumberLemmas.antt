-- Numbers in brackets: the texts that write them, the names they make, and the keys by which they are counted.
use Rattle.std.proofs.Common.{ℕ, zero, suc, ◌≡◌, ◌+◌, ◌-◌, ◌*◌, ◌/◌, ◌%◌, ◌^◌, ◌<◌, ◌≤◌, ◌&&◌, ◌==◌, if◌then◌else◌, nat_le, nat_lt, Bool, true, false, Option, Some, None, unwrap_or, List, [], ◌∷◌, ◌++◌, length, drop, max, map, replicate, decimal, IfSome, Bor, sym, refl, ap, ◌∙◌, subst, arith, eqb-true}
use Rattle.std.specs.Bool.{OnTrue}
use Rattle.std.specs.Option.{option_map_or}
use Rattle.std.specs.Str.{bytes_eq, all_ascii_digits}
use Rattle.std.specs.Str.Parse.{digits_value}
use Rattle.std.specs.Char.{is_ascii_digit}
use Rattle.std.specs.Int.{is_in_range}
use Rattle.std.specs.List.{list_all, list_any, range_with_len}
use Rattle.std.proofs.lemmas.Bool.Decides.{nat_tests}
use Rattle.std.proofs.lemmas.Fmt.{digits_decimal, digits_value-decimal, decimal_nonempty, length-decimal-le}
use Rattle.std.proofs.lemmas.Str.Parse.{digits_value_short}
use Rattle.std.proofs.lemmas.List.{length-append, length-replicate}
use Rattle.std.proofs.lemmas.List.Folds.{list_all-append}
use Rattle.small_texts.specs.Digits.{number_within}
use Rattle.small_texts.specs.Name.{is_name, is_name_byte}
use Rattle.host_lists.specs.Hosts.{Numbers, padded, range_names, has}
use Rattle.host_lists.specs.Counting.{is_key, name_at}
use Rattle.host_lists.proofs.Decimals.{own}
use Rattle.host_lists.proofs.HostLemmas.{numbers_bad, bytes_eq-same, bytes_eq-refl}
use Rattle.host_lists.proofs.Both.{both-left, both-right}

-- ---- texts of numbers

pub number_within-few : (most greatest : ℕ) (text : List ℕ) (n : ℕ) → number_within most greatest text ≡ Some n → (length text ≤ most) × (n ≤ greatest)
unfolding number_within
number_within-few most greatest text n h = by_test (nat_lt 0 (length text) && nat_le (length text) most && all_ascii_digits text && nat_le (digits_value 10 text) greatest) refl h where
  by_test : (t : Bool) → (nat_lt 0 (length text) && nat_le (length text) most && all_ascii_digits text && nat_le (digits_value 10 text) greatest) ≡ t → (if t then Some (digits_value 10 text) else None) ≡ Some n → (length text ≤ most) × (n ≤ greatest)
  by_test false e k = cc
  by_test true e k =
      let value : digits_value 10 text ≡ n = cc in
      (few (nat_lt 0 (length text)) (length text) (all_ascii_digits text) (nat_le (digits_value 10 text) greatest) e, subst (λ (m : ℕ). m ≤ greatest) value (low (nat_lt 0 (length text) && nat_le (length text) most && all_ascii_digits text) (digits_value 10 text) e))
    where
      few : (a : Bool) (m : ℕ) (b c : Bool) → (a && nat_le m most && b && c) ≡ true → m ≤ most
      few a m b c e = grind (arith, nat_tests)

      low : (a : Bool) (m : ℕ) → (a && nat_le m greatest) ≡ true → m ≤ greatest
      low a m e = grind (arith, nat_tests)

all_digits : (digits : List ℕ) → all_ascii_digits digits ≡ list_all is_ascii_digit digits
all_digits [] = refl
all_digits (d ∷ digits) = ap (λ (t : Bool). is_ascii_digit d && t) (all_digits digits)

-- digits of at most nine are a number, and no digits at all are 0
pub number_of_digits : (digits : List ℕ) → list_all is_ascii_digit digits ≡ true → length digits ≤ 9 → unwrap_or (number_within 9 999_999_999 digits) 0 ≡ digits_value 10 digits
unfolding number_within
number_of_digits [] h n = refl
number_of_digits (d ∷ digits) h n = rw (some (length (d ∷ digits)) (omega arith), few (length (d ∷ digits)) n, all_digits (d ∷ digits), h, low (digits_value 10 (d ∷ digits)) (digits_value_short own (d ∷ digits) 9 h n)) refl where
  some : (m : ℕ) → 0 < m → nat_lt 0 m ≡ true
  some m k = grind (arith, nat_tests)

  few : (m : ℕ) → m ≤ 9 → nat_le m 9 ≡ true
  few m n = grind (arith, nat_tests)

  low : (m : ℕ) → m < 10 ^ 9 → nat_le m 999_999_999 ≡ true
  low m n = grind (arith, nat_tests)

-- ---- names of numbers

all-weaker : (p q : ℕ → Bool) (xs : List ℕ) → ((x : ℕ) → p x ≡ true → q x ≡ true) → list_all p xs ≡ true → list_all q xs ≡ true
all-weaker p q [] f h = refl
all-weaker p q (x ∷ xs) f h =
    rw (f x (both-left (p x) (list_all p xs) h), all-weaker p q xs f (both-right (p x) (list_all p xs) h)) refl

zeros-digits : (k : ℕ) → list_all is_ascii_digit (replicate k 48) ≡ true
zeros-digits zero = refl
zeros-digits (suc k) = zeros-digits k

padded-digits : (width n : ℕ) → n < 2 ^ 64 → list_all is_ascii_digit (padded width n) ≡ true
padded-digits width n h =
    list_all-append is_ascii_digit (replicate (width - length (decimal n)) 48) (decimal n)
    ∙ rw (zeros-digits (width - length (decimal n)), digits_decimal own n h) refl

padded-bytes : (width n : ℕ) → n < 2 ^ 64 → list_all is_name_byte (padded width n) ≡ true
padded-bytes width n h = all-weaker is_ascii_digit is_name_byte (padded width n) (λ b k. digit b k) (padded-digits width n h) where
  digit : (b : ℕ) → is_ascii_digit b ≡ true → is_name_byte b ≡ true
  digit b k = grind (arith, nat_tests)

length-zeros : (k : ℕ) → length (replicate {A = ℕ} k 48) ≡ k
length-zeros k = length-replicate k 48

pub length-padded : (width n : ℕ) → length (padded width n) ≡ width - length (decimal n) + length (decimal n)
length-padded width n =
    length-append (replicate (width - length (decimal n)) 48) (decimal n) ∙ rw (length-zeros (width - length (decimal n))) refl

-- a name of a number is a name exactly where its prefix has a name's bytes, and it is not too long
named : (prefix : List ℕ) (width n : ℕ) → n < 2 ^ 64 → length prefix + length (padded width n) ≤ 64 → is_name (prefix ++ padded width n) ≡ list_all is_name_byte prefix
unfolding is_name
named prefix width n h k = rw (list_all-append is_name_byte prefix (padded width n), padded-bytes width n h, length-append prefix (padded width n)) (by_size (length prefix + length (padded width n)) (list_all is_name_byte prefix) some k) where
  some : 1 ≤ length prefix + length (padded width n)
  some = omega (arith, length-padded width n, decimal_nonempty n h)

  by_size : (m : ℕ) (t : Bool) → 1 ≤ m → m ≤ 64 → (is_in_range 1 64 m && (t && true)) ≡ t
  by_size m true h k = grind (arith, nat_tests)
  by_size m false h k = grind (arith, nat_tests)

too_long : (prefix : List ℕ) (width n : ℕ) → 64 < length prefix + length (padded width n) → is_name (prefix ++ padded width n) ≡ false
unfolding is_name
too_long prefix width n k = rw (length-append prefix (padded width n)) (by_size (length prefix + length (padded width n)) (list_all is_name_byte (prefix ++ padded width n)) k) where
  by_size : (m : ℕ) (t : Bool) → 64 < m → (is_in_range 1 64 m && t) ≡ false
  by_size m t k = grind (arith, nat_tests)

-- a greater number has no fewer digits
pub below_own : (n : ℕ) → n < 2 ^ 64 → n < 10 ^ length (decimal n)
below_own n h =
    subst (λ (x : ℕ). x < 10 ^ length (decimal n)) (digits_value-decimal own n h) (digits_value_short own (decimal n) (length (decimal n)) (digits_decimal own n h) (omega arith))

pub decimal-rising : (n m : ℕ) → n ≤ m → m < 2 ^ 64 → length (decimal n) ≤ length (decimal m)
decimal-rising n m h k =
    length-decimal-le (length (decimal m)) n (decimal_nonempty m k) (omega (arith, h, below_own m k)) (omega (arith, h, k))

all_of_range : (p : List ℕ → Bool) (f : ℕ → List ℕ) (first count : ℕ) → ((n : ℕ) → first ≤ n → n < first + count → p (f n) ≡ true) → list_all p (map f (range_with_len first count)) ≡ true
all_of_range p f first zero h = refl
all_of_range p f first (suc count) h =
    rw (h first (omega arith) (omega arith)) (all_of_range p f (first + 1) count (λ n k g. h n (omega arith) (omega arith)))

none_of_range : (prefix : List ℕ) (numbers : Numbers) → numbers.first ≤ numbers.last → is_name (prefix ++ padded numbers.width numbers.last) ≡ false → list_all is_name (range_names prefix numbers) ≡ false
unfolding range_names
none_of_range prefix numbers h e =
    numbers_bad is_name (λ n. prefix ++ padded numbers.width n) numbers.first (numbers.last + 1) numbers.last h (omega arith) e

pub range_names-fit : (prefix : List ℕ) (numbers : Numbers) → numbers.first ≤ numbers.last → numbers.last < 10 ^ 9 → length prefix + length (padded numbers.width numbers.last) ≤ 64 → list_all is_name (range_names prefix numbers) ≡ list_all is_name_byte prefix
unfolding range_names
range_names-fit prefix numbers h k n = by_bytes (list_all is_name_byte prefix) refl where
  fits : (m : ℕ) → m ≤ numbers.last → length prefix + length (padded numbers.width m) ≤ 64
  fits m g = omega (arith, n, length-padded numbers.width m, length-padded numbers.width numbers.last, decimal-rising m numbers.last g (omega (arith, k)))

  by_bytes : (t : Bool) → list_all is_name_byte prefix ≡ t → list_all is_name (range_names prefix numbers) ≡ t
  by_bytes true e =
      all_of_range is_name (λ m. prefix ++ padded numbers.width m) numbers.first (numbers.last + 1 - numbers.first) (λ m g l. named prefix numbers.width m (omega (arith, k)) (fits m (omega arith)) ∙ e)
  by_bytes false e =
      none_of_range prefix numbers h (named prefix numbers.width numbers.last (omega (arith, k)) n ∙ e)

pub range_names-long : (prefix : List ℕ) (numbers : Numbers) → numbers.first ≤ numbers.last → 64 < length prefix + length (padded numbers.width numbers.last) → list_all is_name (range_names prefix numbers) ≡ false
range_names-long prefix numbers h k =
    none_of_range prefix numbers h (too_long prefix numbers.width numbers.last k)

-- ---- counted numbers

no_zeros : (k : ℕ) (ds : List ℕ) → digits_value 10 (replicate k 48 ++ ds) ≡ digits_value 10 ds
no_zeros zero ds = refl
no_zeros (suc k) ds = no_zeros k ds

padded-value : (width n : ℕ) → n < 2 ^ 64 → digits_value 10 (padded width n) ≡ n
padded-value width n h =
    no_zeros (width - length (decimal n)) (decimal n) ∙ digits_value-decimal own n h

same_back : (front a b : List ℕ) → front ++ a ≡ front ++ b → a ≡ b
same_back [] a b e = e
same_back (x ∷ front) a b e = same_back front a b (ap (λ (u : List ℕ). drop 1 u) e)

key-wide : (key : ℕ) → is_key key ≡ true → length (decimal (key % 2 ^ 32)) ≤ key / 2 ^ 32
key-wide key h = wide (length (decimal (key % 2 ^ 32))) (key / 2 ^ 32) h where
  wide : (n m : ℕ) → nat_le n m ≡ true → n ≤ m
  wide n m h = grind (arith, nat_tests)

low_part : (key : ℕ) → key % 2 ^ 32 < 2 ^ 64
low_part key = omega arith

key-length : (key : ℕ) → is_key key ≡ true → length (padded (key / 2 ^ 32) (key % 2 ^ 32)) ≡ key / 2 ^ 32
key-length key h =
    omega (arith, length-padded (key / 2 ^ 32) (key % 2 ^ 32), key-wide key h)

same_key : (prefix : List ℕ) (a b : ℕ) → is_key a ≡ true → is_key b ≡ true → name_at prefix a ≡ name_at prefix b → a ≡ b
same_key prefix a b h k e =
    let back : padded (a / 2 ^ 32) (a % 2 ^ 32) ≡ padded (b / 2 ^ 32) (b % 2 ^ 32) = same_back prefix (padded (a / 2 ^ 32) (a % 2 ^ 32)) (padded (b / 2 ^ 32) (b % 2 ^ 32)) e in
    let wide : a / 2 ^ 32 ≡ b / 2 ^ 32 = sym (key-length a h) ∙ (ap length back ∙ key-length b k) in
    let low : a % 2 ^ 32 ≡ b % 2 ^ 32 = sym (padded-value (a / 2 ^ 32) (a % 2 ^ 32) (low_part a)) ∙ (ap (digits_value 10) back ∙ padded-value (b / 2 ^ 32) (b % 2 ^ 32) (low_part b)) in
    omega (arith, wide, low)

pub one_key : (prefix : List ℕ) (a b : ℕ) → is_key a ≡ true → is_key b ≡ true → bytes_eq (name_at prefix b) (name_at prefix a) ≡ (a == b)
one_key prefix a b h k = by_test (bytes_eq (name_at prefix b) (name_at prefix a)) refl (a == b) refl where
  by_test : (s : Bool) → bytes_eq (name_at prefix b) (name_at prefix a) ≡ s → (t : Bool) → (a == b) ≡ t → s ≡ t
  by_test true e true g = refl
  by_test false e false g = refl
  by_test true e false g = absurd (apart a b (same_key prefix a b h k (sym (bytes_eq-same (name_at prefix b) (name_at prefix a) e))) g) where
    apart : (x y : ℕ) → x ≡ y → (x == y) ≡ false → ⊥
    apart x y p q = grind (arith, nat_tests)
  by_test false e true g = sym (sym (bytes_eq-refl (name_at prefix b)) ∙ (ap (λ (x : ℕ). bytes_eq (name_at prefix b) (name_at prefix x)) (sym (eqb-true a b g)) ∙ e))

pub has-key : (prefix : List ℕ) (key : ℕ) (keys : List ℕ) → is_key key ≡ true → list_all is_key keys ≡ true → has (name_at prefix key) (map (name_at prefix) keys) ≡ list_any (λ y. y == key) keys
has-key prefix key [] h k = refl
has-key prefix key (x ∷ keys) h k =
    rw (one_key prefix x key (both-left (is_key x) (list_all is_key keys) k) h, has-key prefix key keys h (both-right (is_key x) (list_all is_key keys) k)) refl

-- the key of a number that is written in at least so many digits
pub record IsKeyOf (width n key : ℕ) : Type 0 where
  pub good : is_key key ≡ true
  pub name : (prefix : List ℕ) → name_at prefix key ≡ prefix ++ padded width n

pub key_of : (width n digits key : ℕ) → n < 10 ^ 9 → digits ≡ width - length (decimal n) + length (decimal n) → key ≡ digits * 2 ^ 32 + n → IsKeyOf width n key
key_of width n digits key h d e = record {
  good = rw (high, low) (wide (length (decimal n)) digits (omega arith));
  name = λ prefix. rw (high, low) (ap (λ (k : ℕ). prefix ++ (replicate k 48 ++ decimal n)) (omega (arith, d)));
} where
  high : key / 2 ^ 32 ≡ digits
  high = omega (arith, h, e)

  low : key % 2 ^ 32 ≡ n
  low = omega (arith, h, e)

  wide : (a b : ℕ) → a ≤ b → nat_le a b ≡ true
  wide a b g = grind (arith, nat_tests)

pub padded-max : (a b : ℕ) → max a b ≡ b - a + a
padded-max a b = grind arith

-- what a test tells
pub on_true : {P : Type 0} (t : Bool) → (t ≡ true → P) → OnTrue t P
on_true true f = f refl
on_true false f = tt

pub from_true : {P : Type 0} (t : Bool) → t ≡ true → OnTrue t P → P
from_true true e p = p
from_true false e p = absurd (not_true e) where
  not_true : false ≡ true → ⊥
  not_true e = cc

-- each of the numbers
pub one_named : (prefix : List ℕ) (numbers : Numbers) (number : ℕ) → numbers.first ≤ number → number ≤ numbers.last → list_all is_name (range_names prefix numbers) ≡ true → is_name (prefix ++ padded numbers.width number) ≡ true
unfolding range_names
one_named prefix numbers number h k all = by_test (is_name (prefix ++ padded numbers.width number)) refl where
  by_test : (t : Bool) → is_name (prefix ++ padded numbers.width number) ≡ t → t ≡ true
  by_test true e = refl
  by_test false e =
      sym (numbers_bad is_name (λ n. prefix ++ padded numbers.width n) numbers.first (numbers.last + 1) number h (omega (arith, k)) e) ∙ all

-- what follows the first item of a text
pub rest-size : (o : Option (Bor (List ℕ))) (n m p q : ℕ) → IfSome o (λ rest. n + 1 + length rest.now ≡ m) → n ≤ m → p + (m + 1) ≤ q → p + (n + 1) + option_map_or (λ r. length r.now + 1) o 0 ≤ q
rest-size None n m p q h k g = omega (arith, k, g)
rest-size (Some rest) n m p q h k g = omega (arith, h, k, g)

pub above : (n m : ℕ) → m < n → nat_le n m ≡ false
above n m h = grind (arith, nat_tests)
