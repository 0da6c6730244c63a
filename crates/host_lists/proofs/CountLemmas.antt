-- The names of runs of keys, as they are counted.
use Rattle.std.proofs.Common.{ℕ, zero, suc, ◌≡◌, ◌+◌, ◌-◌, ◌*◌, ◌^◌, ◌<◌, ◌≤◌, ◌||◌, ◌&&◌, ◌==◌, max, nat_le, nat_lt, Bool, true, false, List, [], ◌∷◌, ◌++◌, length, map, fold, decimal, sym, refl, ap, ◌∙◌, subst, arith}
use Rattle.std.specs.Str.{bytes_eq}
use Rattle.std.specs.List.{list_all, list_any, range_with_len}
use Rattle.std.proofs.Math.Nat.{pow-le-pow_right}
use Rattle.std.proofs.lemmas.Fmt.{decimal_nonempty, length-decimal-le}
use Rattle.std.proofs.lemmas.List.{length-append}
use Rattle.std.proofs.lemmas.List.Sums.{fold-append}
use Rattle.std.proofs.lemmas.Bool.Decides.{nat_tests}
use Rattle.host_lists.specs.Hosts.{Numbers, padded, range_names, has, with_name}
use Rattle.host_lists.specs.Runs.{in_run, in_runs, new_from, new_in}
use Rattle.host_lists.specs.Counting.{is_key, name_at, AreKeys, run_names, Counts}
use Rattle.host_lists.specs.declared.runs.Run.{Run}
use Rattle.host_lists.specs.declared.counted.Counted.{Counted}
use Rattle.host_lists.proofs.BracketLemmas.{length-fold-with_name}
use Rattle.host_lists.proofs.HostLemmas.{numbers_up_to}
use Rattle.host_lists.proofs.NameSets.{has-with_name, has-fold-with_name, or_false}
use Rattle.host_lists.proofs.NumberLemmas.{IsKeyOf, key_of, one_key, has-key, decimal-rising, below_own}
use Rattle.host_lists.proofs.RunLemmas.{new_from-known, new_from-new}

-- the numbers of a range
in_range : (first len key : ℕ) → list_any (λ y. y == key) (range_with_len first len) ≡ (nat_le first key && nat_lt key (first + len))
in_range first zero key = none first key where
  none : (a b : ℕ) → false ≡ (nat_le a b && nat_lt b (a + 0))
  none a b = grind (arith, nat_tests)
in_range first (suc len) key =
    ap (λ (t : Bool). first == key || t) (in_range (first + 1) len key) ∙ more first key (first + suc len) (first + 1 + len) (omega arith) (omega arith)
  where
    more : (a b m n : ℕ) → m ≡ n → a < n → ((a == b) || (nat_le (a + 1) b && nat_lt b n)) ≡ (nat_le a b && nat_lt b m)
    more a b m n e h = grind (arith, nat_tests)

all_keys : (first len : ℕ) → ((key : ℕ) → first ≤ key → key < first + len → is_key key ≡ true) → list_all is_key (range_with_len first len) ≡ true
all_keys first zero h = refl
all_keys first (suc len) h =
    rw (h first (omega arith) (omega arith)) (all_keys (first + 1) len (λ key a b. h key (omega arith) (omega arith)))

has-run : (prefix : List ℕ) (first len key : ℕ) → is_key key ≡ true → ((k : ℕ) → first ≤ k → k < first + len → is_key k ≡ true) → has (name_at prefix key) (map (name_at prefix) (range_with_len first len)) ≡ (nat_le first key && nat_lt key (first + len))
has-run prefix first len key h all =
    has-key prefix key (range_with_len first len) h (all_keys first len all) ∙ in_range first len key

-- how many names there are then
knows_more : (prefix : List ℕ) (known : ℕ → Bool) (names : List (List ℕ)) (first : ℕ) → is_key first ≡ true → ((key : ℕ) → first ≤ key → is_key key ≡ true → known key ≡ has (name_at prefix key) names) → (key : ℕ) → first + 1 ≤ key → is_key key ≡ true → known key ≡ has (name_at prefix key) (with_name names (name_at prefix first))
knows_more prefix known names first k h key g i =
    let other : bytes_eq (name_at prefix key) (name_at prefix first) ≡ false = one_key prefix first key k i ∙ apart first key g in
    h key (omega arith) i ∙ (sym (or_false (has (name_at prefix key) names)) ∙ (ap (λ (t : Bool). has (name_at prefix key) names || t) (sym other) ∙ sym (has-with_name (name_at prefix key) names (name_at prefix first))))
  where
    apart : (a b : ℕ) → a + 1 ≤ b → (a == b) ≡ false
    apart a b h = grind (arith, nat_tests)

length-known : (names : List (List ℕ)) (name : List ℕ) → has name names ≡ true → length (with_name names name) ≡ length names
length-known names name h = rw h refl

length-new : (names : List (List ℕ)) (name : List ℕ) → has name names ≡ false → length (with_name names name) ≡ length names + 1
length-new names name h = rw h (length-append names (name ∷ []))

length-run : (prefix : List ℕ) (runs : List Run) (len first : ℕ) (names : List (List ℕ)) → ((key : ℕ) → first ≤ key → key < first + len → is_key key ≡ true) → ((key : ℕ) → first ≤ key → is_key key ≡ true → in_runs runs key ≡ has (name_at prefix key) names) → length (fold with_name names (map (name_at prefix) (range_with_len first len))) ≡ length names + new_from runs first len
length-run prefix runs zero first names all h = omega arith
length-run prefix runs (suc len) first names all h =
    let one : is_key first ≡ true = all first (omega arith) (omega arith) in
    let more = length-run prefix runs len (first + 1) (with_name names (name_at prefix first)) (λ key a b. all key (omega arith) (omega arith)) (knows_more prefix (in_runs runs) names first one h) in
    by_known (in_runs runs first) refl (h first (omega arith) one) more
  where
    by_known : (t : Bool) → in_runs runs first ≡ t → in_runs runs first ≡ has (name_at prefix first) names → length (fold with_name (with_name names (name_at prefix first)) (map (name_at prefix) (range_with_len (first + 1) len))) ≡ length (with_name names (name_at prefix first)) + new_from runs (first + 1) len → length (fold with_name names (map (name_at prefix) (range_with_len first (suc len)))) ≡ length names + new_from runs first (suc len)
    by_known true e g more =
        omega (arith, more, length-known names (name_at prefix first) (sym g ∙ e), new_from-known runs first len e)
    by_known false e g more =
        omega (arith, more, length-new names (name_at prefix first) (sym g ∙ e), new_from-new runs first len e)

-- a run that is counted
pub length-counted : (prefix : List ℕ) (counted : Counted) (names : List (List ℕ)) (run : Run) → AreKeys run → run.first < run.end → Counts prefix counted names → length (fold with_name names (run_names prefix run)) ≡ counted.count + new_in counted.runs.items run
unfolding new_in
length-counted prefix counted names run keys h counts =
    length-run prefix counted.runs.items (run.end - run.first) run.first names (λ key a b. keys key a (omega arith)) (λ key a k. counts.members key k)
    ∙ ap (λ (n : ℕ). n + new_from counted.runs.items run.first (run.end - run.first)) (sym counts.count)

pub members-counted : (prefix : List ℕ) (runs : List Run) (names : List (List ℕ)) (run : Run) → AreKeys run → run.first < run.end → (key : ℕ) → is_key key ≡ true → in_runs runs key ≡ has (name_at prefix key) names → (in_runs runs key || in_run run key) ≡ has (name_at prefix key) (fold with_name names (run_names prefix run))
members-counted prefix runs names run keys h key k e =
    let end : run.first + (run.end - run.first) ≡ run.end = omega arith in
    let inside : has (name_at prefix key) (run_names prefix run) ≡ in_run run key = has-run prefix run.first (run.end - run.first) key k (λ i a b. keys i a (omega arith)) ∙ ap (λ (n : ℕ). nat_le run.first key && nat_lt key n) end in
    ap (λ (t : Bool). t || in_run run key) e
    ∙ (ap (λ (t : Bool). has (name_at prefix key) names || t) (sym inside) ∙ sym (has-fold-with_name (name_at prefix key) (run_names prefix run) names))

-- ---- numbers that are written in as many digits

pub few_digits : (n : ℕ) → n < 10 ^ 9 → length (decimal n) ≤ 9
few_digits n h = length-decimal-le 9 n (omega arith) h (omega (arith, h))

pub below_power : (n width digits : ℕ) → n < 10 ^ 9 → digits ≡ max (length (decimal n)) width → n < 10 ^ digits
below_power n width digits h e =
    let own : n < 10 ^ length (decimal n) = below_own n (omega (arith, h)) in
    omega (arith, own, pow-le-pow_right {n = 10} (omega arith) {i = length (decimal n)} {j = digits} (omega arith))

same_digits : (width number n digits : ℕ) → digits ≡ max (length (decimal number)) width → number ≤ n → n < 10 ^ digits → n < 10 ^ 9 → digits ≡ width - length (decimal n) + length (decimal n)
same_digits width number n digits e h k g =
    let rising = decimal-rising number n h (omega (arith, g)) in
    let some = decimal_nonempty number (omega (arith, h, g)) in
    let most = length-decimal-le digits n (omega arith) k (omega (arith, g)) in
    omega arith

-- the keys of a piece of a range
pub keys_of_piece : (width number digits : ℕ) → digits ≡ max (length (decimal number)) width → (n : ℕ) → number ≤ n → n < 10 ^ digits → n < 10 ^ 9 → IsKeyOf width n (digits * 2 ^ 32 + n)
keys_of_piece width number digits e n h k g =
    key_of width n digits (digits * 2 ^ 32 + n) g (same_digits width number n digits e h k g) refl

pub are_keys : (width number end digits : ℕ) → digits ≡ max (length (decimal number)) width → end ≤ 10 ^ digits → end ≤ 10 ^ 9 → (key : ℕ) → digits * 2 ^ 32 + number ≤ key → key < digits * 2 ^ 32 + end → is_key key ≡ true
are_keys width number end digits e h k key a b =
    let is = keys_of_piece width number digits e (key - digits * 2 ^ 32) (omega arith) (omega (arith, h)) (omega (arith, k)) in
    let same : digits * 2 ^ 32 + (key - digits * 2 ^ 32) ≡ key = omega arith in
    subst (λ (x : ℕ). is_key x ≡ true) same is.good

names_of_keys : (prefix : List ℕ) (width base len number key : ℕ) → key ≡ base + number → ((n : ℕ) → number ≤ n → n < number + len → IsKeyOf width n (base + n)) → map (name_at prefix) (range_with_len key len) ≡ map (λ n. prefix ++ padded width n) (range_with_len number len)
names_of_keys prefix width base zero number key e h = refl
names_of_keys prefix width base (suc len) number key e h =
    let is = h number (omega arith) (omega arith) in
    let one : name_at prefix key ≡ prefix ++ padded width number = ap (name_at prefix) e ∙ is.name prefix in
    rw one (ap (λ (names : List (List ℕ)). (prefix ++ padded width number) ∷ names) (names_of_keys prefix width base len (number + 1) (key + 1) (omega arith) (λ n a b. h n (omega arith) (omega arith))))

pub names_of_piece : (prefix : List ℕ) (width number end digits : ℕ) → digits ≡ max (length (decimal number)) width → end ≤ 10 ^ digits → end ≤ 10 ^ 9 → number ≤ end → run_names prefix (record { first = digits * 2 ^ 32 + number; end = digits * 2 ^ 32 + end }) ≡ map (λ n. prefix ++ padded width n) (range_with_len number (end - number))
names_of_piece prefix width number end digits e h k g =
    let len : digits * 2 ^ 32 + end - (digits * 2 ^ 32 + number) ≡ end - number = omega arith in
    ap (λ (n : ℕ). map (name_at prefix) (range_with_len (digits * 2 ^ 32 + number) n)) len
    ∙ names_of_keys prefix width (digits * 2 ^ 32) (end - number) number (digits * 2 ^ 32 + number) refl (λ n a b. keys_of_piece width number digits e n a (omega (arith, h)) (omega (arith, k)))

-- a range of which a piece more is counted, and one that is too much already
pub fold-piece : (prefix : List ℕ) (width first number end digits : ℕ) (names : List (List ℕ)) → first ≤ number → number ≤ end → digits ≡ max (length (decimal number)) width → end ≤ 10 ^ digits → end ≤ 10 ^ 9 → fold with_name (fold with_name names (map (λ n. prefix ++ padded width n) (range_with_len first (number - first)))) (run_names prefix (record { first = digits * 2 ^ 32 + number; end = digits * 2 ^ 32 + end })) ≡ fold with_name names (map (λ n. prefix ++ padded width n) (range_with_len first (end - first)))
fold-piece prefix width first number end digits names a b e h k =
    let f : ℕ → List ℕ = λ n. prefix ++ padded width n in
    let before : List (List ℕ) = map f (range_with_len first (number - first)) in
    ap (λ (more : List (List ℕ)). fold with_name (fold with_name names before) more) (names_of_piece prefix width number end digits e h k b)
    ∙ (sym (fold-append with_name names before (map f (range_with_len number (end - number)))) ∙ ap (fold with_name names) (sym (numbers_up_to f first number end a b)))

pub fold-piece-le : (prefix : List ℕ) (numbers : Numbers) (end : ℕ) (names : List (List ℕ)) → numbers.first ≤ end → end ≤ numbers.last + 1 → length (fold with_name names (map (λ n. prefix ++ padded numbers.width n) (range_with_len numbers.first (end - numbers.first)))) ≤ length (fold with_name names (range_names prefix numbers))
unfolding range_names
fold-piece-le prefix numbers end names h k =
    let f : ℕ → List ℕ = λ n. prefix ++ padded numbers.width n in
    let front : List (List ℕ) = map f (range_with_len numbers.first (end - numbers.first)) in
    let rest : List (List ℕ) = map f (range_with_len end (numbers.last + 1 - end)) in
    let whole = ap length (ap (fold with_name names) (numbers_up_to f numbers.first end (numbers.last + 1) h k) ∙ fold-append with_name names front rest) in
    omega (arith, whole, length-fold-with_name rest (fold with_name names front))

pub fold-all : (prefix : List ℕ) (numbers : Numbers) (number : ℕ) (names : List (List ℕ)) → number ≡ numbers.last + 1 → fold with_name names (map (λ n. prefix ++ padded numbers.width n) (range_with_len numbers.first (number - numbers.first))) ≡ fold with_name names (range_names prefix numbers)
unfolding range_names
fold-all prefix numbers number names e = rw e refl
