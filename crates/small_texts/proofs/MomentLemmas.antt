-- What is printed of a moment is read as that moment.
use Rattle.std.proofs.Common.{◌≡◌, ◌==◌, ℕ, ◌+◌, ◌*◌, ◌/◌, ◌%◌, ◌<◌, ◌≤◌, ◌⊎◌, inl, inr, Bool, true, false, List, [], ◌∷◌, ◌++◌, length, Some, codes, refl, sym, ap, ◌∙◌, arith, lit≤, lit<}
use Rattle.std.proofs.lemmas.Bool.{cond-true, and_from, le-leb, ne_eqb, eq-eqb}
use Rattle.std.proofs.lemmas.Bool.Decides.{nat_tests}
use Rattle.std.proofs.lemmas.List.Elements.{All-append, All-cons, All-nil}
use Rattle.std.proofs.lemmas.List.{length-append}
use Rattle.std.proofs.lemmas.List.Splits.{slice_split_at, slice_split_none}
use Rattle.std.proofs.lemmas.Slice.Eq.{bytes_eq-Decides}
use Rattle.std.specs.Char.{digit_value, is_ascii_digit}
use Rattle.std.specs.List.{All}
use Rattle.std.specs.Str.{all_ascii_digits, bytes_eq}
use Rattle.std.specs.Str.Parse.{digits_value}
use Rattle.small_texts.specs.declared.civil.CivilDate.{CivilDate}
use Rattle.small_texts.specs.Civil.{day_number, date_after, IsDateAfter}
use Rattle.small_texts.specs.Digits.{two_digits}
use Rattle.small_texts.specs.Fields.{fields}
use Rattle.small_texts.specs.Moment.{number_of_width, day_of_date, seconds_of_clock, civil_moment, moment_of_parts, moment_of, date_text, clock_text, moment_text}
use Rattle.small_texts.proofs.CivilLemmas.{day_number-date_after, date_bounds}
use Rattle.small_texts.proofs.DigitsLemmas.{number_of_digits}

-- the byte doesn't stand in the text
abbrev Lacks : ℕ → List ℕ → Type 0
Lacks byte text = All (λ b. (b == byte) ≡ false) text

digit_apart : (byte d : ℕ) → d < 10 → (byte < 48) ⊎ (57 < byte) → ((48 + d) == byte) ≡ false
digit_apart byte d small (inl low) = ne_eqb (48 + d) byte (λ e. omega arith)
digit_apart byte d small (inr high) = ne_eqb (48 + d) byte (λ e. omega arith)

lacks_two : (byte n : ℕ) → n < 100 → (byte < 48) ⊎ (57 < byte) → Lacks byte (two_digits n)
lacks_two byte n small apart =
    All-cons (λ b. (b == byte) ≡ false) (48 + n / 10) ((48 + n % 10) ∷ []) (digit_apart byte (n / 10) (omega arith) apart)
    (All-cons (λ b. (b == byte) ≡ false) (48 + n % 10) [] (digit_apart byte (n % 10) (omega arith) apart)
    (All-nil (λ b. (b == byte) ≡ false)))

lacks_mark : (byte mark : ℕ) → (mark == byte) ≡ false → Lacks byte (mark ∷ [])
lacks_mark byte mark other = All-cons (λ b. (b == byte) ≡ false) mark [] other (All-nil (λ b. (b == byte) ≡ false))

both : (byte : ℕ) (xs ys : List ℕ) → Lacks byte xs → Lacks byte ys → Lacks byte (xs ++ ys)
both byte xs ys a b = All-append (λ b. (b == byte) ≡ false) xs ys a b

digit_is : (d : ℕ) → d < 10 → digit_value (48 + d) ≡ d
digit_is d small = grind (arith, nat_tests)

is_digit : (d : ℕ) → d < 10 → is_ascii_digit (48 + d) ≡ true
is_digit d small = grind (arith, nat_tests)

two_number : (greatest n : ℕ) → n < 100 → n ≤ greatest → number_of_width 2 greatest (two_digits n) ≡ Some n
unfolding number_of_width
two_number greatest n small low =
    let tens = digit_is (n / 10) (omega arith) in
    let units = digit_is (n % 10) (omega arith) in
    let value : digits_value 10 (two_digits n) ≡ n = omega (arith, tens, units) in
    let digits : all_ascii_digits (two_digits n) ≡ true =
    and_from _ _ (is_digit (n / 10) (omega arith)) (and_from _ _ (is_digit (n % 10) (omega arith)) refl) in
    sym (number_of_digits 2 greatest (two_digits n) (lit< tt) (lit≤ tt) digits (omega arith)) ∙ ap Some value

four_number : (n : ℕ) → n ≤ 9999 → number_of_width 4 9999 (two_digits (n / 100) ++ two_digits (n % 100)) ≡ Some n
unfolding number_of_width
four_number n low =
    let text = two_digits (n / 100) ++ two_digits (n % 100) in
    let a = digit_is (n / 100 / 10) (omega arith) in
    let b = digit_is (n / 100 % 10) (omega arith) in
    let c = digit_is (n % 100 / 10) (omega arith) in
    let d = digit_is (n % 100 % 10) (omega arith) in
    let value : digits_value 10 text ≡ n = omega (arith, a, b, c, d) in
    let digits : all_ascii_digits text ≡ true =
    and_from _ _ (is_digit (n / 100 / 10) (omega arith))
    (and_from _ _ (is_digit (n / 100 % 10) (omega arith))
    (and_from _ _ (is_digit (n % 100 / 10) (omega arith))
    (and_from _ _ (is_digit (n % 100 % 10) (omega arith)) refl))) in
    sym (number_of_digits 4 9999 text (lit< tt) (lit≤ tt) digits (omega arith)) ∙ ap Some value

-- texts that are joined at a byte that none of them has
one_field : (byte : ℕ) (a : List ℕ) → Lacks byte a → fields byte a ≡ a ∷ []
one_field byte a p = slice_split_none (λ b. b == byte) a p

two_fields : (byte : ℕ) (a b : List ℕ) → Lacks byte a → Lacks byte b → fields byte (a ++ byte ∷ b) ≡ a ∷ b ∷ []
two_fields byte a b p q =
    slice_split_at (λ x. x == byte) a byte b p (eq-eqb byte byte refl) ∙ ap (λ parts. a ∷ parts) (one_field byte b q)

three_fields : (byte : ℕ) (a b c : List ℕ) → Lacks byte a → Lacks byte b → Lacks byte c → fields byte (a ++ byte ∷ (b ++ byte ∷ c)) ≡ a ∷ b ∷ c ∷ []
three_fields byte a b c p q r =
    slice_split_at (λ x. x == byte) a byte (b ++ byte ∷ c) p (eq-eqb byte byte refl) ∙ ap (λ parts. a ∷ parts) (two_fields byte b c q r)

-- the definitions at texts of known numbers
date_of_parts : (year month day : List ℕ) (y m d days : ℕ) → number_of_width 4 9999 year ≡ Some y → number_of_width 2 12 month ≡ Some m → number_of_width 2 31 day ≡ Some d → day_number y m d ≡ Some days → day_of_date (year ∷ month ∷ day ∷ []) ≡ Some days
unfolding day_of_date
date_of_parts year month day y m d days a b c e = rw (a, b, c) e

clock_of_parts : (hours minutes seconds : List ℕ) (h m s : ℕ) → number_of_width 2 23 hours ≡ Some h → number_of_width 2 59 minutes ≡ Some m → number_of_width 2 59 seconds ≡ Some s → seconds_of_clock (hours ∷ minutes ∷ seconds ∷ []) ≡ Some (3600 * h + 60 * m + s)
unfolding seconds_of_clock
clock_of_parts hours minutes seconds h m s a b c = rw (a, b, c) refl

not_now : (text : List ℕ) → 3 < length text → bytes_eq text (codes "now") ≡ false
not_now text long = go _ refl
  where
    go : (b : Bool) → bytes_eq text (codes "now") ≡ b → b ≡ false
    go false e = refl
    go true e = absurd (omega (arith, ap length ((bytes_eq-Decides text (codes "now")).0 e)))

joined : (date clock : List ℕ) (days seconds now : ℕ) → Lacks 43 date → Lacks 43 clock → Lacks 84 date → Lacks 84 clock → 3 < length date → day_of_date (fields 45 date) ≡ Some days → seconds_of_clock (fields 58 clock) ≡ Some seconds → 86_400 * days + seconds ≤ 250_000_000_000 → moment_of (date ++ 84 ∷ clock) now ≡ Some (86_400 * days + seconds)
unfolding moment_of moment_of_parts civil_moment
joined date clock days seconds now a b c d long e f small =
    let text = date ++ 84 ∷ clock in
    let whole : fields 43 text ≡ text ∷ [] =
    one_field 43 text (both 43 date (84 ∷ clock) a (both 43 (84 ∷ []) clock (lacks_mark 43 84 refl) b)) in
    let parts : fields 84 text ≡ date ∷ clock ∷ [] = two_fields 84 date clock c d in
    let other : bytes_eq text (codes "now") ≡ false = not_now text (omega (arith, length-append date (84 ∷ clock))) in
    rw (whole, other, parts, e, f) (cond-true _ _ _ (le-leb _ _ small))

date_read : (date : CivilDate) (days : ℕ) → IsDateAfter days date → day_of_date (fields 45 (date_text date)) ≡ Some days
date_read date days found =
    let small = date_bounds days date found in
    let year = two_digits (date.year / 100) ++ two_digits (date.year % 100) in
    let cut = three_fields 45 year (two_digits date.month) (two_digits date.day)
    (both 45 (two_digits (date.year / 100)) (two_digits (date.year % 100)) (lacks_two 45 (date.year / 100) (omega arith) (inl (lit< tt))) (lacks_two 45 (date.year % 100) (omega arith) (inl (lit< tt))))
    (lacks_two 45 date.month (omega arith) (inl (lit< tt)))
    (lacks_two 45 date.day (omega arith) (inl (lit< tt))) in
    ap day_of_date cut
    ∙ date_of_parts year (two_digits date.month) (two_digits date.day) date.year date.month date.day days
    (four_number date.year small.0) (two_number 12 date.month (omega arith) small.1) (two_number 31 date.day (omega arith) small.2)
    (day_number-date_after days date found)

clock_read : (s : ℕ) → s < 86_400 → seconds_of_clock (fields 58 (clock_text s)) ≡ Some s
clock_read s small =
    let h = s / 3600 in
    let m = s / 60 % 60 in
    let cut = three_fields 58 (two_digits h) (two_digits m) (two_digits (s % 60))
    (lacks_two 58 h (omega arith) (inr (lit< tt))) (lacks_two 58 m (omega arith) (inr (lit< tt))) (lacks_two 58 (s % 60) (omega arith) (inr (lit< tt))) in
    let sum : 3600 * h + 60 * m + s % 60 ≡ s = omega arith in
    ap seconds_of_clock cut
    ∙ clock_of_parts (two_digits h) (two_digits m) (two_digits (s % 60)) h m (s % 60)
    (two_number 23 h (omega arith) (omega arith)) (two_number 59 m (omega arith) (omega arith)) (two_number 59 (s % 60) (omega arith) (omega arith))
    ∙ ap Some sum

lacks_date : (byte days : ℕ) (date : CivilDate) → IsDateAfter days date → (byte < 48) ⊎ (57 < byte) → (45 == byte) ≡ false → Lacks byte (date_text date)
lacks_date byte days date found apart other =
    let small = date_bounds days date found in
    let a = two_digits (date.year / 100) in
    let b = two_digits (date.year % 100) in
    let c = two_digits date.month in
    let d = two_digits date.day in
    let dash : List ℕ = 45 ∷ [] in
    let no_dash = lacks_mark byte 45 other in
    both byte (a ++ b ++ dash ++ c ++ dash) d
    (both byte (a ++ b ++ dash ++ c) dash
    (both byte (a ++ b ++ dash) c
    (both byte (a ++ b) dash
    (both byte a b (lacks_two byte (date.year / 100) (omega arith) apart) (lacks_two byte (date.year % 100) (omega arith) apart)) no_dash)
    (lacks_two byte date.month (omega arith) apart)) no_dash)
    (lacks_two byte date.day (omega arith) apart)

lacks_clock : (byte s : ℕ) → s < 86_400 → (byte < 48) ⊎ (57 < byte) → (58 == byte) ≡ false → Lacks byte (clock_text s)
lacks_clock byte s small apart other =
    let h = two_digits (s / 3600) in
    let m = two_digits (s / 60 % 60) in
    let colon : List ℕ = 58 ∷ [] in
    let no_colon = lacks_mark byte 58 other in
    both byte (h ++ colon ++ m ++ colon) (two_digits (s % 60))
    (both byte (h ++ colon ++ m) colon
    (both byte (h ++ colon) m
    (both byte h colon (lacks_two byte (s / 3600) (omega arith) apart) no_colon)
    (lacks_two byte (s / 60 % 60) (omega arith) apart)) no_colon)
    (lacks_two byte (s % 60) (omega arith) apart)

-- the text of a moment is read as this moment, whenever it is read
pub moment_read : (moment now : ℕ) → moment ≤ 250_000_000_000 → IsDateAfter (moment / 86_400) (date_after (moment / 86_400)) → moment_of (moment_text moment) now ≡ Some moment
unfolding moment_text
moment_read moment now small found =
    let days = moment / 86_400 in
    let s = moment % 86_400 in
    let short : s < 86_400 = omega arith in
    let date = date_after days in
    let sum : 86_400 * days + s ≡ moment = omega arith in
    joined (date_text date) (clock_text s) days s now
    (lacks_date 43 days date found (inl (lit< tt)) refl) (lacks_clock 43 s short (inl (lit< tt)) refl)
    (lacks_date 84 days date found (inr (lit< tt)) refl) (lacks_clock 84 s short (inr (lit< tt)) refl)
    (lit< tt) (date_read date days found) (clock_read s short) (omega arith)
    ∙ ap Some sum
