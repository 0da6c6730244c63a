-- Texts of people stay texts.
use Rattle.std.proofs.Common.{◌≡◌, ◌≢◌, ℕ, Bool, true, false, ◌&&◌, ◌==◌, not, nat_le, if◌then◌else◌, List, [], ◌∷◌, refl, All}
use Rattle.std.proofs.lemmas.Bool.{eqb-false, false≢true, leb-true}
use Rattle.std.proofs.lemmas.List.Elements.{All-append, All-cons, All-nil}
use Rattle.std.specs.Prelude.{codes}
use Rattle.replay_picture.specs.Escape.{escaped, escaped_byte}
use Rattle.replay_picture.specs.Laws.{IsHarmless, TextsStayTexts}

-- the same as a test
abbrev is_harmless : ℕ → Bool
is_harmless b =
    nat_le 32 b && (nat_le b 126 && (not (b == 60) && (not (b == 62) && (not (b == 34) && not (b == 39)))))

abbrev are_harmless : List ℕ → Bool
are_harmless [] = true
are_harmless (b ∷ text) = is_harmless b && are_harmless text

first_true : (a b : Bool) → (a && b) ≡ true → a ≡ true
first_true true b both = refl
first_true false b both = both

second_true : (a b : Bool) → (a && b) ≡ true → b ≡ true
second_true true b both = both
second_true false b both = absurd (false≢true both)

not_true : (test : Bool) → not test ≡ true → test ≡ false
not_true true is = absurd (false≢true is)
not_true false is = refl

differs : (a b : ℕ) → not (a == b) ≡ true → a ≢ b
differs a b is same = eqb-false a b (not_true (a == b) is) same

by_test : (b : ℕ) → is_harmless b ≡ true → IsHarmless b
by_test b is =
    let most = second_true (nat_le 32 b) _ is in
    let tag = second_true (nat_le b 126) _ most in
    let end = second_true (not (b == 60)) _ tag in
    let quote = second_true (not (b == 62)) _ end in
    record {
      least = leb-true 32 b (first_true (nat_le 32 b) _ is);
      most = leb-true b 126 (first_true (nat_le b 126) _ most);
      begins_no_tag = differs b 60 (first_true (not (b == 60)) _ tag);
      ends_no_tag = differs b 62 (first_true (not (b == 62)) _ end);
      quotes = differs b 34 (first_true (not (b == 34)) _ quote);
      apostrophes = differs b 39 (second_true (not (b == 34)) _ quote);
    }

all_by_test : (text : List ℕ) → are_harmless text ≡ true → All IsHarmless text
all_by_test [] is = All-nil IsHarmless
all_by_test (b ∷ text) is =
    All-cons IsHarmless b text (by_test b (first_true (is_harmless b) (are_harmless text) is))
    (all_by_test text (second_true (is_harmless b) (are_harmless text) is))

in_both : (test : Bool) (one other : List ℕ) → All IsHarmless one → (test ≡ false → All IsHarmless other)
    → All IsHarmless (if test then one else other)
in_both true one other all others = all
in_both false one other all others = others refl

and_more : (x y : Bool) → (x && y) ≡ true → (x && (y && true)) ≡ true
and_more true true both = refl
and_more true false both = both
and_more false y both = both

is_kept : (b : ℕ) → (b == 60) ≡ false → (b == 62) ≡ false → (b == 34) ≡ false → (b == 39) ≡ false
    → (nat_le 32 b && nat_le b 126) ≡ true → is_harmless b ≡ true
is_kept b tag end quote apostrophe printable =
    rw (tag, end, quote, apostrophe) (and_more (nat_le 32 b) (nat_le b 126) printable)

kept : (b : ℕ) (printable : Bool) → (printable ≡ true → is_harmless b ≡ true)
    → All IsHarmless (if printable then b ∷ [] else codes "?")
kept b true harmless = All-cons IsHarmless b [] (by_test b (harmless refl)) (All-nil IsHarmless)
kept b false harmless = all_by_test (codes "?") refl

of_byte : (b : ℕ) → All IsHarmless (escaped_byte b)
of_byte b =
    in_both (b == 38) (codes "&amp;") _ (all_by_test (codes "&amp;") refl) (λ _.
    in_both (b == 60) (codes "&lt;") _ (all_by_test (codes "&lt;") refl) (λ tag.
    in_both (b == 62) (codes "&gt;") _ (all_by_test (codes "&gt;") refl) (λ end.
    in_both (b == 34) (codes "&quot;") _ (all_by_test (codes "&quot;") refl) (λ quote.
    in_both (b == 39) (codes "&apos;") _ (all_by_test (codes "&apos;") refl) (λ apostrophe.
    kept b (nat_le 32 b && nat_le b 126) (is_kept b tag end quote apostrophe))))))

pub texts_stay_texts : TextsStayTexts
texts_stay_texts [] = All-nil IsHarmless
texts_stay_texts (b ∷ text) =
    All-append IsHarmless (escaped_byte b) (escaped text) (of_byte b) (texts_stay_texts text)
