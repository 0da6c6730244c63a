-- The header of a request is one line.
use Rattle.std.proofs.Common.{◌≡◌, ◌≢◌, ℕ, ◌≤◌, Bool, true, false, not, cond, ltb, ◌&&◌, Option, None, Some, List, ◌∷◌, length, subst, refl, arith, length-append}
use Rattle.std.proofs.lemmas.Bool.Decides.{nat_tests}
use Rattle.std.proofs.lemmas.List.{append-nil}
use Rattle.std.proofs.lemmas.List.Elements.{All-append, All-cons}
use Rattle.std.proofs.lemmas.List.Sums.{AllPass-from_list_all, fails_before_first}
use Rattle.std.specs.List.{position, position_or_len}
use Rattle.small_texts.specs.Name.{is_name, is_name_byte}
use Rattle.line_words.specs.Words.{earlier, first_bad, is_word_byte, open_place, quoted_words}
use Rattle.block_frame.specs.Frames.{IsFramedBlock}
use Rattle.slurm_client.specs.Requests.{FitsRequest, HasOneLine, header_of, request}

and_last : (a b : Bool) → a && b ≡ true → b ≡ true
and_last true b e = e
and_last false b e = absurd (cc)

name_byte_apart : (b : ℕ) → is_name_byte b ≡ true → b ≢ 10
name_byte_apart b is e = absurd (let h : false ≡ true = subst (λ n. is_name_byte n ≡ true) e is in cc)

word_byte_apart : (b : ℕ) → not (is_word_byte b) ≡ false → b ≢ 10
word_byte_apart b is e = absurd (let h : true ≡ false = subst (λ n. not (is_word_byte n) ≡ false) e is in cc)

pub name_has_one_line : (user : List ℕ) → is_name user ≡ true → HasOneLine user
unfolding is_name
name_has_one_line user is = λ k d within.
    name_byte_apart _ (AllPass-from_list_all is_name_byte user (and_last _ _ is) k d within)

earlier_none : (a b : Option ℕ) → earlier a b ≡ None → a ≡ None
earlier_none None b e = refl
earlier_none (Some a) None e = absurd (cc)
earlier_none (Some a) (Some b) e = absurd (cc)

none_chosen : (c : Bool) (n : ℕ) → cond c (Some n) None ≡ None → c ≡ false
none_chosen true n e = absurd (cc)
none_chosen false n e = refl

up_to : (a b : ℕ) → ltb a b ≡ false → b ≤ a
up_to a b e = grind (arith, nat_tests)

-- a line that is words has no LF
pub words_have_one_line : (line : List ℕ) → first_bad line ≡ None → HasOneLine line
unfolding first_bad
words_have_one_line line good =
    let bad = λ (b : ℕ). not (is_word_byte b) in
    let none : position bad line ≡ None = earlier_none (position bad line) (open_place line) good in
    let past = up_to (position_or_len bad line) (length line) (none_chosen _ _ none) in
    λ k d within. word_byte_apart _ (fails_before_first bad line k d (omega arith))

pub header_has_one_line : (user : List ℕ) (words : List (List ℕ)) → HasOneLine user → HasOneLine (quoted_words words)
    → HasOneLine (header_of user words)
header_has_one_line user words first last =
    All-append (λ b. b ≢ 10) user _ first (All-cons (λ b. b ≢ 10) 32 (quoted_words words) (λ e. absurd (cc)) last)

-- the request of such a header is a block
pub request_is_block : (user : List ℕ) (words : List (List ℕ)) (script : Option (List ℕ)) → HasOneLine (header_of user words)
    → FitsRequest user words script → IsFramedBlock (request user words script)
request_is_block user words None one fits = record {
  one_line = one;
  not_empty = simp length-append (omega arith);
  fits = let most = fits.header_fits in rw append-nil (omega arith);
}
request_is_block user words (Some bytes) one fits = record {
  one_line = one;
  not_empty = simp length-append (omega arith);
  fits = let most = fits.header_fits in let most' = fits.script_fits in omega (arith, length-append (header_of user words) (10 ∷ bytes));
}
