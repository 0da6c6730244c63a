-- Where the first LF of a text stands, and what is cut off there.
use Rattle.std.proofs.Common.{◌≡◌, ℕ, ◌+◌, ◌<◌, ◌≤◌, Bool, true, false, cond, nat_lt, Some, None, List, ◌∷◌, ◌++◌, length, take, drop, arith, sym, ap, subst, ◌∙◌, refl}
use Rattle.std.specs.Prelude.{position}
use Rattle.std.specs.List.{position_or_len}
use Rattle.std.proofs.lemmas.Bool.{eqb-true, eqb-false}
use Rattle.std.proofs.lemmas.Bool.Decides.{nat_tests}
use Rattle.std.proofs.lemmas.List.{get_or-take, length-take, take_all, drop_all}
use Rattle.std.proofs.lemmas.List.Sums.{fails_before_first, passes_at_first, split_at_first, prefix_len-le-length}
use Rattle.block_frame.specs.LineFeeds.{is_line_feed}
use Rattle.session_talk.specs.Lines.{HasOneLine, IsCut}

-- the length of the first line
abbrev pub len_of : List ℕ → ℕ
len_of text = position_or_len is_line_feed text

pub len_fits : (text : List ℕ) → len_of text ≤ length text
len_fits text = prefix_len-le-length _ text

of_some : (b : Bool) (n place : ℕ) → Some place ≡ cond b (Some n) None → place ≡ n
of_some true n place e = cc
of_some false n place e = absurd (cc)

of_none : (b : Bool) (n : ℕ) → None ≡ cond b (Some n) None → b ≡ false
of_none true n e = absurd (cc)
of_none false n e = refl

not_below : (a b : ℕ) → nat_lt a b ≡ false → b ≤ a
not_below a b e = grind (arith, nat_tests)

same : (a b : ℕ) → a ≤ b → b ≤ a → b ≡ a
same a b few many = omega arith

-- an LF was found at the first line's end
pub len_found : (text : List ℕ) (place : ℕ) → Some place ≡ position is_line_feed text → place ≡ len_of text
len_found text place e = of_some (nat_lt (len_of text) (length text)) (len_of text) place e

-- none was found, and the line is the whole text
pub len_open : (text : List ℕ) → None ≡ position is_line_feed text → length text ≡ len_of text
len_open text e =
    same (len_of text) (length text) (len_fits text)
    (not_below (len_of text) (length text) (of_none (nat_lt (len_of text) (length text)) (len_of text) e))

-- the first line has no LF
pub first_line : (text : List ℕ) → HasOneLine (take (len_of text) text)
first_line text k d l e =
    let before : k < len_of text = omega (arith, length-take (len_of text) text) in
    eqb-false _ 10 (fails_before_first is_line_feed text k d before) (sym (get_or-take (len_of text) text k d before) ∙ e)

-- the first line that is ended, its LF, and what follows
pub ended_line : (text : List ℕ) → len_of text < length text
    → text ≡ take (len_of text) text ++ 10 ∷ drop (len_of text + 1) text
ended_line text l =
    split_at_first is_line_feed text 0 l
    ∙ ap (λ byte. take (len_of text) text ++ byte ∷ drop (len_of text + 1) text)
    (eqb-true _ 10 (passes_at_first is_line_feed text 0 l))

-- a line was cut off
pub cut_whole : (text line rest longer : List ℕ) (len : ℕ) → len ≡ len_of text → len < length text
    → rest ≡ drop (len + 1) text → longer ≡ line ++ take len text → IsCut text rest line longer true
cut_whole text line rest longer len is within rest_is longer_is =
    let at : len_of text < length text = omega (arith, is) in (
      take (len_of text) text,
      first_line text,
      ended_line text at
          ∙ ap (λ r. take (len_of text) text ++ 10 ∷ r) (sym (rest_is ∙ ap (λ n. drop (n + 1) text) is)),
      longer_is ∙ ap (λ n. line ++ take n text) is,
    )

-- all of a text was taken, which has no LF
pub cut_open : (text line rest longer : List ℕ) (len : ℕ) → len ≡ len_of text → length text ≤ len
    → rest ≡ drop len text → longer ≡ line ++ take len text → IsCut text rest line longer false
cut_open text line rest longer len is all rest_is longer_is =
    let long : length text ≤ len_of text = omega (arith, is) in (
      subst HasOneLine (take_all (len_of text) text long) (first_line text),
      rest_is ∙ drop_all len text all,
      longer_is ∙ ap (λ l. line ++ l) (take_all len text all),
    )
