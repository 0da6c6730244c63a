-- The first line of a text, cut off, and the logical lines that go on with what follows it.
use Rattle.std.proofs.Common.{ℕ, ◌≡◌, ◌==◌, ◌+◌, ◌<◌, ◌++◌, List, [], ◌∷◌, length, Option, Some, None, true, false, refl, ap, sym, ◌∙◌, arith, append_assoc}
use Rattle.std.proofs.lemmas.List.Splits.{length-slice_split, join_with_byte-slice_split}
use Rattle.std.specs.List.{join_with_byte}
use Rattle.small_texts.specs.Fields.{fields, fields_of_rest}
use Rattle.conf_reader.specs.Lines.{NumberedLine, ends_with, without_last, without_return, without_returns, joined, logical_from, lines_of_rest}

more_lines : (line : List ℕ) (lines : List (List ℕ)) → 0 < length lines → without_returns (line ∷ lines) ≡ without_return line ∷ without_returns lines
more_lines line [] some = absurd (omega arith)
more_lines line (next ∷ lines) some = refl

-- a line with a line feed behind it
pub first_of_more : (text line rest : List ℕ) → fields 10 text ≡ line ∷ fields 10 rest → without_returns (fields 10 text) ≡ without_return line ∷ without_returns (fields 10 rest)
first_of_more text line rest cut =
    ap without_returns cut ∙ more_lines line (fields 10 rest) (omega (arith, length-slice_split (λ b. b == 10) rest))

-- the last line
pub last_line : (text line : List ℕ) → fields 10 text ≡ line ∷ [] → without_returns (fields 10 text) ≡ line ∷ []
last_line text line cut = ap without_returns cut

pub last_len : (text line : List ℕ) → fields 10 text ≡ line ∷ [] → length line ≡ length text
last_len text line cut = ap length (sym (ap (join_with_byte 10) cut) ∙ join_with_byte-slice_split 10 text)

-- two pieces of a line
pub joined-joined : (number next : ℕ) (a b : List ℕ) (lines : List NumberedLine) → joined number a (joined next b lines) ≡ joined number (a ++ b) lines
joined-joined number next a b [] = refl
joined-joined number next a b (line ∷ lines) = ap (λ (t : List ℕ). record { number = number; text = t } ∷ lines) (sym (append_assoc a b line.text))

-- a piece, and the next line of the file
pub joined-piece : (number next : ℕ) (piece line : List ℕ) (lines : List (List ℕ)) → ends_with 92 line ≡ true → joined number piece (logical_from next (line ∷ lines)) ≡ joined number (piece ++ without_last line) (logical_from (next + 1) lines)
joined-piece number next piece line lines e = rw e (joined-joined number next piece (without_last line) (logical_from (next + 1) lines))

pub joined-last : (number next : ℕ) (piece line : List ℕ) (lines : List (List ℕ)) → ends_with 92 line ≡ false → joined number piece (logical_from next (line ∷ lines)) ≡ record { number = number; text = piece ++ line } ∷ logical_from (next + 1) lines
joined-last number next piece line lines e = rw e refl

-- the same of a file that is cut
pub join_more : (number taken : ℕ) (piece text line : List ℕ) (behind : Option (List ℕ)) → without_returns (fields 10 text) ≡ line ∷ without_returns (fields_of_rest 10 behind) → ends_with 92 line ≡ true → joined number piece (lines_of_rest (number + taken) (Some text)) ≡ joined number (piece ++ without_last line) (lines_of_rest (number + (taken + 1)) behind)
unfolding lines_of_rest
join_more number taken piece text line behind cut e =
    let next : number + taken + 1 ≡ number + (taken + 1) = omega arith in
    ap (λ (lines : List (List ℕ)). joined number piece (logical_from (number + taken) lines)) cut
    ∙ (joined-piece number (number + taken) piece line (without_returns (fields_of_rest 10 behind)) e
    ∙ ap (λ (n : ℕ). joined number (piece ++ without_last line) (logical_from n (without_returns (fields_of_rest 10 behind)))) next)

pub join_last : (number taken : ℕ) (piece text line : List ℕ) (behind : Option (List ℕ)) → without_returns (fields 10 text) ≡ line ∷ without_returns (fields_of_rest 10 behind) → ends_with 92 line ≡ false → joined number piece (lines_of_rest (number + taken) (Some text)) ≡ record { number = number; text = piece ++ line } ∷ lines_of_rest (number + (taken + 1)) behind
unfolding lines_of_rest
join_last number taken piece text line behind cut e =
    let next : number + taken + 1 ≡ number + (taken + 1) = omega arith in
    ap (λ (lines : List (List ℕ)). joined number piece (logical_from (number + taken) lines)) cut
    ∙ (joined-last number (number + taken) piece line (without_returns (fields_of_rest 10 behind)) e
    ∙ ap (λ (n : ℕ). record { number = number; text = piece ++ line } ∷ logical_from n (without_returns (fields_of_rest 10 behind))) next)

pub join_end : (number taken : ℕ) (piece : List ℕ) → joined number piece (lines_of_rest (number + taken) None) ≡ record { number = number; text = piece } ∷ lines_of_rest (number + taken) None
unfolding lines_of_rest
join_end number taken piece = refl

-- the first line of a text, where no other is joined with it
pub whole_line : (number : ℕ) (text line : List ℕ) (behind : Option (List ℕ)) → without_returns (fields 10 text) ≡ line ∷ without_returns (fields_of_rest 10 behind) → ends_with 92 line ≡ false → lines_of_rest number (Some text) ≡ record { number = number; text = line } ∷ lines_of_rest (number + 1) behind
unfolding lines_of_rest
whole_line number text line behind cut e = ap (logical_from number) cut ∙ rw e refl

pub piece_of_line : (number : ℕ) (text line : List ℕ) (behind : Option (List ℕ)) → without_returns (fields 10 text) ≡ line ∷ without_returns (fields_of_rest 10 behind) → ends_with 92 line ≡ true → lines_of_rest number (Some text) ≡ joined number (without_last line) (lines_of_rest (number + 1) behind)
unfolding lines_of_rest
piece_of_line number text line behind cut e = ap (logical_from number) cut ∙ rw e refl
