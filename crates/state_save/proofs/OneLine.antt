-- One line of a text.
use Rattle.std.proofs.Common.{◌≡◌, ℕ, ◌==◌, Bool, true, false, not, List, [], ◌∷◌, ◌++◌, refl}
use Rattle.state_save.specs.Reading.{lines_of}
use Rattle.state_save.proofs.Bytes.{lacks, other_than, both_left, both_right}

not_true : (t : Bool) → not t ≡ true → t ≡ false
not_true true e = absurd (cc)
not_true false e = refl

pub lines_of-line : (body rest : List ℕ) → lacks 10 body ≡ true → lines_of (body ++ 10 ∷ rest) ≡ (body ++ 10 ∷ []) ∷ lines_of rest
lines_of-line [] rest lack = refl
lines_of-line (b ∷ body) rest lack =
    rw (not_true (b == 10) (both_left (other_than 10 b) (lacks 10 body) lack), lines_of-line body rest (both_right (other_than 10 b) (lacks 10 body) lack)) refl
