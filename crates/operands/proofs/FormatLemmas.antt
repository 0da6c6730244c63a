-- The pieces of a format, read from the left.
use Rattle.std.proofs.Common.{Bool, true, false, ℕ, ◌≡◌, List, [], ◌∷◌, ◌++◌, Option, Some, None, option_map, refl, ap, append_assoc}
use Rattle.std.proofs.lemmas.List.{append-nil}
use Rattle.request_data.specs.declared.query.Piece.{Piece}
use Rattle.std.specs.Option.{IsSome}
use Rattle.small_texts.specs.Digits.{number_within}
use Rattle.operands.specs.Format.{column_of, width_of, column_by, part_in, pieces_of, format_in, usual_text}

-- what the parts give, behind what was read before
abbrev pub behind : List Piece → List (List ℕ) → Option (List Piece)
behind pieces parts = option_map (λ later. pieces ++ later) (pieces_of parts)

by_more : (pieces : List Piece) (column : Piece) (bytes : List Piece) (later : Option (List Piece))
    → option_map (λ more. pieces ++ more) (option_map (λ more. (column ∷ bytes) ++ more) later)
    ≡ option_map (λ more. ((pieces ++ column ∷ []) ++ bytes) ++ more) later
by_more pieces column bytes None = refl
by_more pieces column bytes (Some later) = ap Some (simp append_assoc)

pub behind-end : (pieces : List Piece) → behind pieces [] ≡ Some pieces
behind-end pieces = ap Some (append-nil pieces)

pub behind-more : (pieces : List Piece) (part : List ℕ) (parts : List (List ℕ)) (column : Piece) (bytes : List Piece)
    → part_in part ≡ Some (column ∷ bytes)
    → behind pieces (part ∷ parts) ≡ behind ((pieces ++ column ∷ []) ++ bytes) parts
behind-more pieces part parts column bytes e = rw e (by_more pieces column bytes (pieces_of parts))

pub behind-bad : (pieces : List Piece) (part : List ℕ) (parts : List (List ℕ))
    → part_in part ≡ None → behind pieces (part ∷ parts) ≡ None
behind-bad pieces part parts e = rw e refl

pub ruleset piece_steps = (behind-end, behind-more, behind-bad)

-- the usual texts are formats
pub usual-good : (starts : Bool) → IsSome (format_in (usual_text starts))
unfolding number_within column_of width_of column_by part_in format_in
usual-good true = refl
usual-good false = refl
