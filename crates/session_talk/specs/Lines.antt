-- The lines of an input, which comes in pieces.
use Rattle.std.specs.Prelude.{◌≡◌, ◌≢◌, ◌==◌, ◌-◌, ◌<◌, ℕ, Bool, true, false, if◌then◌else◌, List, [], ◌∷◌, ◌++◌, length, take, slice_get, unwrap_or, All, Option}
use Rattle.std.specs.Io.KnownBytes.{Consumes, IsAtEnd}
use Rattle.std.specs.Str.{byte}
use Rattle.slurm_io.specs.Faults.{CountsOne}
use Rattle.session_talk.specs.declared.lines.Brought.{Brought}
use Rattle.session_talk.specs.declared.lines.Brought.TheVariants as brought
use Rattle.session_talk.specs.declared.lines.Found.{Found}
use Rattle.session_talk.specs.declared.lines.Found.TheVariants.{Line, Last, End, TooLong, ReadFault, Memory}
use Rattle.session_talk.specs.declared.lines.TheConstants.{LONGEST_LINE}

-- a line without the CR at its end
abbrev pub without_return : List ℕ → List ℕ
without_return line =
    if unwrap_or (slice_get line (length line - 1)) 0 == 13 then take (length line - 1) line else line

-- the line that was begun, where there is one
abbrev pub last_line : List ℕ → List (List ℕ)
last_line [] = []
last_line (b ∷ begun) = without_return (b ∷ begun) ∷ []

-- the lines of what is left of a text, behind the beginning of one
abbrev pub lines_behind : List ℕ → List ℕ → List (List ℕ)
lines_behind begun [] = last_line begun
lines_behind begun (b ∷ text) =
    if b == byte "\n" then without_return begun ∷ lines_behind [] text else lines_behind (begun ++ b ∷ []) text

-- The lines of a text: each without the LF that ends it and a CR before that. The last one may lack its LF.
abbrev pub lines_of : List ℕ → List (List ℕ)
lines_of text = lines_behind [] text

-- no LF is in a text
abbrev pub HasOneLine : List ℕ → Type 0
HasOneLine text = All (λ b. b ≢ byte "\n") text

-- A text begins with a line, which an LF ends, and this follows.
pub record BeginsWithLine (text line rest : List ℕ) : Type 0 where
  pub raw : List ℕ
  pub one_line : HasOneLine raw
  pub cut : text ≡ raw ++ byte "\n" ∷ rest
  pub line_is : line ≡ without_return raw

-- What was pending is moved behind the beginning of a line: up to its LF, which goes, where there is one.
abbrev pub IsCut : List ℕ → List ℕ → List ℕ → List ℕ → Bool → Type 0
IsCut pending pending' line line' true =
    (front : List ℕ) × HasOneLine front × (pending ≡ front ++ byte "\n" ∷ pending') × (line' ≡ line ++ front)
IsCut pending pending' line line' false =
    HasOneLine pending × (pending' ≡ []) × (line' ≡ line ++ pending)

-- One read, behind the beginning of a line, with nothing pending: the line is whole then, or goes on; or the input has
-- ended, or the read failed, or memory was wanting.
abbrev pub IsBrought : Option (List ℕ) → Option (List ℕ) → ℕ → ℕ → List ℕ → List ℕ → List ℕ → Brought → Type 0
IsBrought old new before after pending' line line' brought.Whole =
    ((read : List ℕ) × Consumes old new read × IsCut read pending' line line' true) × (after ≡ before)
IsBrought old new before after pending' line line' brought.More =
    ((read : List ℕ) × Consumes old new read × (0 < length read) × IsCut read pending' line line' false)
    × (after ≡ before)
IsBrought old new before after pending' line line' brought.End =
    Consumes old new [] × IsAtEnd new × (pending' ≡ []) × (line' ≡ line) × (after ≡ before)
IsBrought old new before after pending' line line' brought.ReadFault =
    Consumes old new [] × CountsOne before after
IsBrought old new before after pending' line line' brought.Memory =
    ((read : List ℕ) × Consumes old new read) × (after ≡ before)

-- The next line of what is pending and what is read then; how many reads failed before and after.
abbrev pub IsFound : Option (List ℕ) → Option (List ℕ) → ℕ → ℕ → List ℕ → List ℕ → Found → Type 0
IsFound old new before after pending pending' (Line line) =
    ((read : List ℕ) × Consumes old new read × BeginsWithLine (pending ++ read) line.items pending')
    × (after ≡ before)
-- the input ended within a line, which is read as if it had its LF
IsFound old new before after pending pending' (Last line) =
    ((read : List ℕ) × Consumes old new read × (pending ++ read ≢ [])
    × BeginsWithLine (pending ++ read ++ byte "\n" ∷ []) line.items [])
    × IsAtEnd new × (pending' ≡ []) × (after ≡ before)
-- the input ended on a line's end
IsFound old new before after pending pending' End =
    Consumes old new [] × IsAtEnd new × (pending ≡ []) × (pending' ≡ []) × (after ≡ before)
-- a line has more bytes than one may have
IsFound old new before after pending pending' TooLong =
    ((read : List ℕ) × Consumes old new read × HasOneLine (pending ++ read)
    × (LONGEST_LINE < length (pending ++ read))) × (after ≡ before)
IsFound old new before after pending pending' ReadFault =
    ((read : List ℕ) × Consumes old new read) × CountsOne before after
IsFound old new before after pending pending' Memory =
    ((read : List ℕ) × Consumes old new read) × (after ≡ before)
