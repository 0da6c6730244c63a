-- A line that grows as an input is read.
use Rattle.std.proofs.Common.{◌≡◌, ℕ, Option, true, List, [], ◌∷◌, ◌++◌, append_assoc, sym, ap, subst, ◌∙◌, refl}
use Rattle.std.specs.Prelude.{◌≢◌}
use Rattle.std.specs.Str.{byte}
use Rattle.std.specs.Io.KnownBytes.{Consumes}
use Rattle.std.proofs.KnownBytes.{Consumes-trans}
use Rattle.std.proofs.lemmas.List.{append-nil}
use Rattle.std.proofs.lemmas.List.Elements.{All-append, All-same}
use Rattle.session_talk.specs.Lines.{BeginsWithLine, HasOneLine, IsCut, without_return}

-- what was read is the line so far, behind what was pending
abbrev pub HasRead : Option (List ℕ) → Option (List ℕ) → List ℕ → List ℕ → Type 0
HasRead old new pending line = (read : List ℕ) × Consumes old new read × (pending ++ read ≡ line)

abbrev pub no_feed : ℕ → Type 0
no_feed b = b ≢ byte "\n"

-- more was read
pub read_more : (old mid new : Option (List ℕ)) (pending line more line' : List ℕ) → HasRead old mid pending line
    → Consumes mid new more → line' ≡ line ++ more → HasRead old new pending line'
read_more old mid new pending line more line' (read, consumed, is) behind line_is = (
  read ++ more,
  Consumes-trans old mid new read more consumed behind,
  sym (append_assoc pending read more) ∙ ap (λ l. l ++ more) is ∙ sym line_is,
)

-- without an LF, so that the line has none yet
pub one_line : (line more line' : List ℕ) → HasOneLine line → HasOneLine more → line' ≡ line ++ more → HasOneLine line'
one_line line more line' front back is =
    All-same no_feed line' (line ++ more) is (All-append no_feed line more front back)

-- more was read, up to an LF
pub whole_line : (old mid new : Option (List ℕ)) (pending line line' rest whole : List ℕ) → HasRead old mid pending line
    → HasOneLine line → ((read : List ℕ) × Consumes mid new read × IsCut read rest line line' true)
    → whole ≡ without_return line'
    → (read : List ℕ) × Consumes old new read × BeginsWithLine (pending ++ read) whole rest
whole_line old mid new pending line line' rest whole (read, consumed, is) one
    (more, behind, (front, one_front, more_is, line_is)) whole_is = (
      read ++ more,
      Consumes-trans old mid new read more consumed behind,
      record {
        raw = line';
        one_line = one_line line front line' one one_front line_is;
        cut =
            sym (append_assoc pending read more) ∙ ap (λ l. l ++ more) is ∙ ap (λ m. line ++ m) more_is
            ∙ sym (append_assoc line front (byte "\n" ∷ rest)) ∙ ap (λ l. l ++ byte "\n" ∷ rest) (sym line_is);
        line_is = whole_is;
      },
    )

front_nil : (a b : List ℕ) → a ++ b ≡ [] → a ≡ []
front_nil [] b e = refl
front_nil (x ∷ a) b e = absurd (cc)

back_nil : (a b : List ℕ) → a ++ b ≡ [] → b ≡ []
back_nil [] b e = e
back_nil (x ∷ a) b e = absurd (cc)

-- nothing more was read
kept : (old mid new : Option (List ℕ)) (read : List ℕ) → Consumes old mid read → Consumes mid new []
    → Consumes old new read
kept old mid new read consumed behind =
    subst (Consumes old new) (append-nil read) (Consumes-trans old mid new read [] consumed behind)

-- nothing was pending, and nothing was read
pub none_read : (old mid new : Option (List ℕ)) (pending line : List ℕ) → HasRead old mid pending line
    → line ≡ [] → Consumes mid new [] → Consumes old new [] × (pending ≡ [])
none_read old mid new pending line (read, consumed, is) none behind = (
  subst (Consumes old new) (back_nil pending read (is ∙ none)) (kept old mid new read consumed behind),
  front_nil pending read (is ∙ none),
)

-- the input ended within the line
pub last_line : (old mid new : Option (List ℕ)) (pending line whole : List ℕ) → HasRead old mid pending line
    → HasOneLine line → Consumes mid new [] → whole ≡ without_return line
    → (read : List ℕ) × Consumes old new read × BeginsWithLine (pending ++ read ++ byte "\n" ∷ []) whole []
last_line old mid new pending line whole (read, consumed, is) one behind whole_is = (
  read,
  kept old mid new read consumed behind,
  record {
    raw = line;
    one_line = one;
    cut = ap (λ l. l ++ byte "\n" ∷ []) is;
    line_is = whole_is;
  },
)

pub some_read : (old mid new : Option (List ℕ)) (pending line : List ℕ) → HasRead old mid pending line
    → ((read : List ℕ) × Consumes mid new read) → (read : List ℕ) × Consumes old new read
some_read old mid new pending line (read, consumed, is) (more, behind) =
    (read ++ more, Consumes-trans old mid new read more consumed behind)
