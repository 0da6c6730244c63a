-- The lines of a text, cut at its first LF.
use Rattle.std.proofs.Common.{◌≡◌, ℕ, cond, List, [], ◌∷◌, ◌++◌, append_assoc, sym, ap, ◌∙◌, refl, ne_eqb}
use Rattle.std.specs.Prelude.{◌≢◌}
use Rattle.std.specs.Str.{byte}
use Rattle.std.proofs.lemmas.List.{append-nil, append_cancel_right}
use Rattle.std.proofs.lemmas.List.Elements.{All-head, All-tail}
use Rattle.session_talk.specs.Lines.{BeginsWithLine, HasOneLine, last_line, lines_behind, lines_of, without_return}

abbrev no_feed : ℕ → Type 0
no_feed b = b ≢ byte "\n"

-- a byte that is no LF goes to the line that was begun
one_within : (b : ℕ) (begun text : List ℕ) → no_feed b
    → lines_behind begun (b ∷ text) ≡ lines_behind (begun ++ b ∷ []) text
one_within b begun text other =
    ap (λ is. cond is (without_return begun ∷ lines_behind [] text) (lines_behind (begun ++ b ∷ []) text))
    (ne_eqb b (byte "\n") other)

-- and so do several
within : (begun raw text : List ℕ) → HasOneLine raw → lines_behind begun (raw ++ text) ≡ lines_behind (begun ++ raw) text
within begun [] text one = ap (λ l. lines_behind l text) (sym (append-nil begun))
within begun (b ∷ raw) text one =
    one_within b begun (raw ++ text) (All-head no_feed b raw one)
    ∙ within (begun ++ b ∷ []) raw text (All-tail no_feed b raw one)
    ∙ ap (λ l. lines_behind l text) (append_assoc begun (b ∷ []) raw)

pub first_of : (text line rest : List ℕ) → BeginsWithLine text line rest → lines_of text ≡ line ∷ lines_of rest
first_of text line rest begins =
    ap lines_of begins.cut
    ∙ within [] begins.raw (byte "\n" ∷ rest) begins.one_line
    ∙ ap (λ l. l ∷ lines_of rest) (sym begins.line_is)

some_line : (text : List ℕ) → text ≢ [] → last_line text ≡ without_return text ∷ []
some_line [] some = absurd (some refl)
some_line (b ∷ text) some = refl

pub last_of : (text line : List ℕ) → text ≢ [] → BeginsWithLine (text ++ byte "\n" ∷ []) line []
    → lines_of text ≡ line ∷ []
last_of text line some begins =
    let same : text ≡ begins.raw = append_cancel_right text begins.raw (byte "\n" ∷ []) begins.cut in
    let one : HasOneLine text = rw same begins.one_line in
    ap lines_of (sym (append-nil text))
    ∙ within [] text [] one
    ∙ some_line text some
    ∙ ap (λ l. without_return l ∷ []) same
    ∙ ap (λ l. l ∷ []) (sym begins.line_is)
