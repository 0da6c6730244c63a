-- The form of a line, which begins with a word, a dash and a name in single quotes.
use Rattle.std.specs.Prelude.{ℕ, Bool, true, ◌==◌, nat_lt, if◌then◌else◌, List, [], ◌∷◌, Option, Some, None}
use Rattle.std.specs.List.{list_all}
use Rattle.std.specs.Str.{byte}
use Rattle.small_texts.specs.Name.{is_name}
use Rattle.small_texts.specs.Options.{◌>>=◌}
use Rattle.assoc_reader.specs.Cuts.{cut_at}
use Rattle.assoc_reader.specs.Keys.{line_kind}
use Rattle.assoc_reader.specs.declared.keys.LineKind.{LineKind}
use Rattle.assoc_reader.specs.declared.lines.LineForm.{LineForm}

-- an empty line and a comment, which begins with `#`, say nothing, whatever their bytes
abbrev pub is_skipped : List ℕ → Bool
is_skipped [] = true
is_skipped (b ∷ text) = b == byte "#"

-- bytes of ASCII are below 128
abbrev pub is_ascii : List ℕ → Bool
is_ascii text = list_all (λ b. nat_lt b 128) text

-- what a line speaks of, its name, and what follows the quote behind the name
pub record Form : Type 0 where
  pub kind : LineKind
  pub name : List ℕ
  pub rest : List ℕ

-- the form of a line
unfoldable pub form_in : List ℕ → Option Form
form_in text = do
  beginning ← cut_at (byte "'") text
  kind ← line_kind beginning.0
  quoted ← cut_at (byte "'") beginning.1
  if is_name quoted.0 then Some (record { kind = kind; name = quoted.0; rest = quoted.1 }) else None

-- the form that the reader gives
abbrev pub form_of : LineForm → Form
form_of form = record { kind = form.kind; name = form.name.now; rest = form.rest.now }
