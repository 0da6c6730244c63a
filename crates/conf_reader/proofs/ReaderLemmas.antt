-- The lines of a file, one after the other.
use Rattle.std.proofs.Common.{ℕ, ◌≡◌, List, ◌∷◌, Ok, Err, Result, IfOk, Bool, true, false, None, refl}
use Rattle.std.specs.Str.{IsUtf8, is_utf8}
use Rattle.std.proofs.lemmas.Str.{IsUtf8-from_is_utf8, is_utf8-from_IsUtf8}
use Rattle.conf_reader.specs.Lines.{NumberedLine, lines_of_rest}
use Rattle.conf_reader.specs.Reader.{after_line, after_lines}
use Rattle.conf_reader.specs.declared.draft.Draft.{Draft}
use Rattle.text_values.specs.declared.conf_refusal.ConfKind.{ConfKind}
use Rattle.text_values.specs.declared.conf_refusal.ConfRefusal.TheVariants.{At}

pub line_more : (draft next : Draft) (number : ℕ) (text : List ℕ) (here lines : List NumberedLine) → here ≡ record { number = number; text = text } ∷ lines → after_line draft number text ≡ Ok next → after_lines draft here ≡ after_lines next lines
line_more draft next number text here lines cut good = rw (cut, good) refl

pub line_bad : (draft : Draft) (number : ℕ) (text : List ℕ) (here lines : List NumberedLine) (kind : ConfKind) → here ≡ record { number = number; text = text } ∷ lines → after_line draft number text ≡ Err kind → after_lines draft here ≡ Err (At number kind)
line_bad draft number text here lines kind cut bad = rw (cut, bad) refl

pub no_lines : (draft : Draft) (number : ℕ) → after_lines draft (lines_of_rest number None) ≡ Ok draft
unfolding lines_of_rest
no_lines draft number = refl

-- whether bytes are UTF-8
pub good_text : (bytes : List ℕ) → IsUtf8 bytes → is_utf8 bytes ≡ true
good_text bytes good = is_utf8-from_IsUtf8 bytes good

pub bad_text : (bytes : List ℕ) → ¬ (IsUtf8 bytes) → is_utf8 bytes ≡ false
bad_text bytes bad = by_test (is_utf8 bytes) refl where
  by_test : (t : Bool) → is_utf8 bytes ≡ t → is_utf8 bytes ≡ false
  by_test true e = absurd (bad (IsUtf8-from_is_utf8 bytes e))
  by_test false e = e

pub if_ok : {X E : Type 0} (r : Result X E) (P Q : X → Type 0) → ((x : X) → P x → Q x) → IfOk r P → IfOk r Q
if_ok (Ok x) P Q so h = so x h
if_ok (Err e) P Q so h = h
