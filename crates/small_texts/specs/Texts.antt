-- How a text is kept. Of the proof alone: no public call speaks of it.
use Rattle.std.specs.Prelude.{ℕ, ◌≤◌, List, take}
use Rattle.small_texts.specs.declared.text.Kept.{Kept}
use Rattle.small_texts.specs.declared.text.Kept.TheVariants.{Here, Apart}

-- the bytes, wherever they lie
unfoldable pub bytes_of : Kept → List ℕ
bytes_of (Here count bytes) = take count bytes
bytes_of (Apart text) = text.value.items

-- as many bytes lie in place at the most
unfoldable pub IsKept : Kept → Type 0
IsKept (Here count bytes) = count ≤ 22
IsKept (Apart text) = Unit {0}
