-- How a name is kept in place.
use Rattle.std.specs.Prelude.{ℕ, ◌-◌, List, ◌++◌, length, replicate}

-- the text, and zeros up to 64 bytes
unfoldable pub padded : List ℕ → List ℕ
padded text = text ++ replicate (64 - length text) 0
