-- How long the text of a saved state may be.
use Rattle.std.specs.Prelude.{ℕ}

-- in bytes
unfoldable pub longest_text : ℕ
longest_text = 268435456
