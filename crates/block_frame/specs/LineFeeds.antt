-- The byte that ends a line.
use Rattle.std.specs.Prelude.{◌==◌, ℕ, Bool}
use Rattle.std.specs.Str.{byte}

abbrev pub is_line_feed : ℕ → Bool
is_line_feed b = b == byte "\n"
