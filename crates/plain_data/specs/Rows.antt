-- Rows of bits, and the numbers that they stand for.
use Rattle.std.specs.Prelude.{ℕ, ◌/◌, ◌%◌, Bool, not, nat_eq, List, filter, slice_index}
use Rattle.std.specs.Int.{bit_at}
use Rattle.std.specs.List.{list_any, range_with_len}

-- the bit of the number is set
abbrev pub is_set : List ℕ → ℕ → Bool
is_set words number = nat_eq (bit_at (slice_index words (number / 64)) (number % 64)) 1

-- how many numbers a row has bits for
unfoldable pub row_width : ℕ
row_width = 1024

-- the numbers whose bits are set, from the least on
unfoldable pub ids_of : List ℕ → List ℕ
ids_of words = filter (is_set words) (range_with_len 0 row_width)

-- the number is among them
abbrev pub has_id : List ℕ → ℕ → Bool
has_id ids number = list_any (λ id. nat_eq id number) ids

-- the numbers below a bound that aren't among them, from the least on
unfoldable pub others_below : ℕ → List ℕ → List ℕ
others_below bound ids = filter (λ number. not (has_id ids number)) (range_with_len 0 bound)
