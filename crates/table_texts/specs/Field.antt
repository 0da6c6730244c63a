-- Fields of a fixed width.
use Rattle.std.specs.Prelude.{ℕ, ◌-◌, Bool, true, false, if◌then◌else◌, List, ◌++◌, length, take, replicate, codes}
use Rattle.std.specs.Str.{byte}

-- the blanks that a text lacks
abbrev pub padding : ℕ → List ℕ → List ℕ
padding width text = replicate (width - length text) (byte " ")

-- a text cut to its first `width` bytes and padded, on the left with the dot, else on the right
unfoldable pub field : ℕ → Bool → List ℕ → List ℕ
field width dot text =
    if dot then padding width (take width text) ++ take width text
    else take width text ++ padding width (take width text)

-- a field with the padding on the left, and the blank behind it
unfoldable pub cell : ℕ → List ℕ → List ℕ
cell width text = field width true text ++ codes " "

-- a field with the padding on the right, and the blank behind it
unfoldable pub left_cell : ℕ → List ℕ → List ℕ
left_cell width text = field width false text ++ codes " "
