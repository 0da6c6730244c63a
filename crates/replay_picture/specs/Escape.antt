-- Texts of people within XML.
use Rattle.std.specs.Prelude.{ℕ, ◌==◌, ◌&&◌, nat_le, if◌then◌else◌, List, [], ◌∷◌, flat_map, codes}
use Rattle.std.specs.Str.{byte}

-- a byte that has an entity is written by it, and one that isn't printable ASCII by a question mark
abbrev pub escaped_byte : ℕ → List ℕ
escaped_byte b =
    if b == byte "&" then codes "&amp;"
    else (if b == byte "<" then codes "&lt;"
    else (if b == byte ">" then codes "&gt;"
    else (if b == byte "\"" then codes "&quot;"
    else (if b == byte "'" then codes "&apos;"
    else (if nat_le (byte " ") b && nat_le b (byte "~") then b ∷ [] else codes "?")))))

abbrev pub escaped : List ℕ → List ℕ
escaped text = flat_map escaped_byte text
