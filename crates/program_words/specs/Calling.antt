-- The words of a request, as they are taken.
use Rattle.std.specs.Prelude.{◌≡◌, ℕ, false, List, Option, Some, None}
use Rattle.std.specs.Borrow.{Bor}
use Rattle.line_words.specs.Words.{first_bad_word}
use Rattle.program_words.specs.Asked.{go_through}

-- a user and a port
abbrev pub address_of : Bor (List ℕ) × ℕ → List ℕ × ℕ
address_of address = (address.0.now, address.1)

-- these are the words, and each is good; or no request of them goes through
abbrev pub AreWords : List (List ℕ) → Option (List (List ℕ)) → Type 0
AreWords words None = (user : List ℕ) → go_through user words ≡ false
AreWords words (Some same) = (same ≡ words) × (first_bad_word words ≡ None)
