-- The word that names a server.
use Rattle.std.specs.Prelude.{◌≡◌, ◌==◌, ℕ, ◌<◌, Bool, List, ◌∷◌, ◌++◌, Some, IsTrue, codes}
use Rattle.std.specs.Str.{byte}
use Rattle.small_texts.specs.Digits.{number_within}
use Rattle.small_texts.specs.Name.{is_name}

abbrev pub is_sign : ℕ → Bool
is_sign b = b == byte "@"

-- a word names a server: `--ctld=`, a user, `@`, and a port, which is a number above 0 in one to five digits
pub record IsAddress (word user : List ℕ) (port : ℕ) : Type 0 where
  pub digits : List ℕ
  pub cut : word ≡ codes "--ctld=" ++ user ++ byte "@" ∷ digits
  pub is_user : IsTrue (is_name user)
  pub is_port : number_within 5 65535 digits ≡ Some port
  pub above : 0 < port
