-- The word that names a server, read.
use Rattle.std.specs.Prelude.{ℕ, ◌+◌, ◌==◌, List, take, drop, codes, nat_eq, position, if◌then◌else◌, Option, Some, None, option_and_then}
use Rattle.std.specs.List.{starts_with}
use Rattle.small_texts.specs.Digits.{number_within}
use Rattle.small_texts.specs.Name.{is_name}
use Rattle.slurm_client.specs.Address.{is_sign}

-- a number from 1 on
abbrev pub positive : Option ℕ → Option ℕ
positive None = None
positive (Some number) = if number == 0 then None else Some number

abbrev pub with_user : List ℕ → Option ℕ → Option (List ℕ × ℕ)
with_user user None = None
with_user user (Some port) = Some (user, port)

-- the user before the `@`, and the port behind it
abbrev pub parts_at : List ℕ → ℕ → Option (List ℕ × ℕ)
parts_at text at =
    if is_name (take at text) then with_user (take at text) (positive (number_within 5 65535 (drop (at + 1) text))) else None

-- the user and the port of `USER@PORT`
abbrev pub user_and_port : List ℕ → Option (List ℕ × ℕ)
user_and_port text = option_and_then (parts_at text) (position is_sign text)

-- the user and the port of the word `--ctld=USER@PORT`; there are none of another word
unfoldable pub server_in : List ℕ → Option (List ℕ × ℕ)
server_in word = if starts_with nat_eq word (codes "--ctld=") then user_and_port (drop 7 word) else None
