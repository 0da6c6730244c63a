-- The words that begin lines, and the keys of options.
use Rattle.std.specs.Prelude.{ℕ, Bool, if◌then◌else◌, List, Option, map, option_map, find, bytes_eq}
use Rattle.assoc_reader.specs.declared.keys.TheConstants.{LINE_WORDS, ACCOUNT_KEYS, USER_KEYS, QOS_KEYS}
use Rattle.assoc_reader.specs.declared.keys.LineKind.{LineKind}
use Rattle.assoc_reader.specs.declared.keys.AssocKey.{AssocKey}
use Rattle.assoc_reader.specs.declared.keys.QosKey.{QosKey}

-- what a text stands for in a table; letters count in their case
abbrev pub named : {K : Type 0} → List (List ℕ × K) → List ℕ → Option K
named table text = option_map (λ row. row.1) (find (λ row. bytes_eq text row.0) table)

-- what a line speaks of, by what stands before its first quote
unfoldable pub line_kind : List ℕ → Option LineKind
line_kind text = named (map (λ row. (row.0.now, row.1)) LINE_WORDS) text

-- the key of an option of an account
unfoldable pub account_key : List ℕ → Option AssocKey
account_key text = named (map (λ row. (row.0.now, row.1)) ACCOUNT_KEYS) text

-- the key of an option of a user
unfoldable pub user_key : List ℕ → Option AssocKey
user_key text = named (map (λ row. (row.0.now, row.1)) USER_KEYS) text

-- the key of an option of a quality of service
unfoldable pub qos_key : List ℕ → Option QosKey
qos_key text = named (map (λ row. (row.0.now, row.1)) QOS_KEYS) text

-- the key of a user's line or of an account's
abbrev pub assoc_key : Bool → List ℕ → Option AssocKey
assoc_key user text = if user then user_key text else account_key text
