-- The keys of scontrol.
use Rattle.std.specs.Prelude.{ℕ, List, Option, map}
use Rattle.text_values.specs.Tables.{key_named}
use Rattle.scontrol_words.specs.declared.keys.TheConstants.{KEYS}
use Rattle.scontrol_words.specs.declared.keys.Key.{Key}

-- the key that a text names, in any case of letters
unfoldable pub scontrol_key : List ℕ → Option Key
scontrol_key text = key_named (map (λ row. (row.0.now, row.1)) KEYS) text
