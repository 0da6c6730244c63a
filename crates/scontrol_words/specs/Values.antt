-- The values of scontrol's keys.
use Rattle.std.specs.Prelude.{ℕ, nat_lt, if◌then◌else◌, List, length, codes, Option, Some, None, Result, Ok, Err}
use Rattle.text_values.specs.declared.word_refusal.WordKind.{WordKind}
use Rattle.text_values.specs.declared.word_refusal.WordKind.TheVariants.{TooLong}
use Rattle.request_data.specs.declared.request.NodeOrder.{NodeOrder}
use Rattle.request_data.specs.declared.request.NodeOrder.TheVariants as order
use Rattle.text_values.specs.Tables.{is_word}

-- what becomes of a node, in any case of letters
unfoldable pub node_order : List ℕ → Option NodeOrder
node_order text =
    if is_word (codes "DOWN") text then Some order.Down
    else (if is_word (codes "DRAIN") text then Some order.Drain
    else (if is_word (codes "RESUME") text then Some order.Resume
    else None))

-- what is said, where a text that is kept nowhere has at most 1,024 bytes
abbrev pub unless_long : {S : Type 0} → List ℕ → S → Result S WordKind
unless_long text said = if nat_lt 1024 (length text) then Err TooLong else Ok said
