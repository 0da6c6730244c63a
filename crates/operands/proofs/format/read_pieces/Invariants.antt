use Rattle.std.proofs.Common.{◌≡◌, ◌+◌, length}
use Rattle.std.specs.Option.{option_copied, option_map_or}
use Rattle.small_texts.specs.Fields.{fields_of_rest}
use Rattle.operands.specs.Format.{format_in}
use Rattle.operands.proofs.FormatLemmas.{behind}
use Rattle.operands.proofs.format.read_pieces.Given as goal

abbrev pub decreases-loop-rest : goal.decreases-loop-rest
decreases-loop-rest l = option_map_or (λ r. length r.now + 1) l.rest 0

abbrev pub invariant-loop-rest : goal.invariant-loop-rest
invariant-loop-rest l =
    behind l.pieces.items (fields_of_rest 37 (option_copied l.rest)) ≡ format_in l.text
