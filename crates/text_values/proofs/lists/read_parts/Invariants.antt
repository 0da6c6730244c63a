use Rattle.std.proofs.Common.{◌≡◌, ◌+◌, length}
use Rattle.std.specs.Option.{option_copied, option_map_or}
use Rattle.small_texts.specs.Fields.{fields_of_rest}
use Rattle.text_values.specs.Lists.{parts_in}
use Rattle.text_values.proofs.PartLemmas.{behind}
use Rattle.text_values.proofs.lists.read_parts.Given as goal

abbrev pub decreases-loop-rest : goal.decreases-loop-rest
decreases-loop-rest g l = option_map_or (λ r. length r.now + 1) l.rest 0

abbrev pub invariant-loop-rest : goal.invariant-loop-rest
invariant-loop-rest g l =
    behind g.G.Grammar.meaning l.parts.items (fields_of_rest l.separator (option_copied l.rest)) ≡ parts_in g.G.Grammar.meaning l.separator l.text
