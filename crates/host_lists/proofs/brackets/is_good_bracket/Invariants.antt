use Rattle.std.proofs.Common.{ℕ, List, ◌≡◌, ◌+◌, [], length}
use Rattle.std.specs.Option.{option_copied, option_map_or}
use Rattle.small_texts.specs.Fields.{fields, fields_of_rest}
use Rattle.host_lists.specs.Counting.{Counts}
use Rattle.host_lists.proofs.BracketLemmas.{added}
use Rattle.host_lists.proofs.brackets.is_good_bracket.Given as goal

abbrev pub invariant-loop-rest : goal.invariant-loop-rest
invariant-loop-rest l =
    (names : List (List ℕ)) × Counts l.prefix l.counted names × (added l.prefix (fields_of_rest 44 (option_copied l.rest)) names ≡ added l.prefix (fields 44 l.inside) [])

abbrev pub decreases-loop-rest : goal.decreases-loop-rest
decreases-loop-rest l = option_map_or (λ r. length r.now + 1) l.rest 0
