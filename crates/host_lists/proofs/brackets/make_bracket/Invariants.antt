use Rattle.std.proofs.Common.{◌≡◌, ◌+◌, [], true, length, fold, is_some, unwrap_or}
use Rattle.std.specs.List.{list_all}
use Rattle.std.specs.Option.{option_copied, option_map_or}
use Rattle.small_texts.specs.Fields.{fields, fields_of_rest}
use Rattle.small_texts.specs.Name.{is_name}
use Rattle.host_lists.specs.Hosts.{with_name, made_by_parts}
use Rattle.host_lists.specs.Found.{AreFound}
use Rattle.host_lists.proofs.brackets.make_bracket.Given as goal

abbrev pub invariant-loop-rest : goal.invariant-loop-rest
invariant-loop-rest l =
    let left = made_by_parts l.prefix (fields_of_rest 44 (option_copied l.rest)) in
    AreFound l.found × (is_some left ≡ true) × (list_all is_name (unwrap_or left []) ≡ true) × (fold with_name l.found.names.keys (unwrap_or left []) ≡ fold with_name l.initial.found.names.keys (unwrap_or (made_by_parts l.prefix (fields 44 l.inside)) []))

abbrev pub decreases-loop-rest : goal.decreases-loop-rest
decreases-loop-rest l = option_map_or (λ r. length r.now + 1) l.rest 0
