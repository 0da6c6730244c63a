use Rattle.std.proofs.Common.{ℕ, List, Option, Bor, ◌+◌, ◌≤◌, length, rules, subst}
use Rattle.std.specs.Option.{option_map_or}
use Rattle.host_lists.proofs.NumberLemmas.{rest-size}
use Rattle.host_lists.proofs.items.first_bad_item.Goals as goal

pub loop-rest-preserved : goal.loop-rest-preserved
loop-rest-preserved c =
    (search rules, rest-size c.first_item.result.1 (length c.first_item.result.0.now) (length c.in-Some.items.now) c.loop-rest.place (length c.args.text.now + 1) c.first_item.ensures.len c.first_item.ensures.within (subst (λ (o : Option (Bor (List ℕ))). c.loop-rest.place + option_map_or (λ r. length r.now + 1) o 0 ≤ length c.args.text.now + 1) c.in-Some.is c.loop-rest.invariant.1))
