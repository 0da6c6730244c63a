use Rattle.std.proofs.Common.{Bor, List, ℕ, ◌∙◌, rules}
use Rattle.std.proofs.lemmas.Iterator.{YieldsList-from_map, YieldsList-from_slice, items_from_collect}
use Rattle.std.proofs.lemmas.Iterator.Consumers.{YieldsList-at}
use Rattle.request_data.specs.declared.query.StateCode.{StateCode}
use Rattle.operands.proofs.targets.list_states.Goals as goal

pub returns : goal.returns
returns c =
    c.from_vec.ensures
    ∙ (rw c.in_ok-all.was at
    (items_from_collect c.collect.result c.collect.ensures.ran
    (YieldsList-from_map _ (λ (row : Bor (List ℕ) × StateCode). row.1)
    (YieldsList-at c.map.ensures.source (YieldsList-from_slice c.args.table.now c.iter.ensures.rest))
    c.map.ensures.closure (λ x r q k. search rules))))
