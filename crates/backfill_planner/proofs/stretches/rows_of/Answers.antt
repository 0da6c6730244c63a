use Rattle.std.proofs.Common.{◌≡◌, ◌∷◌, [], ◌++◌, arith, ap}
use Rattle.std.proofs.lemmas.List.{map-append}
use Rattle.std.proofs.lemmas.List.FromFn.{map-range_with_len_more}
use Rattle.backfill_planner.specs.Stretches.{stretches_of}
use Rattle.backfill_planner.proofs.Stretching.{rows-hold}
use Rattle.backfill_planner.proofs.stretches.rows_of.Goals as goal

pub loop-node-preserved : goal.loop-node-preserved
loop-node-preserved c =
    let node = c.loop-node.node in
    let times = c.args.times.now in
    rw (c.in_ok-push.ensures.items, map-append (λ row. row.items) c.loop-node.rows.items (c.in_ok-row.field-0 ∷ []), c.in_ok-row.ensures, map-range_with_len_more (λ node. stretches_of node times) 0 node node (omega arith))
    (ap (λ rows. rows ++ stretches_of node times ∷ []) c.loop-node.invariant)

pub returns : goal.returns
returns c =
    let whole : c.loop-node.node ≡ 1024 = omega (arith, c.loop-node-test.false, c.loop-node.auto.node-end) in
    rows-hold _ c.args.times.now c.nodes_in-nodes.result 1024 (rw whole at c.loop-node.invariant) c.nodes_in-nodes.ensures c.tell_rising.ensures.small
