use Rattle.std.proofs.Common.{◌≡◌, ◌<◌, suc, Some, sym, arith}
use Rattle.std.specs.List.{slice_get}
use Rattle.plain_data.specs.Assocs.{greatest_depth}
use Rattle.assoc_reader.proofs.DepthLemmas.{way-step}
use Rattle.assoc_reader.proofs.assoc_tree.depth_of.Goals as goal

pub loop-level-preserved : goal.loop-level-preserved
loop-level-preserved c =
    let old = rw c.in-Some.is at c.loop-level.invariant in
    let found : slice_get c.args.assocs.now c.in-Some.place ≡ Some c.in-Some-assoc_at.assoc.now = sym c.in-Some-assoc_at.ensures in
    let less : c.loop-level.level < suc greatest_depth = omega (arith, c.greatest_depth-levels.ensures.value) in
    omega (arith, old, way-step greatest_depth c.loop-level.level c.args.assocs.now c.in-Some.place c.in-Some-assoc_at.assoc.now less found)
