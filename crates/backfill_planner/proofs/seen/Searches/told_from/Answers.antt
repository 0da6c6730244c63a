use Rattle.std.proofs.Common.{◌<◌, length, get_or}
use Rattle.backfill_planner.specs.declared.seen.Seen.{Seen}
use Rattle.backfill_planner.specs.Lesser.{HaveSameNodes, IsLesser}
use Rattle.backfill_planner.proofs.Lessening.{seen-none}
use Rattle.backfill_planner.proofs.seen.Searches.told_from.Goals as goal

pub returns-then-is_lesser-clause-none : goal.returns-then-is_lesser-clause-none
returns-then-is_lesser-clause-none c = λ rooms holds now all.
    let none : Seen = record { place = 0; bound = 0; alike = 0 } in
    let items = c.args.self.now.seen.items in
    let i = c.loop-one.one-index in
    let inside : i < length items = rw c.as_slice-one-items.ensures.value at c.loop-one-test.true in
    let lesser : HaveSameNodes c.index-ranked-one.result c.args.job.now → IsLesser c.index-ranked-one.result c.args.job.now = rw c.if-is_lesser.true at c.is_lesser.ensures in
    rw c.as_slice-one-items.ensures.value (seen-none c.lower_laws.ensures rooms holds c.args.ranked.now now c.args.alike (get_or items i none) c.index-ranked-one.result c.args.job.now (all i none inside) (rw c.as_slice-one-items.ensures.value at c.index-ranked-one.is) (rw c.as_slice-one-items.ensures.value at c.if-one-alike.true) c.requires.alike lesser)
