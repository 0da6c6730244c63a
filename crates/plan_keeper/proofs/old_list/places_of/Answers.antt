use Rattle.plan_keeper.proofs.Listing.{finds-more}
use Rattle.plan_keeper.proofs.old_list.places_of.Goals as goal

pub loop-place-preserved : goal.loop-place-preserved
loop-place-preserved c = λ id.
    finds-more c.args.ranked.now c.loop-place.place c.index-ranked-place.result id _ _ c.loop-place-test.true c.index-ranked-place.is (c.loop-place.invariant id) (c.in_ok-insert.ensures.updates.0 id)
