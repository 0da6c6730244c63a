use Rattle.plan_keeper.proofs.Alike.{alike-more}
use Rattle.plan_keeper.proofs.beginning.turn.Goals as goal

pub returns-clause-begun : goal.returns-clause-begun
returns-clause-begun g c =
    let old = c.args.old.now in
    let planning = c.args.begun.planning in
    rw c.in_ok-planning.ensures.next (record {
      alike = alike-more planning.moment old.ranked planning.ranked planning.done c.requires.begun.alike c.requires.there c.requires.more c.requires.is;
      kept = rw c.requires.first at c.in_ok-planning.ensures.kept;
    })
