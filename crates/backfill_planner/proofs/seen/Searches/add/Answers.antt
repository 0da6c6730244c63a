use Rattle.std.proofs.Common.{◌<◌, length, get_or}
use Rattle.backfill_planner.specs.Lesser.{HaveSameNodes}
use Rattle.backfill_planner.specs.declared.job.PlanJob.{PlanJob}
use Rattle.backfill_planner.proofs.Lessening.{same-itself, seen-also}
use Rattle.backfill_planner.proofs.seen.Searches.add.Goals as goal
use Rattle.backfill_planner.proofs.seen.Searches.add.Goals.{in-Some, in-None}

pub returns : goal.returns
returns c = λ rooms holds all none.
    let ranked = c.args.ranked.now in
    let job = c.index-ranked-place.result in
    let alike = c.match-first_alike.alike in
    let there : alike < length ranked = elim c.match-first_alike.branch [
      | in-Some w ↦ rw w.alike-is (rw w.in-Some.is at c.first_alike.ensures.there)
      | in-None w ↦ rw w.alike-is c.requires.place
    ] in
    let same : (d : PlanJob) → HaveSameNodes (get_or ranked alike d) job = elim c.match-first_alike.branch [
      | in-Some w ↦ rw w.alike-is (rw w.in-Some.is at c.first_alike.ensures.alike)
      | in-None w ↦ rw w.alike-is (λ d. same-itself ranked c.args.place job d c.requires.place c.index-ranked-place.is)
    ] in
    c.put.ensures rooms holds ranked c.args.now all (seen-also rooms holds ranked c.args.now c.args.place c.args.bound alike job c.requires.place c.index-ranked-place.is there same none)
