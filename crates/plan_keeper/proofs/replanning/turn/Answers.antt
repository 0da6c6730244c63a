use Rattle.std.proofs.Common.{◌≡◌, ◌+◌, ◌<◌, length, All, subst, sym, ◌∙◌, get_or}
use Rattle.std.proofs.lemmas.List.{get_or_default}
use Rattle.backfill_planner.specs.declared.job.PlanJob.{PlanJob}
use Rattle.backfill_planner.specs.Placements.{IsOnRooms}
use Rattle.plan_keeper.specs.Marks.{met_from, AreCounts, AreMarks}
use Rattle.plan_keeper.proofs.Rest.{found-behind, rest-marks, met-long, counts-behind, fewer-marked}
use Rattle.plan_keeper.proofs.Stepping.{on-ok}
use Rattle.plan_keeper.proofs.Times.{there}
use Rattle.plan_keeper.proofs.replanning.turn.Goals as goal

pub behind-place-requires : goal.behind-place-requires
behind-place-requires g c =
    let planning = c.args.planning in
    let at = there planning.ranked planning.done c.requires.more in
    found-behind c.args.old.now planning c.args.marks.now.unchanged.nodes.items c.args.list.now.first c.args.marks.now.met.items c.in_ok-found.found.before at.job c.in_ok-found.ensures.before

pub returns-clause-marks : goal.returns-clause-marks
returns-clause-marks g c =
    let old = c.args.old.now in
    let planning = c.args.planning in
    let first = c.args.list.now.first in
    let same = c.args.marks.now.unchanged.nodes.items in
    let counts = c.args.marks.now.counts.items in
    let met = c.args.marks.now.met.items in
    let new_same = c.go_on.new.self.unchanged.nodes.items in
    let new_met = c.go_on.new.self.met.items in
    let job = c.index-ranked-index.result in
    let ranked_is : c.ranked.result.now ≡ planning.ranked = c.ranked.ensures.value in
    let is : (d : PlanJob) → get_or planning.ranked planning.done d ≡ job = λ d.
    get_or_default planning.ranked planning.done d job c.requires.more ∙ sym (rw (ranked_is, c.requires.index) at c.index-ranked-index.is) in
    let nodes : All (λ node. node < length planning.base.rooms) job.nodes = rw (is job) at (subst (λ some. All (IsOnRooms planning.base.rooms) some) ranked_is c.ranked.ensures.nodes planning.done job c.requires.more) in
    let next : AreMarks old planning.base planning.ranked planning.moment (planning.done + 1) new_same (met_from first new_met) =
    rest-marks c.planner_laws.ensures old planning first same new_same counts met new_met c.in_ok-found.found.before c.behind-place.result job c.requires.marks c.requires.counts c.requires.more is nodes c.in_ok-found.ensures.before c.behind-place.ensures.some c.behind-place.ensures.none c.in_ok-go_on.ensures.some c.in_ok-go_on.ensures.none in
    on-ok (AreMarks old planning.base planning.ranked planning.moment (planning.done + 1) new_same (met_from first new_met)) c.settle.result next

pub returns-clause-counts : goal.returns-clause-counts
returns-clause-counts g c =
    let old = c.args.old.now in
    let planning = c.args.planning in
    let first = c.args.list.now.first in
    let same = c.args.marks.now.unchanged.nodes.items in
    let counts = c.args.marks.now.counts.items in
    let met = c.args.marks.now.met.items in
    let new_same = c.go_on.new.self.unchanged.nodes.items in
    let new_met = c.go_on.new.self.met.items in
    let job = c.index-ranked-index.result in
    let ranked_is : c.ranked.result.now ≡ planning.ranked = c.ranked.ensures.value in
    let is : (d : PlanJob) → get_or planning.ranked planning.done d ≡ job = λ d.
    get_or_default planning.ranked planning.done d job c.requires.more ∙ sym (rw (ranked_is, c.requires.index) at c.index-ranked-index.is) in
    let long : length new_met ≡ length met = met-long met new_met same new_same job c.behind-place.result c.in_ok-go_on.ensures.some c.in_ok-go_on.ensures.none in
    let next : AreCounts old.ranked planning.ranked first (planning.done + 1) (length planning.base.rooms) new_same c.go_on.new.self.counts.items new_met =
    counts-behind old.ranked planning.ranked first planning.done (length planning.base.rooms) same counts met new_same c.go_on.new.self.counts.items new_met job c.requires.counts c.requires.more is c.in_ok-go_on.ensures.counts long (fewer-marked same new_same met new_met (length planning.base.rooms) job c.behind-place.result c.requires.marks.long c.in_ok-go_on.ensures.some c.in_ok-go_on.ensures.none) in
    on-ok (AreCounts old.ranked planning.ranked first (planning.done + 1) (length planning.base.rooms) new_same c.go_on.new.self.counts.items new_met) c.settle.result next
