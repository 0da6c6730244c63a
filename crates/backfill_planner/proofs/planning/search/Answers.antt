use Rattle.std.proofs.Common.{◌≡◌, ap, ◌∙◌, arith}
use Rattle.backfill_planner.specs.Bases.{BaseView}
use Rattle.backfill_planner.proofs.Lessening.{placed-later}
use Rattle.backfill_planner.proofs.planning.search.Goals as goal

pub returns-clause-placed : goal.returns-clause-placed
returns-clause-placed g c = λ none.
    let rooms = c.args.base.now.rooms in
    let holds = c.args.profile.now.holds in
    let horizon_is : c.base.inside.horizon ≡ c.args.base.now.horizon = ap (λ (b : BaseView). b.horizon) c.base.view_is in
    let from = c.search_from-from.result in
    rw (← horizon_is) (c.in_ok-placed.ensures.placed ∙ placed-later rooms holds c.args.job.now c.args.now from c.base.inside.horizon (omega (arith, c.requires.order, c.search_from-from.ensures.later)) c.base.invariant.1 (c.search_from-from.ensures.none rooms none))
