use Rattle.std.proofs.Common.{◌≡◌, length, ap, ◌∙◌}
use Rattle.backfill_planner.specs.Bases.{BaseView}
use Rattle.plan_keeper.proofs.Leaving.{has-begun}
use Rattle.plan_keeper.proofs.both_plans.begun_passed.Goals as goal

pub returns-clause-passed : goal.returns-clause-passed
returns-clause-passed c = λ old begun.
    let planning = c.args.begun.planning in
    let kept = c.args.begun.kept in
    let nodes : length c.as_slice.result.now ≡ length planning.base.rooms = ap (λ some. length some) (c.as_slice.ensures ∙ ap (λ (b : BaseView). b.rooms) (c.behind-planning.view_is ∙ c.base.ensures)) in
    record {
      index = c.requires;
      has = rw (c.requires, c.in_ok-level.ensures, nodes) (has-begun old planning kept.same.seconds.items kept.no_freer.seconds.items begun);
    }
