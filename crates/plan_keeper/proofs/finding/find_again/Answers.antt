use Rattle.std.proofs.Common.{◌≡◌, ◌≤◌, arith, ap, refl, sym, ◌∙◌, Some, None}
use Rattle.backfill_planner.specs.Bases.{BaseView}
use Rattle.backfill_planner.specs.Plans.{placement_of}
use Rattle.plan_keeper.proofs.Turning.{stands-some, stands-none, stands-nowhere}
use Rattle.plan_keeper.proofs.finding.find_again.Goals as goal
use Rattle.plan_keeper.proofs.finding.find_again.Goals.{else-now-placed-via-then-now-placed+else-placed-horizon, else-now-placed-via-else-now-placed}
use Rattle.plain_data.specs.declared.seconds.TheConstants.{LAST_START}

pub placement_of-requires : goal.placement_of-requires
placement_of-requires g c = c.requires.stands.there

pub returns-then-placed-horizon-clause-placed : goal.returns-then-placed-horizon-clause-placed
returns-then-placed-horizon-clause-placed g c = λ d.
    let old = c.args.old.now in
    let planning = c.args.planning.now in
    let before = c.args.before in
    let stands = c.requires.stands in
    let horizon_is : c.behind-planning.inside.horizon ≡ planning.base.horizon = ap (λ (b : BaseView). b.horizon) (c.behind-planning.view_is ∙ c.base.ensures) in
    let last_is : c.behind-old.inside.horizon ≡ old.base.horizon = ap (λ (b : BaseView). b.horizon) (c.behind-old.view_is ∙ c.base-2.ensures) in
    let low : planning.base.horizon ≤ LAST_START = rw horizon_is at c.behind-planning.invariant.1 in
    let moment : c.args.now ≡ planning.moment = c.requires.now in
    let order : old.moment ≤ planning.moment = rw moment at c.requires.later in
    let was = c.in-Some.ensures stands.job in
    let is : placement_of planning.base planning.ranked planning.moment planning.done stands.job ≡ Some c.in-Some.placed.now = stands-some c.requires.laws old planning before c.in-Some.placed.now stands order low was (omega (arith, moment, c.if-now-placed.true)) (omega (arith, horizon_is, c.if-placed-horizon.true)) in
    rw (stands.is d, c.in_ok-placed-in-Some.ensures) (sym is)

pub returns-then-placed-horizon-clause-before : goal.returns-then-placed-horizon-clause-before
returns-then-placed-horizon-clause-before g c =
    let old = c.args.old.now in
    let planning = c.args.planning.now in
    let before = c.args.before in
    let stands = c.requires.stands in
    let horizon_is : c.behind-planning.inside.horizon ≡ planning.base.horizon = ap (λ (b : BaseView). b.horizon) (c.behind-planning.view_is ∙ c.base.ensures) in
    let last_is : c.behind-old.inside.horizon ≡ old.base.horizon = ap (λ (b : BaseView). b.horizon) (c.behind-old.view_is ∙ c.base-2.ensures) in
    let low : planning.base.horizon ≤ LAST_START = rw horizon_is at c.behind-planning.invariant.1 in
    let moment : c.args.now ≡ planning.moment = c.requires.now in
    let order : old.moment ≤ planning.moment = rw moment at c.requires.later in
    let was = c.in-Some.ensures stands.job in
    let is : placement_of planning.base planning.ranked planning.moment planning.done stands.job ≡ Some c.in-Some.placed.now = stands-some c.requires.laws old planning before c.in-Some.placed.now stands order low was (omega (arith, moment, c.if-now-placed.true)) (omega (arith, horizon_is, c.if-placed-horizon.true)) in
    (refl, λ d. rw (stands.is d) (is ∙ c.in-Some.ensures d))

pub returns-then-horizon-last-clause-placed : goal.returns-then-horizon-last-clause-placed
returns-then-horizon-last-clause-placed g c = λ d.
    let old = c.args.old.now in
    let planning = c.args.planning.now in
    let before = c.args.before in
    let stands = c.requires.stands in
    let horizon_is : c.behind-planning.inside.horizon ≡ planning.base.horizon = ap (λ (b : BaseView). b.horizon) (c.behind-planning.view_is ∙ c.base.ensures) in
    let last_is : c.behind-old.inside.horizon ≡ old.base.horizon = ap (λ (b : BaseView). b.horizon) (c.behind-old.view_is ∙ c.base-2.ensures) in
    let low : planning.base.horizon ≤ LAST_START = rw horizon_is at c.behind-planning.invariant.1 in
    let moment : c.args.now ≡ planning.moment = c.requires.now in
    let order : old.moment ≤ planning.moment = rw moment at c.requires.later in
    let was = c.in-None.ensures stands.job in
    rw (stands.is d) (sym (stands-nowhere c.requires.laws old planning before stands order low (omega (arith, horizon_is, last_is, c.if-horizon-last.true)) was))

pub returns-then-horizon-last-clause-before : goal.returns-then-horizon-last-clause-before
returns-then-horizon-last-clause-before g c =
    let old = c.args.old.now in
    let planning = c.args.planning.now in
    let before = c.args.before in
    let stands = c.requires.stands in
    let horizon_is : c.behind-planning.inside.horizon ≡ planning.base.horizon = ap (λ (b : BaseView). b.horizon) (c.behind-planning.view_is ∙ c.base.ensures) in
    let last_is : c.behind-old.inside.horizon ≡ old.base.horizon = ap (λ (b : BaseView). b.horizon) (c.behind-old.view_is ∙ c.base-2.ensures) in
    let low : planning.base.horizon ≤ LAST_START = rw horizon_is at c.behind-planning.invariant.1 in
    let moment : c.args.now ≡ planning.moment = c.requires.now in
    let order : old.moment ≤ planning.moment = rw moment at c.requires.later in
    let was = c.in-None.ensures stands.job in
    let is : placement_of planning.base planning.ranked planning.moment planning.done stands.job ≡ None = stands-nowhere c.requires.laws old planning before stands order low (omega (arith, horizon_is, last_is, c.if-horizon-last.true)) was in
    (refl, λ d. rw (stands.is d) (is ∙ c.in-None.ensures d))

pub search_next-requires-clause-none : goal.search_next-requires-clause-none
search_next-requires-clause-none g c = λ d.
    let old = c.args.old.now in
    let planning = c.args.planning.now in
    let before = c.args.before in
    let stands = c.requires.stands in
    let horizon_is : c.behind-planning.inside.horizon ≡ planning.base.horizon = ap (λ (b : BaseView). b.horizon) (c.behind-planning.view_is ∙ c.base.ensures) in
    let last_is : c.behind-old.inside.horizon ≡ old.base.horizon = ap (λ (b : BaseView). b.horizon) (c.behind-old.view_is ∙ c.base-2.ensures) in
    let low : planning.base.horizon ≤ LAST_START = rw horizon_is at c.behind-planning.invariant.1 in
    let moment : c.args.now ≡ planning.moment = c.requires.now in
    let order : old.moment ≤ planning.moment = rw moment at c.requires.later in
    let was = c.in-None.ensures stands.job in
    rw (stands.is d, last_is) (stands-none c.requires.laws old planning before stands order was)

pub returns-else-now-placed-clause-steps : goal.returns-else-now-placed-clause-steps
returns-else-now-placed-clause-steps g c =
    let old = c.args.old.now in
    let planning = c.args.planning.now in
    let before = c.args.before in
    let stands = c.requires.stands in
    let horizon_is : c.behind-planning.inside.horizon ≡ planning.base.horizon = ap (λ (b : BaseView). b.horizon) (c.behind-planning.view_is ∙ c.base.ensures) in
    let last_is : c.behind-old.inside.horizon ≡ old.base.horizon = ap (λ (b : BaseView). b.horizon) (c.behind-old.view_is ∙ c.base-2.ensures) in
    let low : planning.base.horizon ≤ LAST_START = rw horizon_is at c.behind-planning.invariant.1 in
    let moment : c.args.now ≡ planning.moment = c.requires.now in
    let order : old.moment ≤ planning.moment = rw moment at c.requires.later in
    record {
      most = record { times = 1; few = omega arith; is = c.find_anew.ensures.steps };
      free = λ d can.
          let stood : (planning.moment ≤ c.in-Some.placed.now.start) × (c.in-Some.placed.now.start ≤ planning.base.horizon) = rw (← c.in-Some.ensures d) at can in
          elim c.else-now-placed.branch [
            | else-now-placed-via-then-now-placed+else-placed-horizon w ↦ absurd (omega (arith, horizon_is, w.if-placed-horizon.false, stood.1))
            | else-now-placed-via-else-now-placed w ↦ absurd (omega (arith, moment, w.if-now-placed.false, stood.0))
          ];
    }

pub returns-after-is_none-clause-steps : goal.returns-after-is_none-clause-steps
returns-after-is_none-clause-steps g c =
    let old = c.args.old.now in
    let planning = c.args.planning.now in
    let before = c.args.before in
    let stands = c.requires.stands in
    let horizon_is : c.behind-planning.inside.horizon ≡ planning.base.horizon = ap (λ (b : BaseView). b.horizon) (c.behind-planning.view_is ∙ c.base.ensures) in
    let last_is : c.behind-old.inside.horizon ≡ old.base.horizon = ap (λ (b : BaseView). b.horizon) (c.behind-old.view_is ∙ c.base-2.ensures) in
    let low : planning.base.horizon ≤ LAST_START = rw horizon_is at c.behind-planning.invariant.1 in
    let moment : c.args.now ≡ planning.moment = c.requires.now in
    let order : old.moment ≤ planning.moment = rw moment at c.requires.later in
    record {
      most = record { times = 1; few = omega arith; is = c.search_next.ensures.steps };
      free = λ d can.
          let past : planning.base.horizon ≤ old.base.horizon = rw (← c.in-None.ensures d) at can in
          absurd (omega (arith, horizon_is, last_is, c.if-horizon-last.false, past));
    }
