use Rattle.std.proofs.Common.{◌≡◌, ◌≤◌, arith, ap, sym, ◌∙◌, Some}
use Rattle.std.specs.Prelude.{option_copied, IfSome}
use Rattle.backfill_planner.specs.Bases.{BaseView}
use Rattle.backfill_planner.specs.Lesser.{NoneBefore}
use Rattle.backfill_planner.specs.Plans.{holds_before}
use Rattle.plan_keeper.specs.Kept.{BeginsAt, CanStay, IsThen}
use Rattle.plan_keeper.proofs.Standing.{stays-there, none-there, nowhere-left, not-settled, none-found}
use Rattle.plan_keeper.proofs.Turning.{stepped-anew}
use Rattle.plan_keeper.proofs.staying.find_there.Goals as goal
use Rattle.plain_data.specs.declared.seconds.TheConstants.{LAST_START}

pub returns-in-Some-clause-placed : goal.returns-in-Some-clause-placed
returns-in-Some-clause-placed g c = λ d.
    let old = c.args.old.now in
    let planning = c.args.planning.now in
    let same = c.args.kept.now.same.seconds.items in
    let no_freer = c.args.kept.now.no_freer.seconds.items in
    let job = c.args.job.now in
    let before = option_copied c.placement_of-before.result in
    let there = c.requires.there in
    let horizon_is : c.behind-planning.inside.horizon ≡ planning.base.horizon = ap (λ (b : BaseView). b.horizon) (c.behind-planning.view_is ∙ c.base.ensures) in
    let low : planning.base.horizon ≤ LAST_START = rw horizon_is at c.behind-planning.invariant.1 in
    let place = c.args.place in
    let was : IsThen old place before = c.placement_of-before.ensures in
    let placed = c.in-Some.placed in
    let told : (before ≡ Some placed) × CanStay job placed same c.args.now c.behind-planning.inside.horizon = rw c.in-Some.is at c.in_ok-placed.ensures.some in
    let stay : CanStay job placed same planning.moment planning.base.horizon = rw (c.requires.now, horizon_is) at told.1 in
    rw (there.is d) (sym (stays-there c.planner_laws.ensures old planning place same no_freer job placed c.requires.kept there low (λ d. sym told.0 ∙ was d) stay))

pub returns-then-horizon-begin-clause-placed : goal.returns-then-horizon-begin-clause-placed
returns-then-horizon-begin-clause-placed g c = λ d.
    let old = c.args.old.now in
    let planning = c.args.planning.now in
    let same = c.args.kept.now.same.seconds.items in
    let no_freer = c.args.kept.now.no_freer.seconds.items in
    let job = c.args.job.now in
    let before = option_copied c.placement_of-before.result in
    let there = c.requires.there in
    let horizon_is : c.behind-planning.inside.horizon ≡ planning.base.horizon = ap (λ (b : BaseView). b.horizon) (c.behind-planning.view_is ∙ c.base.ensures) in
    let low : planning.base.horizon ≤ LAST_START = rw horizon_is at c.behind-planning.invariant.1 in
    let place = c.args.place in
    let was : IsThen old place before = c.placement_of-before.ensures in
    let last_is : c.behind-old.inside.horizon ≡ old.base.horizon = ap (λ (b : BaseView). b.horizon) (c.behind-old.view_is ∙ c.base-2.ensures) in
    let begin = c.search_begin-begin.result in
    let begins : BeginsAt before job no_freer planning.moment old.base.horizon begin = rw (c.requires.now, last_is) at c.search_begin-begin.ensures in
    let none : NoneBefore planning.base.rooms (holds_before planning.base planning.ranked planning.moment planning.done) job planning.moment begin = none-there c.planner_laws.ensures old planning place same no_freer job before begin c.requires.kept there was begins in
    rw (there.is d) (sym (nowhere-left c.planner_laws.ensures planning job begin low (omega (arith, horizon_is, c.if-horizon-begin.true)) none))

pub search_next-requires-clause-none : goal.search_next-requires-clause-none
search_next-requires-clause-none g c = λ d.
    let old = c.args.old.now in
    let planning = c.args.planning.now in
    let same = c.args.kept.now.same.seconds.items in
    let no_freer = c.args.kept.now.no_freer.seconds.items in
    let job = c.args.job.now in
    let before = option_copied c.placement_of-before.result in
    let there = c.requires.there in
    let horizon_is : c.behind-planning.inside.horizon ≡ planning.base.horizon = ap (λ (b : BaseView). b.horizon) (c.behind-planning.view_is ∙ c.base.ensures) in
    let low : planning.base.horizon ≤ LAST_START = rw horizon_is at c.behind-planning.invariant.1 in
    let place = c.args.place in
    let was : IsThen old place before = c.placement_of-before.ensures in
    let last_is : c.behind-old.inside.horizon ≡ old.base.horizon = ap (λ (b : BaseView). b.horizon) (c.behind-old.view_is ∙ c.base-2.ensures) in
    let begin = c.search_begin-begin.result in
    let begins : BeginsAt before job no_freer planning.moment old.base.horizon begin = rw (c.requires.now, last_is) at c.search_begin-begin.ensures in
    let none : NoneBefore planning.base.rooms (holds_before planning.base planning.ranked planning.moment planning.done) job planning.moment begin = none-there c.planner_laws.ensures old planning place same no_freer job before begin c.requires.kept there was begins in
    rw (there.is d) none

pub returns-in_err-placed-2-clause-steps : goal.returns-in_err-placed-2-clause-steps
returns-in_err-placed-2-clause-steps g c =
    let old = c.args.old.now in
    let planning = c.args.planning.now in
    let same = c.args.kept.now.same.seconds.items in
    let no_freer = c.args.kept.now.no_freer.seconds.items in
    let job = c.args.job.now in
    let before = option_copied c.placement_of-before.result in
    let there = c.requires.there in
    let horizon_is : c.behind-planning.inside.horizon ≡ planning.base.horizon = ap (λ (b : BaseView). b.horizon) (c.behind-planning.view_is ∙ c.base.ensures) in
    let low : planning.base.horizon ≤ LAST_START = rw horizon_is at c.behind-planning.invariant.1 in
    let place = c.args.place in
    let was : IsThen old place before = c.placement_of-before.ensures in
    let last_is : c.behind-old.inside.horizon ≡ old.base.horizon = ap (λ (b : BaseView). b.horizon) (c.behind-old.view_is ∙ c.base-2.ensures) in
    let begin = c.search_begin-begin.result in
    let begins : BeginsAt before job no_freer planning.moment old.base.horizon begin = rw (c.requires.now, last_is) at c.search_begin-begin.ensures in
    let moved : IfSome before (λ placed. ¬ CanStay job placed same planning.moment planning.base.horizon) = rw (c.requires.now, horizon_is) at (none-found c.in_ok-placed.field-0 (IfSome before (λ placed. ¬ CanStay job placed same c.args.now c.behind-planning.inside.horizon)) c.in_default.not-Some c.in_ok-placed.ensures.none) in
    stepped-anew old planning c.args.steps.now c.search_next.new.steps
    (not-settled old planning place same no_freer job before begin c.requires.kept there low was moved begins (omega (arith, horizon_is, c.if-horizon-begin.false)))
    c.search_next.ensures.steps

pub returns-clause-steps : goal.returns-clause-steps
returns-clause-steps g c =
    let old = c.args.old.now in
    let planning = c.args.planning.now in
    let same = c.args.kept.now.same.seconds.items in
    let no_freer = c.args.kept.now.no_freer.seconds.items in
    let job = c.args.job.now in
    let before = option_copied c.placement_of-before.result in
    let there = c.requires.there in
    let horizon_is : c.behind-planning.inside.horizon ≡ planning.base.horizon = ap (λ (b : BaseView). b.horizon) (c.behind-planning.view_is ∙ c.base.ensures) in
    let low : planning.base.horizon ≤ LAST_START = rw horizon_is at c.behind-planning.invariant.1 in
    let place = c.args.place in
    let was : IsThen old place before = c.placement_of-before.ensures in
    let last_is : c.behind-old.inside.horizon ≡ old.base.horizon = ap (λ (b : BaseView). b.horizon) (c.behind-old.view_is ∙ c.base-2.ensures) in
    let begin = c.search_begin-begin.result in
    let begins : BeginsAt before job no_freer planning.moment old.base.horizon begin = rw (c.requires.now, last_is) at c.search_begin-begin.ensures in
    let moved : IfSome before (λ placed. ¬ CanStay job placed same planning.moment planning.base.horizon) = rw (c.requires.now, horizon_is) at (none-found c.in_ok-placed.field-0 (IfSome before (λ placed. ¬ CanStay job placed same c.args.now c.behind-planning.inside.horizon)) c.in_default.not-Some c.in_ok-placed.ensures.none) in
    stepped-anew old planning c.args.steps.now c.search_next.new.steps
    (not-settled old planning place same no_freer job before begin c.requires.kept there low was moved begins (omega (arith, horizon_is, c.if-horizon-begin.false)))
    c.search_next.ensures.steps
