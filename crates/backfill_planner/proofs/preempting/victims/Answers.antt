use Rattle.std.proofs.Common.{◌≡◌, List, [], ap, sym, ◌∙◌, arith, is_some, length, Some, ℕ}
use Rattle.backfill_planner.specs.Bases.{BaseView}
use Rattle.backfill_planner.specs.Plans.{placement_at}
use Rattle.backfill_planner.specs.Going.{suffices, needed}
use Rattle.backfill_planner.proofs.GivingBack.{victims-some, victims-none}
use Rattle.backfill_planner.proofs.Walks.{all-suffice}
use Rattle.backfill_planner.proofs.preempting.victims.Goals as goal

pub returns-then-not-branch-clause-none : goal.returns-then-not-branch-clause-none
returns-then-not-branch-clause-none c =
    let rooms = c.args.base.now.rooms in
    let stay = c.args.base.now.holds in
    let going = c.args.going.now in
    let held : c.in_ok-profile.profile.holds ≡ stay = c.in_ok-profile.ensures.holds ∙ c.as_slice-2.ensures ∙ ap (λ (b : BaseView). b.holds) c.base.view_is in
    let fits : c.in_ok-fits.field-0 ≡ is_some (placement_at rooms stay c.args.job.now c.args.now) = rw held at c.in_ok-fits.ensures in
    victims-none c.pick_laws.ensures rooms stay going c.args.job.now c.args.now (all-suffice c.pick_laws.ensures rooms stay going c.args.job.now c.args.now ∙ sym fits ∙ c.if-not-branch.true)

pub returns-clause-some : goal.returns-clause-some
returns-clause-some c =
    let rooms = c.args.base.now.rooms in
    let stay = c.args.base.now.holds in
    let going = c.args.going.now in
    let held : c.in_ok-profile.profile.holds ≡ stay = c.in_ok-profile.ensures.holds ∙ c.as_slice-2.ensures ∙ ap (λ (b : BaseView). b.holds) c.base.view_is in
    let fits : c.in_ok-fits.field-0 ≡ is_some (placement_at rooms stay c.args.job.now c.args.now) = rw held at c.in_ok-fits.ensures in
    let count : c.in-Ok.count ≡ length going = omega (arith, c.in-Ok.ensures.1) in
    let gone_is : c.in_ok-gone.gone.items ≡ needed (suffices rooms stay going c.args.job.now c.args.now) (length going) [] = rw count at c.in_ok-gone.ensures in
    victims-some c.pick_laws.ensures rooms stay going c.args.job.now c.args.now (all-suffice c.pick_laws.ensures rooms stay going c.args.job.now c.args.now ∙ sym fits ∙ c.if-not-branch.false)
    ∙ ap (λ (gone : List ℕ). Some gone) (sym gone_is)
