use Rattle.std.proofs.Common.{◌≡◌, ap, ◌∙◌}
use Rattle.std.specs.List.Sorted.{IsPermutation}
use Rattle.backfill_planner.specs.Bases.{BaseView}
use Rattle.plan_keeper.proofs.Keeping.{begun-first}
use Rattle.plan_keeper.proofs.Marking.{holds-first}
use Rattle.plan_keeper.proofs.beginning.first_kept.Goals as goal

pub returns : goal.returns
returns c =
    let old = c.args.old.now in
    let planning = c.args.planning.now in
    let before = c.in_ok-before.before in
    let after = c.profile.result.now in
    let kept = c.in_ok-kept.kept in
    let base_is = c.base.view_is ∙ c.base-base.ensures in
    let rooms_are : before.rooms ≡ old.base.rooms = c.in_ok-before.ensures.rooms ∙ c.as_slice.ensures ∙ ap (λ (b : BaseView). b.rooms) base_is in
    let holds_are : before.holds ≡ old.base.holds = c.in_ok-before.ensures.holds ∙ c.as_slice-2.ensures ∙ ap (λ (b : BaseView). b.holds) base_is in
    let moved : IsPermutation planning.base.holds after.holds = rw (c.requires.none, holds-first planning.base planning.ranked planning.moment) at c.profile.ensures.holds in
    begun-first old planning kept.same.seconds.items kept.no_freer.seconds.items before after c.requires.none rooms_are holds_are c.profile.ensures.rooms moved c.in_ok-kept.ensures.long c.in_ok-kept.ensures.long_no_freer (rw c.requires.now at c.in_ok-kept.ensures.each)
