use Rattle.std.proofs.Common.{◌≡◌, ◌≤◌, ap, subst, ◌∙◌, ◌∷◌, [], ◌++◌}
use Rattle.resource_profile.specs.Profiles.{AreWithin}
use Rattle.backfill_planner.specs.Bases.{BaseView}
use Rattle.backfill_planner.proofs.Settling.{none-planned}
use Rattle.backfill_planner.proofs.planning.Planning.new.Goals as goal
use Rattle.plain_data.specs.declared.seconds.TheConstants.{LAST_START}

pub invariant_of-result : goal.invariant_of-result
invariant_of-result c =
    let rooms_are : c.in_ok-profile.profile.rooms ≡ c.args.base.rooms = c.in_ok-profile.ensures.rooms ∙ c.as_slice.ensures ∙ ap (λ (b : BaseView). b.rooms) c.base.view_is in
    let holds_are : c.in_ok-profile.profile.holds ≡ c.args.base.holds = c.in_ok-profile.ensures.holds ∙ c.as_slice-2.ensures ∙ ap (λ (b : BaseView). b.holds) c.base.view_is in
    let fits : AreWithin c.args.base.rooms c.args.base.holds × (c.args.base.horizon ≤ LAST_START) = subst (λ (b : BaseView). AreWithin b.rooms b.holds × (b.horizon ≤ LAST_START)) c.base.view_is c.base.invariant in
    none-planned c.args.base c.args.ranked.items c.args.now c.in_ok-placements.placements.items c.push.new.self.items c.in_ok-profile.profile c.in_ok-searches.searches.seen.items fits.0 fits.1 c.requires.nodes c.in_ok-placements.ensures.items (c.in_ok-push.ensures.items ∙ ap (λ some. some ++ 0 ∷ []) c.new-counts.ensures.items) rooms_are holds_are c.in_ok-searches.ensures
