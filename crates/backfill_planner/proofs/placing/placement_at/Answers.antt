use Rattle.std.proofs.Common.{◌≡◌, ◌*◌, ◌<◌, ◌^◌, length, All, map, arith, ap, ◌∙◌, Some, None}
use Rattle.resource_profile.specs.Sets.{dealt, places, IsChosen}
use Rattle.resource_profile.specs.Choosing.{chosen}
use Rattle.backfill_planner.proofs.Rises.{chosen-none_fits}
use Rattle.backfill_planner.specs.Plans.{share_of}
use Rattle.backfill_planner.proofs.Dealing.{IsGiven, dealt-given, places_in_range, tasks_in_range, placement-none, placement-some, length-capacities}
use Rattle.backfill_planner.proofs.Holding.{placement-holds}
use Rattle.backfill_planner.proofs.placing.placement_at.Goals as goal

pub returns-then-sweep-from-clause-placement : goal.returns-then-sweep-from-clause-placement
returns-then-sweep-from-clause-placement c =
    let caps = c.go_to.new.self.caps.items in
    let need = c.args.job.now.need in
    let nowhere : chosen caps need ≡ None = chosen-none_fits c.lower_laws.ensures caps need (λ set fits.
    omega (arith, c.fitting_sets_are_within.ensures caps need set fits, c.go_to.ensures.swept.total, c.if-sweep-from.true, c.from.ensures)) in
    placement-none c.args.rooms.now c.args.profile.now.holds c.args.job.now c.args.start caps c.go_to.ensures.capacities nowhere

pub returns-then-not-branch-clause-placement : goal.returns-then-not-branch-clause-placement
returns-then-not-branch-clause-placement c =
    let nowhere : chosen c.deref.result.now c.args.job.now.need ≡ None = rw c.if-not-branch.true at c.in_ok-pick.ensures.no_choice in
    placement-none c.args.rooms.now c.args.profile.now.holds c.args.job.now c.args.start c.deref.result.now (c.deref.ensures.value ∙ c.go_to.ensures.capacities) nowhere

pub shares-requires-clause-places : goal.shares-requires-clause-places
shares-requires-clause-places c =
    let caps = c.deref.result.now in
    let parts = c.pick.new.out.items in
    let is : IsChosen caps c.args.job.now.need (places parts) = rw c.if-not-branch.false at c.in_ok-pick.ensures.chosen in
    let are : parts ≡ dealt caps c.args.job.now.need.tasks (places parts) = rw c.if-not-branch.false at c.in_ok-pick.ensures.dealt in
    let given : All (IsGiven caps) parts = rw are (dealt-given caps c.args.job.now.need.tasks (places parts) is.fits.giving) in
    let long : length caps ≡ length c.args.job.now.nodes = ap length (c.deref.ensures.value ∙ c.go_to.ensures.capacities) ∙ length-capacities c.args.rooms.now c.args.profile.now.holds c.args.job.now c.args.start in
    rw c.deref-2.ensures.value (places_in_range caps (length c.args.job.now.nodes) parts long given)

pub shares-requires-clause-cpus : goal.shares-requires-clause-cpus
shares-requires-clause-cpus c =
    let caps = c.deref.result.now in
    let parts = c.pick.new.out.items in
    let is : IsChosen caps c.args.job.now.need (places parts) = rw c.if-not-branch.false at c.in_ok-pick.ensures.chosen in
    let are : parts ≡ dealt caps c.args.job.now.need.tasks (places parts) = rw c.if-not-branch.false at c.in_ok-pick.ensures.dealt in
    let given : All (IsGiven caps) parts = rw are (dealt-given caps c.args.job.now.need.tasks (places parts) is.fits.giving) in
    let small : All (λ tasks. tasks * c.args.job.now.cpus_per_task < 2 ^ 32) caps = rw c.deref.ensures.value c.go_to.ensures.swept.small in
    rw c.deref-2.ensures.value (tasks_in_range caps c.args.job.now.cpus_per_task (2 ^ 32) parts small given)

pub returns-clause-placement : goal.returns-clause-placement
returns-clause-placement c =
    let caps = c.deref.result.now in
    let parts = c.pick.new.out.items in
    let choice : chosen caps c.args.job.now.need ≡ Some (places parts) = rw c.if-not-branch.false at c.in_ok-pick.ensures.choice in
    let are : parts ≡ dealt caps c.args.job.now.need.tasks (places parts) = rw c.if-not-branch.false at c.in_ok-pick.ensures.dealt in
    let sharing = c.from_vec.ensures ∙ c.in_ok-parts.ensures ∙ ap (λ p. map (λ part. share_of c.args.rooms.now c.args.job.now part) p) c.deref-2.ensures.value in
    placement-some c.args.rooms.now c.args.profile.now.holds c.args.job.now c.args.start caps parts c.from_vec.result (c.deref.ensures.value ∙ c.go_to.ensures.capacities) choice are sharing

pub returns-clause-free : goal.returns-clause-free
returns-clause-free c =
    let caps = c.deref.result.now in
    let parts = c.pick.new.out.items in
    let is : IsChosen caps c.args.job.now.need (places parts) = rw c.if-not-branch.false at c.in_ok-pick.ensures.chosen in
    let are : parts ≡ dealt caps c.args.job.now.need.tasks (places parts) = rw c.if-not-branch.false at c.in_ok-pick.ensures.dealt in
    let sharing = c.from_vec.ensures ∙ c.in_ok-parts.ensures ∙ ap (λ p. map (λ part. share_of c.args.rooms.now c.args.job.now part) p) c.deref-2.ensures.value in
    (placement-holds c.args.rooms.now c.args.profile.now.holds c.args.job.now c.args.job.now.id c.args.start caps parts c.from_vec.result (c.deref.ensures.value ∙ c.go_to.ensures.capacities) is are sharing
    c.requires.nodes c.go_to.ensures.once c.go_to.ensures.window).free

pub returns-clause-apart : goal.returns-clause-apart
returns-clause-apart c =
    let caps = c.deref.result.now in
    let parts = c.pick.new.out.items in
    let is : IsChosen caps c.args.job.now.need (places parts) = rw c.if-not-branch.false at c.in_ok-pick.ensures.chosen in
    let are : parts ≡ dealt caps c.args.job.now.need.tasks (places parts) = rw c.if-not-branch.false at c.in_ok-pick.ensures.dealt in
    let sharing = c.from_vec.ensures ∙ c.in_ok-parts.ensures ∙ ap (λ p. map (λ part. share_of c.args.rooms.now c.args.job.now part) p) c.deref-2.ensures.value in
    (placement-holds c.args.rooms.now c.args.profile.now.holds c.args.job.now c.args.job.now.id c.args.start caps parts c.from_vec.result (c.deref.ensures.value ∙ c.go_to.ensures.capacities) is are sharing
    c.requires.nodes c.go_to.ensures.once c.go_to.ensures.window).apart
