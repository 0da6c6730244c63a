use Rattle.std.proofs.Common.{◌≡◌, ◌+◌, ◌≤◌, ◌<◌, true, length, take, arith, ap, subst, sym, ◌∙◌, get_or}
use Rattle.std.specs.Prelude.{option_copied}
use Rattle.std.proofs.lemmas.List.{get_or_default}
use Rattle.backfill_planner.specs.declared.job.PlanJob.{PlanJob}
use Rattle.backfill_planner.specs.Bases.{BaseView}
use Rattle.backfill_planner.specs.Plans.{holds_of}
use Rattle.plan_keeper.specs.Steady.{IsSameFrom}
use Rattle.plan_keeper.specs.Kept.{IsThen}
use Rattle.plan_keeper.specs.Unmoved.{AreStanding, CanStandStill}
use Rattle.plan_keeper.proofs.Stillness.{AreOutside, never, none-copied, stands-more, stands-without}
use Rattle.plan_keeper.proofs.unmoved.pass.Goals as goal
use Rattle.plan_keeper.proofs.unmoved.pass.Goals.{then-standing, else-standing}
use Rattle.plain_data.specs.declared.seconds.TheConstants.{LAST_START}

pub returns-then-not-is_next : goal.returns-then-not-is_next
returns-then-not-is_next c = λ none.
    let old = c.args.old.now in
    let standing = c.args.standing.now in
    let nothing = none-copied c.placement_of-placed.result c.is_none.result c.is_none.ensures none in
    stands-without c.planner_laws.ensures old c.args.base.now c.args.ranked.now c.args.now c.args.before standing.index standing.counts.items standing.is_quiet c.requires.standing c.requires.there
    (λ d. sym nothing ∙ c.placement_of-placed.ensures d)

pub returns : goal.returns
returns c = λ _.
    let old = c.args.old.now in
    let base = c.args.base.now in
    let ranked = c.args.ranked.now in
    let before = c.args.before in
    let standing = c.args.standing.now in
    let job = c.index-ranked-standing.result in
    let placed = option_copied c.placement_of-placed.result in
    let below : standing.index < length ranked = c.is_next.ensures.there c.if-not-is_next.false in
    let is : (d : PlanJob) → get_or ranked standing.index d ≡ job = λ d.
    get_or_default ranked standing.index d job below ∙ sym c.index-ranked-standing.is in
    let same : IsSameFrom c.args.now (get_or old.ranked before job) job = rw (is job, c.ranked.ensures.value) at (c.is_next.ensures.is c.if-not-is_next.false job) in
    let last_is : c.behind-old.inside.horizon ≡ old.base.horizon = ap (λ (b : BaseView). b.horizon) (c.behind-old.view_is ∙ c.base.ensures) in
    let hi_is : c.base-2.inside.horizon ≡ base.horizon = ap (λ (b : BaseView). b.horizon) c.base-2.view_is in
    let low_last : old.base.horizon ≤ LAST_START = rw last_is at c.behind-old.invariant.1 in
    let low : base.horizon ≤ LAST_START = rw hi_is at c.base-2.invariant.1 in
    let stands : CanStandStill placed job standing.is_quiet c.args.now old.base.horizon base.horizon = rw (last_is, hi_is) at (c.stands.ensures c.if-not-stands.false) in
    let then : IsThen old before placed = c.placement_of-placed.ensures in
    let more_is = c.count_up_to.ensures in
    let quiet_is : c.if-standing.standing ≡ true → (standing.is_quiet ≡ true) × AreOutside old.base.horizon base.horizon (holds_of job placed) = λ told. elim c.if-standing.branch [
      | then-standing w ↦ (w.if-standing.true, rw (last_is, hi_is) at (w.ends_outside-standing.ensures (sym w.standing-is ∙ told)))
      | else-standing w ↦ never standing.is_quiet (sym w.standing-is ∙ told) w.if-standing.false
    ] in
    subst (λ counts. AreStanding old base ranked c.args.now (before + 1) (standing.index + 1) counts c.if-standing.standing) (sym c.in_ok-push.ensures.items)
    (stands-more c.planner_laws.ensures old base ranked c.args.now before standing.index standing.counts.items standing.is_quiet c.if-standing.standing job placed c.count_up_to.result c.requires.standing c.requires.alike c.requires.later c.requires.there below is same c.tell_ends_in_time.ensures c.tell_windows.ensures low_last low then stands more_is quiet_is)
