use Rattle.std.proofs.Common.{◌≡◌, ◌+◌, true, false, is_some, arith}
use Rattle.backfill_planner.specs.Plans.{placement_at}
use Rattle.backfill_planner.specs.Sweeps.{IsSwept}
use Rattle.backfill_planner.proofs.Seconds.{placed-none, placed-some, NonePlaced-more}
use Rattle.backfill_planner.proofs.placing.place.Goals as goal

pub returns-then-is_some-clause-placed : goal.returns-then-is_some-clause-placed
returns-then-is_some-clause-placed g c =
    let rooms_are : c.as_slice-rooms.result.now ≡ c.args.base.now.rooms = cc in
    let there : is_some c.in_ok-placed.placed ≡ true = cc in
    let is : c.in_ok-placed.placed ≡ placement_at c.args.base.now.rooms c.args.profile.now.holds c.args.job.now c.loop-start.start =
    rw rooms_are at c.in_ok-placed.ensures.placement in
    placed-some c.args.base.now.rooms c.args.profile.now.holds c.args.job.now c.args.lo c.args.hi c.loop-start.start c.in_ok-placed.placed
    c.loop-start.invariant.from c.loop-start-test.true c.loop-start.invariant.none_placed is there

pub loop-start-preserved : goal.loop-start-preserved
loop-start-preserved g c =
    let rooms_are : c.as_slice-rooms.result.now ≡ c.args.base.now.rooms = cc in
    let nothing : is_some c.in_ok-placed.placed ≡ false = cc in
    let is : c.in_ok-placed.placed ≡ placement_at c.args.base.now.rooms c.args.profile.now.holds c.args.job.now c.loop-start.start =
    rw rooms_are at c.in_ok-placed.ensures.placement in
    let swept : IsSwept c.args.base.now.rooms c.args.profile.now.holds c.args.job.now c.placement_at.new.sweep = rw rooms_are at c.placement_at.ensures.swept in
    record {
      none_placed = NonePlaced-more c.args.base.now.rooms c.args.profile.now.holds c.args.job.now c.args.lo c.args.hi c.loop-start.start c.placement_at.new.sweep c.in_ok-placed.placed
          c.loop-start.invariant.none_placed is nothing c.requires.last swept c.placement_at.ensures.second;
      from = omega (arith, c.loop-start.invariant.from, swept.later, c.placement_at.ensures.second);
      swept = swept;
      order = omega (arith, swept.later);
    }

pub returns-clause-placed : goal.returns-clause-placed
returns-clause-placed g c =
    placed-none c.args.base.now.rooms c.args.profile.now.holds c.args.job.now c.args.lo c.args.hi c.loop-start.start
    c.loop-start-test.false c.loop-start.invariant.none_placed

pub returns-then-hi-lo-clause-placed : goal.returns-then-hi-lo-clause-placed
returns-then-hi-lo-clause-placed g c =
    placed-none c.args.base.now.rooms c.args.profile.now.holds c.args.job.now c.args.lo c.args.hi (c.args.hi + 1) (omega arith)
    (λ second low high below. absurd (omega (arith, low, high, c.if-hi-lo.true)))
