-- None that is left out holds processors.
use Rattle.std.proofs.Common.{take, arith}
use Rattle.ctl_state.specs.Counted.{holding}
use Rattle.ctl_state.proofs.Holding.{holding-next, holding-rest}
use Rattle.ctl_state.proofs.counting.count_holding.Goals as goal

pub loop-place-init : goal.loop-place-init
unfolding holding
loop-place-init c = record {
  counted = c.in_ok-tally.ensures c.args.assocs.now.records;
  within = omega arith;
}

pub loop-place-smaller : goal.loop-place-smaller
loop-place-smaller c =
    let there = rw c.in-Some.is at c.next_holding.ensures.there in omega (arith, there.0, there.1)

pub loop-place-preserved : goal.loop-place-preserved
loop-place-preserved c =
    let held = c.loop-place.invariant in
    let jobs = c.args.jobs.now.records in
    let there = rw c.in-Some.is at c.next_holding.ensures.there in
    let is = rw c.records-records.ensures.value at c.index-records-place.is in
    record {
      counted = rw (holding-next c.loop-place.from c.in-Some.place c.index-records-place.result jobs there.0 there.1 is
          (rw c.in-Some.is at c.next_holding.ensures.before))
          (c.in_ok-add.ensures (holding (take c.loop-place.from jobs)) held.counted);
      within = omega (arith, there.1);
    }

pub returns : goal.returns
returns c =
    let held = c.loop-place.invariant in
    rw (← holding-rest c.loop-place.from c.args.jobs.now.records held.within
    (rw c.in_default.is at c.next_holding.ensures.before)) held.counted
