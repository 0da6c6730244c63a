-- What is left out holds nothing, and so has used nothing.
use Rattle.std.proofs.Common.{◌≡◌, arith, get_or, take}
use Rattle.ctl_waiting.specs.Usage.{running_usage}
use Rattle.ctl_waiting.proofs.Charged.{running-gap, running-more, running-none, running-rest}
use Rattle.ctl_waiting.proofs.usage.add_running.Goals as goal

pub loop-place-init : goal.loop-place-init
loop-place-init c = record {
  len = omega arith;
  each = λ at inside.
      let none : running_usage c.args.now (take 0 c.args.jobs.now.records) at ≡ 0 = running-none c.args.now at in
      omega (arith, none, c.requires.small at);
  within = omega arith;
}

pub loop-place-smaller : goal.loop-place-smaller
loop-place-smaller c =
    let there = rw c.in-Some.is at c.next_holding.ensures.there in omega (arith, there.0, there.1)

pub loop-place-preserved : goal.loop-place-preserved
loop-place-preserved c =
    let held = c.loop-place.invariant in
    let jobs = c.args.jobs.now.records in
    let place = c.in-Some.place in
    let there = rw c.in-Some.is at c.next_holding.ensures.there in
    let job = c.index-records-place.result in
    let is = rw c.records-records.ensures.value at c.index-records-place.is in
    record {
      len = omega (arith, c.grow.ensures.len, held.len);
      each = λ at inside.
          let gap = running-gap c.args.now at c.loop-place.from place jobs there.0
          (rw c.in-Some.is at c.next_holding.ensures.before) in
          running-more c.args.now at jobs place job there.1 is (get_or c.args.usage.now.items at 0)
          (get_or c.loop-place.usage.items at 0) (get_or c.grow.new.usage.items at 0) c.used_running.result
          (rw (← gap) at (held.each at inside))
          c.used_running.ensures (c.grow.ensures.each at (omega (arith, inside, held.len)));
      within = omega (arith, there.1);
    }

pub returns-clause-each : goal.returns-clause-each
returns-clause-each c = λ at inside.
    let held = c.loop-place.invariant in
    let rest = running-rest c.args.now at c.loop-place.from c.args.jobs.now.records held.within
    (rw c.in_default.is at c.next_holding.ensures.before) in
    rw (← rest) (held.each at inside)
