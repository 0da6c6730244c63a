use Rattle.std.proofs.Common.{ℕ, ◌-◌, ◌≤◌, ◌<◌, min, length, get_or, arith, inl, inr}
use Rattle.std.proofs.lemmas.Bool.{cases_lt}
use Rattle.resource_profile.specs.declared.levels.Level.{Level}
use Rattle.resource_profile.proofs.LevelLeast.{IsRead, least-read, read-one, read-more, begins-more, read-bounds}
use Rattle.resource_profile.proofs.LevelEdits.{in-order}
use Rattle.resource_profile.proofs.levels.least_free.Goals as goal
use Rattle.resource_profile.proofs.levels.least_free.Goals.{then-loop-place-test+else-levels-place, else-loop-place-test}

pub loop-place-init : goal.loop-place-init
loop-place-init c =
    let levels = c.args.levels.now in
    let begun = c.begun-begun.result in
    let some = c.begun-begun.ensures.some in
    let within = c.begun-begun.ensures.bound in
    record {
      low = omega arith;
      high = within;
      begin = λ i d low high. absurd (omega arith);
      cpus = read-one (λ amount. amount.cpus) levels begun _ some within;
      mem = read-one (λ amount. amount.mem) levels begun _ some within;
    }

pub loop-place-preserved : goal.loop-place-preserved
loop-place-preserved c =
    let levels = c.args.levels.now in
    let begun = c.begun-begun.result in
    let place = c.loop-place.place in
    let inside : place < length levels = c.loop-place-test.true in
    record {
      low = omega (arith, c.loop-place.invariant.low);
      high = omega arith;
      begin = begins-more levels begun place c.args.until _ inside c.loop-place.invariant.begin c.if-levels-place.true;
      cpus = rw (c.with-lowest.ensures.cpus, c.with-lowest.ensures.behind_cpus) (read-more (λ amount. amount.cpus) levels begun place c.loop-place.lowest.free.cpus c.loop-place.lowest.behind_cpus _ c.loop-place.invariant.low inside c.loop-place.invariant.cpus);
      mem = rw (c.with-lowest.ensures.mem, c.with-lowest.ensures.behind_mem) (read-more (λ amount. amount.mem) levels begun place c.loop-place.lowest.free.mem c.loop-place.lowest.behind_mem _ c.loop-place.invariant.low inside c.loop-place.invariant.mem);
    }

pub returns : goal.returns
returns c = λ free levelled.
    let levels = c.args.levels.now in
    let begun = c.begun-begun.result in
    let place = c.loop-place.place in
    let none : Level = record { from = 0; free = record { cpus = 0; mem = 0 } } in
    let stops : place < length levels → c.args.until ≤ (get_or levels place none).from = elim c.loop-place-test.branch [
      | then-loop-place-test+else-levels-place w ↦ λ inside. w.if-levels-place.false
      | else-loop-place-test w ↦ λ inside. absurd (omega (arith, w.loop-place-test.false, inside))
    ] in
    let begins = c.begin_of-begins_before.result in
    let ends = c.begin_of.result in
    let stop = c.reach-end.result in
    let behind_cpus = c.loop-place.lowest.behind_cpus in
    let behind_mem = c.loop-place.lowest.behind_mem in
    let read : (behind : ℕ) → min behind_cpus behind_mem ≤ behind → IsRead levels (begun - 1) place stop behind c.args.from c.args.until begins ends = λ behind least.
    read-bounds levels begun place stop behind (min behind_cpus behind_mem) c.args.from c.args.until begins ends c.requires.levels c.begun-begun.ensures.some c.loop-place.invariant.low c.reach-end.ensures.low c.reach-end.ensures.high least
    c.begun-begun.ensures.before c.loop-place.invariant.begin (rw c.min.ensures at c.begin_of-begins_before.ensures.inside) c.begin_of.ensures.inside in
    let cpus_low = c.loop-place.invariant.cpus.low in
    let mem_low = c.loop-place.invariant.mem.low in
    record {
      begins = elim (cases_lt (min behind_cpus behind_mem) (length levels)) [
        | inl inside ↦ omega (arith, (rw c.min.ensures at c.begin_of-begins_before.ensures.inside) none inside, c.begun-begun.ensures.after (min behind_cpus behind_mem) none (omega (arith, cpus_low, mem_low)) inside)
        | inr past ↦ omega (arith, (rw c.min.ensures at c.begin_of-begins_before.ensures.past) past, c.requires.window, c.ranges.until.fits)
      ];
      ends = elim (cases_lt stop (length levels)) [
        | inl inside ↦ omega (arith, c.begin_of.ensures.inside none inside, stops (omega (arith, c.reach-end.ensures.low, inside)), in-order levels stop place none c.requires.levels c.reach-end.ensures.low inside)
        | inr past ↦ omega (arith, c.begin_of.ensures.past past, c.ranges.until.fits)
      ];
      cpus = λ begin end low high end_low end_high window. least-read (λ amount. amount.cpus) free levels (begun - 1) place stop behind_cpus c.args.from c.args.until begins ends c.loop-place.lowest.free.cpus begin end levelled (read behind_cpus (omega arith)) c.loop-place.invariant.cpus c.reach-end.ensures.cpus low high end_low end_high window;
      mem = λ begin end low high end_low end_high window. least-read (λ amount. amount.mem) free levels (begun - 1) place stop behind_mem c.args.from c.args.until begins ends c.loop-place.lowest.free.mem begin end levelled (read behind_mem (omega arith)) c.loop-place.invariant.mem c.reach-end.ensures.mem low high end_low end_high window;
    }
