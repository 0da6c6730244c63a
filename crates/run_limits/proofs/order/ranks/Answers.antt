use Rattle.std.proofs.Common.{◌≡◌, ◌+◌, ◌-◌, ◌<◌, length, get_or, sym, arith}
use Rattle.run_limits.proofs.Ranking.{nowhere, StandsIn, StandsIn-next, ranks-next}
use Rattle.run_limits.proofs.order.ranks.Goals as goal
use Rattle.run_limits.proofs.order.ranks.Goals.{then-falls, else-falls}

pub loop-index-preserved : goal.loop-index-preserved
loop-index-preserved c =
    let levels = c.as_slice-levels.result.now in
    let spans = c.as_slice-spans.result.now in
    let index = c.loop-index.index in
    let low = c.loop-index-test.true in
    let sorted = rw (sym c.as_slice-levels.ensures.value, sym c.as_slice-spans.ensures.value) at c.requires.sorted in
    let apart = rw (sym c.as_slice-spans.ensures.value) at c.requires.apart in
    let users = rw (sym c.as_slice-spans.ensures.value) at c.requires.users in
    let next = StandsIn-next levels spans sorted index c.loop-index.ahead low c.loop-index.invariant.stands c.loop-index.invariant.low c.falls.result c.falls.ensures in
    let stands : StandsIn levels spans index c.if-falls.ahead = elim c.if-falls.branch [
      | then-falls w ↦ rw w.ahead-is (rw w.if-falls.true at next)
      | else-falls w ↦ rw w.ahead-is (rw w.if-falls.false at next)
    ] in
    let user : (get_or spans index nowhere).user < length c.loop-index.ranks.items =
    omega (arith, users index nowhere low, c.as_slice-spans.ensures.len, c.loop-index.invariant.len, c.loop-index.ranks.ok.0) in
    let back : index + 1 - 1 ≡ index = omega arith in
    record {
      len = c.loop-index.invariant.len;
      low = omega (arith, stands.low);
      stands = λ some. rw back stands;
      done = ranks-next levels spans sorted c.loop-index.ranks.items index c.if-falls.ahead low apart user stands c.loop-index.invariant.done;
    }
