use Rattle.std.proofs.Common.{◌<◌, length, Some, arith}
use Rattle.run_limits.specs.Tree.{is_within}
use Rattle.run_limits.proofs.Nodes.{parent_at-node}
use Rattle.run_limits.proofs.Ways.{under-less, added-low, steps-less, owed-step, owed-here, owed-end}
use Rattle.run_limits.proofs.sums.charge.Goals as goal

pub add-requires-in-Some-clause-room : goal.add-requires-in-Some-clause-room
add-requires-in-Some-clause-room c =
    let low : c.in-Some.place < length c.args.nodes.now = rw c.in-Some.is at c.loop-at.invariant.place in
    let now = rw c.in-Some.is at (c.loop-at.invariant.sums (Some c.in-Some.place)) in
    let here = owed-here c.args.nodes.now c.requires.tree c.in-Some.place c.args.by low in
    omega (arith, now, here, added-low (is_within c.args.nodes.now (Some c.in-Some.place) c.args.place) c.args.by, c.requires.room (Some c.in-Some.place))

pub loop-at-smaller : goal.loop-at-smaller
loop-at-smaller c =
    let low : c.in-Some.place < length c.args.nodes.now = rw c.in-Some.is at c.loop-at.invariant.place in
    let under = rw (parent_at-node c.args.nodes.now c.in-Some.place low) at (c.requires.tree.parents c.in-Some.place) in
    rw c.in-Some.is (steps-less c.in-Some.place _ under)

pub loop-at-preserved : goal.loop-at-preserved
loop-at-preserved c =
    let low : c.in-Some.place < length c.args.nodes.now = rw c.in-Some.is at c.loop-at.invariant.place in
    let parent = parent_at-node c.args.nodes.now c.in-Some.place low in
    let under = rw parent at (c.requires.tree.parents c.in-Some.place) in
    record {
      place = under-less c.in-Some.place (length c.args.nodes.now) (omega (arith, low)) _ under;
      len = omega (arith, c.add-in-Some.ensures.len, c.loop-at.invariant.len);
      sums = λ one.
          let now = rw c.in-Some.is at (c.loop-at.invariant.sums one) in
          let step = rw parent at (owed-step c.args.nodes.now c.requires.tree one c.in-Some.place c.args.by low) in
          omega (arith, now, step, c.add-in-Some.ensures.sums one);
    }

pub returns-clause-sums : goal.returns-clause-sums
returns-clause-sums c = λ one.
    let now = rw c.in_default.is at (c.loop-at.invariant.sums one) in
    omega (arith, now, owed-end c.args.nodes.now c.requires.tree one c.args.by)
