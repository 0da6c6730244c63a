use Rattle.std.proofs.Common.{rules, ◌≡◌, arith}
use Rattle.plan_keeper.proofs.Freeing.{free-more, free-told}
use Rattle.plan_keeper.proofs.same_nodes.same_before.Goals as goal
use Rattle.plain_data.specs.declared.seconds.TheConstants.{FOREVER}

pub returns-then-ne-clause-all : goal.returns-then-ne-clause-all
returns-then-ne-clause-all c = λ same.
    let before = c.free_over-before.result in
    let after = c.free_over-after.result in
    let told : before.free ≡ after.free = free-told c.args.old.now c.args.new.now c.args.now c.args.node c.loop-second.second FOREVER before after c.free_over-before.ensures c.free_over-after.ensures same c.loop-second.invariant.later c.loop-second-test.true in
    absurd (search (rules, told))

pub loop-second-preserved : goal.loop-second-preserved
loop-second-preserved c =
    let before = c.free_over-before.result in
    let after = c.free_over-after.result in
    let same : before.free ≡ after.free = search rules in
    let next = c.min-second.result in
    record {
      later = omega (arith, c.loop-second.invariant.later, c.min.ensures, c.min-in-loop-second.ensures, c.min-second.ensures, c.free_over-before.ensures.begins, c.free_over-before.ensures.ends, c.free_over-after.ensures.begins, c.free_over-after.ensures.ends);
      free = free-more c.args.old.now c.args.new.now c.args.now c.args.node c.loop-second.second next before after c.free_over-before.ensures c.free_over-after.ensures same c.loop-second.invariant.free
          (omega (arith, c.min.ensures, c.min-in-loop-second.ensures, c.min-second.ensures))
          (omega (arith, c.min.ensures, c.min-in-loop-second.ensures, c.min-second.ensures))
          (omega (arith, c.min.ensures, c.min-in-loop-second.ensures, c.min-second.ensures))
          (omega (arith, c.min.ensures, c.min-in-loop-second.ensures, c.min-second.ensures));
    }
