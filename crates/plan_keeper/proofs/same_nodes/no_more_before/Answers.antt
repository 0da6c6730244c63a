use Rattle.std.proofs.Common.{arith}
use Rattle.plan_keeper.proofs.Freeing.{no-more-from, no-more-next}
use Rattle.plan_keeper.proofs.same_nodes.no_more_before.Goals as goal

pub loop-second-init : goal.loop-second-init
loop-second-init c = record {
  later = omega arith;
  free = no-more-from c.args.old.now c.args.new.now c.args.now c.args.node c.args.from c.requires.from;
}

pub loop-second-preserved : goal.loop-second-preserved
loop-second-preserved c =
    let before = c.free_over-before.result in
    let after = c.free_over-after.result in
    let next = c.min-second.result in
    record {
      later = omega (arith, c.loop-second.invariant.later, c.min.ensures, c.min-in-loop-second.ensures, c.min-second.ensures, c.free_over-before.ensures.begins, c.free_over-before.ensures.ends, c.free_over-after.ensures.begins, c.free_over-after.ensures.ends);
      free = no-more-next c.args.old.now c.args.new.now c.args.now c.args.node c.loop-second.second next before after c.free_over-before.ensures c.free_over-after.ensures
          (omega (arith, c.if-before-after.false)) (omega (arith, c.if-before-after-2.false)) c.loop-second.invariant.free
          (omega (arith, c.min.ensures, c.min-in-loop-second.ensures, c.min-second.ensures))
          (omega (arith, c.min.ensures, c.min-in-loop-second.ensures, c.min-second.ensures))
          (omega (arith, c.min.ensures, c.min-in-loop-second.ensures, c.min-second.ensures))
          (omega (arith, c.min.ensures, c.min-in-loop-second.ensures, c.min-second.ensures));
    }
