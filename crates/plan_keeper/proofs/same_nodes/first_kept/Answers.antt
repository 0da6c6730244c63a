use Rattle.std.proofs.Common.{◌≡◌, ◌++◌, ◌∷◌, [], arith}
use Rattle.std.proofs.lemmas.Grind.{common_steps}
use Rattle.plan_keeper.specs.Kept.{IsKeptFrom}
use Rattle.plan_keeper.proofs.Listing.{pair-more}
use Rattle.plan_keeper.proofs.same_nodes.first_kept.Goals as goal

pub loop-node-preserved : goal.loop-node-preserved
loop-node-preserved c =
    let same = c.loop-node.same.items in
    let no_freer = c.loop-node.no_freer.items in
    let seconds = c.seconds_of-seconds.result in
    let pushed : c.push.new.self.items ≡ same ++ seconds.0 ∷ [] = rw c.unwrap.ensures at c.push.ensures.items in
    let pushed_too : c.push-in-loop-node.new.self.items ≡ no_freer ++ seconds.1 ∷ [] = rw c.unwrap-in-loop-node.ensures at c.push-in-loop-node.ensures.items in
    let was = c.loop-node.invariant in
    record {
      long = grind (arith, common_steps, pushed, was.long);
      long_no_freer = grind (arith, common_steps, pushed_too, was.long_no_freer);
      len = grind (arith, common_steps);
      len_no_freer = grind (arith, common_steps);
      room = grind (arith, common_steps);
      room_no_freer = grind (arith, common_steps);
      each = λ node below. rw (pushed, pushed_too) (pair-more (λ node one other. IsKeptFrom c.args.old.now c.args.new.now c.args.now node one other) same no_freer c.loop-node.node seconds.0 seconds.1 was.long was.long_no_freer was.each c.seconds_of-seconds.ensures node below);
    }
