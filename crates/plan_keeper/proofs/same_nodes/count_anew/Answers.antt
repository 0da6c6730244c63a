use Rattle.plan_keeper.proofs.Counting.{counted-none}
use Rattle.plan_keeper.proofs.same_nodes.count_anew.Goals as goal

pub loop-part-init : goal.loop-part-init
loop-part-init c = counted-none c.args.old.now c.args.new.now c.args.now c.args.kept.now.same.seconds.items c.args.kept.now.no_freer.seconds.items
