use Rattle.std.proofs.Common.{take}
use Rattle.plan_keeper.specs.Kept.{AreCountedAnew}
use Rattle.plan_keeper.proofs.same_nodes.count_anew.Given as goal

-- the nodes of the first parts are counted
abbrev pub invariant-loop-part : goal.invariant-loop-part
invariant-loop-part l = AreCountedAnew l.old l.new l.now (take l.part-index l.parts) l.fn.kept.same.seconds.items l.fn.kept.no_freer.seconds.items l.kept.same.seconds.items l.kept.no_freer.seconds.items
