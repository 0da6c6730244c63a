use Rattle.std.proofs.Common.{◌≡◌, get_or, take, sum_by}
use Rattle.plan_keeper.proofs.old_list.sum_of.Given as goal

-- the sum of the first nodes' counts
abbrev pub invariant-loop-node : goal.invariant-loop-node
invariant-loop-node l = l.sum ≡ sum_by (λ node. get_or l.counts node 0) (take l.node-index l.nodes)
