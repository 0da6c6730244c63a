use Rattle.std.proofs.Common.{◌≡◌, ◌++◌, take, flat_map}
use Rattle.slurm_print.specs.Orders.{start_line}
use Rattle.slurm_print.proofs.orders.push_starts.Given as goal

abbrev pub invariant-loop-start : goal.invariant-loop-start
invariant-loop-start l = l.out.items ≡ l.initial.out.items ++ flat_map (start_line l.word) (take l.start-index l.starts)
