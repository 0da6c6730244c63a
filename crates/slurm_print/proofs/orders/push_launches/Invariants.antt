use Rattle.std.proofs.Common.{◌≡◌, ◌++◌, take, flat_map}
use Rattle.slurm_print.specs.Orders.{launch_line}
use Rattle.slurm_print.proofs.orders.push_launches.Given as goal

abbrev pub invariant-loop-launch : goal.invariant-loop-launch
invariant-loop-launch l = l.out.items ≡ l.initial.out.items ++ flat_map launch_line (take l.launch-index l.launches)
