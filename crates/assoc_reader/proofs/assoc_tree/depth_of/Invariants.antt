use Rattle.std.proofs.Common.{◌≡◌, ◌+◌, ◌-◌, suc, length}
use Rattle.plain_data.specs.Assocs.{greatest_depth, parents_in, way_up}
use Rattle.assoc_reader.specs.Tree.{depth_of}
use Rattle.assoc_reader.proofs.assoc_tree.depth_of.Given as goal

abbrev pub invariant-loop-level : goal.invariant-loop-level
invariant-loop-level l =
    l.level + length (way_up (suc greatest_depth - l.level) (parents_in l.assocs) l.at) ≡ depth_of l.fn.parent l.assocs
