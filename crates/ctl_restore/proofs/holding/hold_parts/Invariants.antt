-- The parts so far are held besides.
use Rattle.std.proofs.Common.{◌≡◌, map, take, true}
use Rattle.ctl_state.specs.Planning.{room_of}
use Rattle.ctl_restore.specs.Steps.{Holds}
use Rattle.ctl_restore.proofs.holding.hold_parts.Given as goal

abbrev pub invariant-loop-part : goal.invariant-loop-part
invariant-loop-part l = record {
  holds : Holds (map room_of l.fn.nodes.records) l.fn.nodes.held l.nodes.held (take l.part-index l.parts) true;
  records : l.nodes.records ≡ l.fn.nodes.records;
}
