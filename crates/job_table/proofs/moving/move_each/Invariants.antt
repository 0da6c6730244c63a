-- The parts so far have moved.
use Rattle.std.proofs.Common.{◌≡◌}
use Rattle.job_table.specs.Moving.{part_moved}
use Rattle.job_table.specs.Walks.{walked}
use Rattle.job_table.proofs.moving.move_each.Given as goal

abbrev pub invariant-loop-part : goal.invariant-loop-part
invariant-loop-part l = l.parts ≡ walked (part_moved l.places) l.part-index l.fn.parts
