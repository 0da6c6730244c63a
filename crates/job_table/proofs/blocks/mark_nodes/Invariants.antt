-- The parts so far are marked.
use Rattle.std.proofs.Common.{◌≡◌, ℕ, true}
use Rattle.std.specs.List.{AllWithin}
use Rattle.plain_data.specs.Rows.{has_id}
use Rattle.job_table.specs.Blocks.{HasMark}
use Rattle.job_table.proofs.blocks.mark_nodes.Given as goal

abbrev pub invariant-loop-part : goal.invariant-loop-part
invariant-loop-part l = record {
  marked : AllWithin (HasMark l.marks) l.parts 0 l.part-index;
  stays : (number : ℕ) → has_id l.fn.marks number ≡ true → has_id l.marks number ≡ true;
}
