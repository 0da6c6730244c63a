-- The blocks so far are marked.
use Rattle.std.proofs.Common.{◌≡◌, vec_len}
use Rattle.job_table.specs.Blocks.{AreMarked}
use Rattle.job_table.proofs.blocks.count_from.Given as goal

abbrev pub invariant-loop-block : goal.invariant-loop-block
invariant-loop-block l = record {
  count : vec_len l.blocks ≡ l.block;
  marked : AreMarked l.blocks.items l.jobs;
}
