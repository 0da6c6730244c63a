-- The jobs so far are shown.
use Rattle.std.proofs.Common.{◌≡◌, ◌+◌, length, min}
use Rattle.job_table.proofs.Marks.{ShowsWithin}
use Rattle.job_table.proofs.blocks.count.Given as goal

abbrev pub invariant-loop-place : goal.invariant-loop-place
invariant-loop-place l = record {
  shown : ShowsWithin l.block l.jobs l.first l.place;
  end : l.place-end ≡ min (length l.jobs) (l.first + 64);
}
