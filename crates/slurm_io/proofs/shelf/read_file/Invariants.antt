use Rattle.std.proofs.Common.{◌≡◌, ◌+◌, ◌-◌, ◌≤◌, vec_len}
use Rattle.slurm_io.proofs.Reading.{IsFrontIn}
use Rattle.slurm_io.proofs.shelf.read_file.Given as goal

-- what was read so far is a front of the file, and each read has counted no fault
abbrev pub invariant-loop-piece : goal.invariant-loop-piece
invariant-loop-piece g l = record {
  small : vec_len l.bytes ≤ l.most + 1;
  front : IsFrontIn (g.Q.Shelf.files l.fn.shelf) l.name l.bytes.items;
  uncounted : g.Q.Shelf.shelf_faults l.shelf ≡ g.Q.Shelf.shelf_faults l.fn.shelf;
  kept : g.Q.Shelf.files l.shelf ≡ g.Q.Shelf.files l.fn.shelf;
}

abbrev pub decreases-loop-piece : goal.decreases-loop-piece
decreases-loop-piece g l = l.most + 1 - vec_len l.bytes
