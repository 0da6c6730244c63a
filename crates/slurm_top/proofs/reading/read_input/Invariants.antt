use Rattle.std.proofs.Common.{◌≡◌, ◌-◌, ◌≤◌, vec_len}
use Rattle.std.specs.Io.KnownBytes.{Consumes}
use Rattle.slurm_client.specs.Reading.{WritesStay}
use Rattle.slurm_top.proofs.reading.read_input.Given as goal

-- what was read so far is there
abbrev pub invariant-loop-piece : goal.invariant-loop-piece
invariant-loop-piece g l = record {
  within : vec_len l.bytes ≤ 65537;
  consumed : Consumes (g.L.Link.wire l.initial.own).left (g.L.Link.wire l.own).left l.bytes.items;
  reads : (g.L.Link.wire l.own).reads ≡ (g.L.Link.wire l.initial.own).reads;
  writes : WritesStay (g.L.Link.wire l.initial.own) (g.L.Link.wire l.own);
}

abbrev pub decreases-loop-piece : goal.decreases-loop-piece
decreases-loop-piece g l = 65537 - vec_len l.bytes
