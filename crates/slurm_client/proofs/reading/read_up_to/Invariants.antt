use Rattle.std.proofs.Common.{◌≡◌, ◌-◌, ◌≤◌, vec_len}
use Rattle.slurm_client.specs.Reading.{Gains, WritesStay}
use Rattle.slurm_client.proofs.reading.read_up_to.Given as goal

-- what was read so far stands behind the bytes that were there
abbrev pub invariant-loop-piece : goal.invariant-loop-piece
invariant-loop-piece g l = record {
  within : vec_len l.bytes ≤ l.want;
  gains : Gains (g.L.Link.wire l.initial.link) (g.L.Link.wire l.link) l.initial.bytes.items l.bytes.items;
  reads : (g.L.Link.wire l.link).reads ≡ (g.L.Link.wire l.initial.link).reads;
  writes : WritesStay (g.L.Link.wire l.initial.link) (g.L.Link.wire l.link);
}

abbrev pub decreases-loop-piece : goal.decreases-loop-piece
decreases-loop-piece g l = l.want - vec_len l.bytes
