use Rattle.std.specs.Io.KnownBytes.{Keeps}
use Rattle.slurm_io.proofs.system.read_through.Given as goal

-- a read that was interrupted took nothing
abbrev pub invariant-loop : goal.invariant-loop
invariant-loop g l = Keeps (g.R.Read.remaining l.fn.reader) (g.R.Read.remaining l.reader)
