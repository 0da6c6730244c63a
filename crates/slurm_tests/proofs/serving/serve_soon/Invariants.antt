use Rattle.std.proofs.Common.{◌≡◌, None}
use Rattle.slurm_tests.proofs.serving.serve_soon.Given as goal

-- no link is out between the looks
abbrev pub invariant-loop : goal.invariant-loop
invariant-loop g l = g.D.Door.out l.door ≡ None
