use Rattle.std.proofs.Common.{◌≡◌, ◌+◌, length}
use Rattle.slurm_tests.proofs.marks.mark_often.Given as goal

abbrev pub invariant-loop-done : goal.invariant-loop-done
invariant-loop-done g l = (l.pass.lock ≡ l.initial.pass.lock) × (l.pass.number ≡ l.initial.pass.number) × (l.pass.taken ≡ l.initial.pass.taken) × (length l.pass.mine ≡ length l.initial.pass.mine + l._done)
