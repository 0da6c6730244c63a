use Rattle.std.proofs.Common.{◌≡◌, vec_len}
use Rattle.server_table.proofs.gates.worker_gates.Given as goal

-- a gate for each worker so far
abbrev pub invariant-loop-worker : goal.invariant-loop-worker
invariant-loop-worker l = vec_len l.gates ≡ l.worker
