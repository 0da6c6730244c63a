use Rattle.std.proofs.Common.{◌≡◌, ◌<◌, ◌≤◌, ℕ, get_or, bit_and, w64}
use Rattle.std.specs.Int.{bit_not}
use Rattle.plain_data.proofs.row.CpuIds.remove_all.Given as goal

abbrev pub invariant-loop-place : goal.invariant-loop-place
invariant-loop-place l = ((k : ℕ) → k < l.place → get_or l.self-inside.words k 0 ≡ bit_and (get_or l.initial.self-inside.words k 0) (bit_not w64 (get_or l.gone-inside.words k 0))) × ((k : ℕ) → l.place ≤ k → get_or l.self-inside.words k 0 ≡ get_or l.initial.self-inside.words k 0)
