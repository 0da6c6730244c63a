use Rattle.std.proofs.Common.{◌≡◌, ◌<◌, ◌≤◌, ℕ, get_or, bit_or}
use Rattle.plain_data.proofs.row.CpuIds.insert_all.Given as goal

abbrev pub invariant-loop-place : goal.invariant-loop-place
invariant-loop-place l = ((k : ℕ) → k < l.place → get_or l.self-inside.words k 0 ≡ bit_or (get_or l.initial.self-inside.words k 0) (get_or l.more-inside.words k 0)) × ((k : ℕ) → l.place ≤ k → get_or l.self-inside.words k 0 ≡ get_or l.initial.self-inside.words k 0)
