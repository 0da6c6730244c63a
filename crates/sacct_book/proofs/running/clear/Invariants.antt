use Rattle.std.proofs.Common.{◌≡◌, ◌<◌, ℕ, get_or, vec_len}
use Rattle.sacct_book.proofs.running.clear.Given as goal

abbrev pub invariant-loop-place : goal.invariant-loop-place
invariant-loop-place l = record {
  len : vec_len l.held ≡ vec_len l.fn.held;
  each : (at : ℕ) → at < l.place → get_or l.held.items at 0 ≡ 0;
}
