use Rattle.std.proofs.Common.{◌≡◌, ◌≤◌, ◌<◌, ℕ, get_or, vec_len}
use Rattle.sacct_book.specs.declared.timeline.Timeline.{Timeline}
use Rattle.sacct_book.specs.Times.{GoesOn, times_of}
use Rattle.sacct_book.proofs.timelines.go_on.Given as goal

-- those so far have gone on, and the others are as they were
abbrev pub invariant-loop-place : goal.invariant-loop-place
invariant-loop-place l = record {
  len : vec_len l.timelines ≡ vec_len l.fn.timelines;
  goes : (k : ℕ) (d : Timeline) → k < l.place
      → GoesOn l.moment (get_or l.held k 0) (times_of (get_or l.fn.timelines.items k d))
      (times_of (get_or l.timelines.items k d));
  rest : (k : ℕ) (d : Timeline) → l.place ≤ k → get_or l.timelines.items k d ≡ get_or l.fn.timelines.items k d;
}
