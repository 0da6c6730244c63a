use Rattle.std.proofs.Common.{◌≡◌, ◌<◌, ℕ, get_or, map, vec_len}
use Rattle.sacct_book.specs.declared.timeline.Timeline.{Timeline}
use Rattle.sacct_book.specs.Times.{HasRoom, times_of}
use Rattle.sacct_book.proofs.timelines.make_room.Given as goal

-- those so far have room, and all tell what they told
abbrev pub invariant-loop-place : goal.invariant-loop-place
invariant-loop-place l = record {
  len : vec_len l.timelines ≡ vec_len l.fn.timelines;
  same : map times_of l.timelines.items ≡ map times_of l.fn.timelines.items;
  room : (k : ℕ) (d : Timeline) → k < l.place → HasRoom (get_or l.timelines.items k d);
}
