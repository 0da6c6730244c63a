use Rattle.std.proofs.Common.{◌≡◌}
use Rattle.std.specs.List.{flat_map, range_with_len}
use Rattle.sacct_book.specs.Lines.{line_at}
use Rattle.sacct_book.proofs.lines.lines.Given as goal

-- the lines of the associations so far
abbrev pub invariant-loop-place : goal.invariant-loop-place
invariant-loop-place l =
    l.out.items ≡ flat_map (line_at l.sums (record { from = l.from; until = l.until }) l.now) (range_with_len 0 l.place)
