use Rattle.std.proofs.Common.{◌≡◌, ◌≤◌, length, ◌*◌}
use Rattle.std.specs.List.{filter, range_with_len}
use Rattle.plain_data.specs.Rows.{is_set}
use Rattle.plain_data.proofs.row.CpuIds.len.Given as goal

abbrev pub invariant-loop-word : goal.invariant-loop-word
invariant-loop-word l = (l.count ≡ length (filter (is_set l.word-items) (range_with_len 0 (64 * l.word-index)))) × (l.count ≤ 64 * l.word-index)
