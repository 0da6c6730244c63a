-- The parts so far are on nodes that differ, and these were seen.
use Rattle.std.proofs.Common.{◌≡◌, ℕ, take}
use Rattle.std.specs.List.{list_any}
use Rattle.plain_data.specs.Rows.{has_id}
use Rattle.job_table.specs.Changes.{is_on}
use Rattle.ctl_state.specs.Holding.{OnNodesApart}
use Rattle.ctl_restore.proofs.kept.are_apart.Given as goal

abbrev pub invariant-loop-part : goal.invariant-loop-part
invariant-loop-part l = record {
  seen : (node : ℕ) → has_id l.seen node ≡ list_any (is_on node) (take l.part-index l.parts);
  apart : OnNodesApart (take l.part-index l.parts);
}
