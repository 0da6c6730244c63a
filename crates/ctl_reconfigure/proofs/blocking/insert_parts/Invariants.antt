use Rattle.std.proofs.Common.{◌≡◌, ℕ, ◌||◌, take}
use Rattle.std.specs.List.{list_any}
use Rattle.plain_data.specs.Rows.{has_id}
use Rattle.job_table.specs.Changes.{is_on}
use Rattle.ctl_reconfigure.proofs.blocking.insert_parts.Given as goal

abbrev pub invariant-loop-part : goal.invariant-loop-part
invariant-loop-part l = (place : ℕ)
    → has_id l.places place ≡ (has_id l.fn.places place || list_any (is_on place) (take l.part-index l.parts))
