-- Shares and jobs whose places are others now: the new place is told for each old one, or by the names that stand there.
use Rattle.std.specs.Prelude.{ℕ, List, map, slice_index}
use Rattle.backfill_planner.specs.declared.Placed.{Placed}
use Rattle.backfill_planner.specs.declared.Share.{Share}
use Rattle.job_table.specs.declared.record.JobRecord.{JobRecord}
use Rattle.ctl_reconfigure.specs.Names.{new_place}

abbrev pub share_moved : List ℕ → Share → Share
share_moved places share = record share { node = slice_index places share.node }

abbrev pub placed_moved : List ℕ → Placed → Placed
placed_moved places placed = record placed { parts = map (share_moved places) placed.parts }

-- the placement, on the nodes of the same names
abbrev pub placed_renamed : List (List ℕ) → List (List ℕ) → Placed → Placed
placed_renamed before now placed = record placed {
  parts = map (λ (share : Share). record share { node = new_place before now share.node }) placed.parts;
}

-- the job, of the partition of the same name
abbrev pub job_renamed : List (List ℕ) → List (List ℕ) → JobRecord → JobRecord
job_renamed before now job = record job { partition = new_place before now job.partition }
