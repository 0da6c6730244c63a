-- What placements and jobs are like that are to start.
use Rattle.std.specs.Prelude.{◌≡◌, ◌≢◌, ℕ, ◌≤◌, true, List, [], length, map, filter_map, slice_get, vec_capacity, All, AllPairs, Option, option_map, IfSome, ◌∷◌, ◌++◌}
use Rattle.backfill_planner.specs.declared.Placed.{Placed}
use Rattle.backfill_planner.specs.declared.Share.{Share}
use Rattle.job_table.specs.declared.record.JobRecord.{JobRecord}
use Rattle.job_table.specs.Table.{HaveRisingIds, job_with}
use Rattle.node_state.specs.declared.record.NodeRecord.{NodeRecord}
use Rattle.run_limits.specs.declared.record.AssocRecord.{AssocRecord}
use Rattle.run_limits.specs.declared.counted.Counted.{Counted}
use Rattle.run_limits.specs.declared.tally.Tally.{Tally}
use Rattle.run_limits.specs.Tallies.{Shows}
use Rattle.ctl_state.specs.Counted.{counted_of, holding}
use Rattle.ctl_state.specs.Events.{waits}
use Rattle.ctl_pass.specs.declared.starts.DueStart.{DueStart}

-- the names of the nodes of these shares
abbrev pub names_at : List NodeRecord → List Share → List (List ℕ)
names_at nodes shares =
    filter_map
    (λ (share : Share). option_map (λ (node : NodeRecord). node.conf.name) (slice_get nodes share.node))
    shares

-- a start is prepared: it has the names of its nodes, and room for its parts, of which none is there yet
pub record IsPrepared (nodes : List NodeRecord) (start : DueStart) : Type 0 where
  pub names : start.nodes ≡ names_at nodes start.placed.parts
  pub empty : start.parts.items ≡ []
  pub room : length start.placed.parts ≤ vec_capacity start.parts

-- what these starts were planned as
abbrev pub placements_of : List DueStart → List Placed
placements_of starts = map (λ (start : DueStart). start.placed) starts

-- the tally shows one job more than before: this one, if there is one
abbrev pub CountsOneMore : List AssocRecord → Option JobRecord → Tally → Tally → Type 0
CountsOneMore assocs found before after =
    IfSome found
    (λ (job : JobRecord). (some : List Counted) → Shows assocs before some
    → Shows assocs after (some ++ counted_of job ∷ []))

-- the placement's job is among the jobs just as it is in the table, and waits
pub record Awaits (table jobs : List JobRecord) (placed : Placed) : Type 0 where
  pub waits : waits (job_with placed.id jobs) ≡ true
  pub same : job_with placed.id jobs ≡ job_with placed.id table

-- those of the jobs that hold processors are counted, and each placement is of another job that waits
pub record CanBegin (assocs : List AssocRecord) (table jobs : List JobRecord) (tally : Tally)
    (placements : List Placed) : Type 0 where
  pub rising : HaveRisingIds jobs
  pub counted : Shows assocs tally (holding jobs)
  pub awaits : All (Awaits table jobs) placements
  pub once : AllPairs (λ (one other : Placed). one.id ≢ other.id) placements
