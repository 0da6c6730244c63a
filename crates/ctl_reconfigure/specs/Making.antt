-- What a new file makes before any of it is put in force.
use Rattle.std.specs.Prelude.{◌≡◌, ℕ, is_none, IfSome, map}
use Rattle.plain_data.specs.Confs.{ConfView}
use Rattle.job_table.specs.declared.record.JobRecord.{JobRecord}
use Rattle.ctl_state.specs.State.{State}
use Rattle.ctl_reconfigure.specs.declared.reconfiguring.Made.{Made}
use Rattle.ctl_reconfigure.specs.Moves.{AreMoves}
use Rattle.ctl_reconfigure.specs.Names.{line_names, partition_names, places_of, same_names}
use Rattle.ctl_reconfigure.specs.Reconfiguring.{dropped_after, gone_after, keeps_places, nodes_after, part_after, partitions_after, plan_after, reservations_after, settings_after}

-- it is what the new file makes of the state at a moment
pub record IsMade (s : State) (moment : ℕ) (conf : ConfView) (made : Made) : Type 0 where
  pub settings : made.lines.settings ≡ settings_after s.settings conf.settings
  pub nodes : made.lines.nodes.records ≡ nodes_after s moment conf
  pub partitions : made.lines.partitions ≡ partitions_after s moment conf
  pub stay : is_none made.moves ≡ keeps_places s conf
  pub moves : IfSome made.moves (AreMoves s conf)
  pub same : is_none made.places ≡ same_names (partition_names s.partitions) (line_names conf.partitions)
  pub places : IfSome made.places (λ places. places.items
      ≡ places_of (partition_names s.partitions) (line_names conf.partitions))

-- the state once what tells of nodes by their places tells of the same ones
abbrev pub moved : State → ConfView → State
moved s conf = record s {
  dropped = dropped_after s conf;
  reservations = reservations_after s conf;
  jobs = map (λ (job : JobRecord). record job { parts = map (part_after s conf) job.parts }) s.jobs;
  plan = plan_after s conf;
  gone = gone_after s conf;
}
