-- What types keep of a saved state, by groups of its fields. Of the proof alone.
use Rattle.std.specs.Prelude.{All}
use Rattle.job_table.specs.declared.terms.Terms.{Terms}
use Rattle.saved_data.specs.declared.job.SavedJob.{SavedJob}
use Rattle.saved_data.specs.declared.saved.Saved.{Saved}
use Rattle.state_save.specs.Fitting.{FitsU32, FitsU64, IsWithin, IsName, IsJobName, FitsOptional, LimitFits, MemFits, NiceFits, PartFits}
use Rattle.state_save.specs.Savable.{PartitionFits, NodeFits, DroppedFits, UsageFits, ReservationFits, ArrayFits, PlacedFits}

pub record NamesTyped (terms : Terms) : Type 0 where
  pub name : IsJobName terms.name
  pub account : IsName terms.account
  pub qos : IsName terms.qos
  pub reservation : FitsOptional IsName terms.reservation

pub record SizesTyped (terms : Terms) : Type 0 where
  pub tasks : IsWithin 1 1_048_576 terms.tasks
  pub cpus : IsWithin 1 1024 terms.cpus_per_task
  pub per_node : FitsOptional (IsWithin 1 1024) terms.tasks_per_node
  pub least : IsWithin 1 1024 terms.min_nodes
  pub most : FitsOptional (IsWithin 1 1024) terms.max_nodes
  pub mem : MemFits terms.mem

pub record RunTyped (terms : Terms) : Type 0 where
  pub begin : FitsOptional (IsWithin 0 250_000_000_000) terms.begin
  pub at_once : FitsOptional (IsWithin 1 4_294_967_295) terms.at_once
  pub run : IsWithin 1 2_000_000_000 terms.run
  pub exit : IsWithin 0 255 terms.exit

pub record PersonTyped (job : SavedJob) : Type 0 where
  pub id : FitsU32 job.id
  pub array : FitsOptional FitsU32 job.array
  pub index : FitsOptional FitsU32 job.index
  pub user : IsName job.user
  pub partition : IsName job.partition
  pub limit : LimitFits job.limit
  pub nice : NiceFits job.nice

pub record TimesTyped (job : SavedJob) : Type 0 where
  pub submit : FitsU64 job.submit
  pub eligible : FitsU64 job.eligible
  pub starts : FitsU32 job.starts
  pub started : FitsOptional FitsU64 job.started
  pub ended : FitsOptional FitsU64 job.ended
  pub exit : FitsOptional FitsU32 job.exit

pub record HoldsTyped (job : SavedJob) : Type 0 where
  pub last_nodes : All IsName job.last_nodes
  pub parts : All PartFits job.parts

pub record ClusterTyped (saved : Saved) : Type 0 where
  pub moment : FitsU64 saved.moment
  pub next_id : FitsU32 saved.next_id
  pub partitions : All PartitionFits saved.partitions
  pub nodes : All NodeFits saved.nodes
  pub dropped : All DroppedFits saved.dropped
  pub usage : All UsageFits saved.usage

pub record PlansTyped (saved : Saved) : Type 0 where
  pub reservations : All ReservationFits saved.reservations
  pub arrays : All ArrayFits saved.arrays
  pub plan : All PlacedFits saved.plan
