-- Which saved states have a text from which they can be read: their members stand in order, and each value is in the range
-- of its type and keeps the rules of sbatch(1).
use Rattle.std.specs.Prelude.{All}
use Rattle.job_table.specs.declared.terms.Terms.{Terms}
use Rattle.node_state.specs.declared.record.DroppedNode.{DroppedNode}
use Rattle.saved_data.specs.Order.{IsInOrder}
use Rattle.saved_data.specs.declared.job.SavedJob.{SavedJob}
use Rattle.saved_data.specs.declared.parts.SavedArray.{SavedArray}
use Rattle.saved_data.specs.declared.parts.SavedNode.{SavedNode}
use Rattle.saved_data.specs.declared.parts.SavedPartition.{SavedPartition}
use Rattle.saved_data.specs.declared.parts.SavedPlaced.{SavedPlaced}
use Rattle.saved_data.specs.declared.parts.SavedReservation.{SavedReservation}
use Rattle.saved_data.specs.declared.parts.SavedUsage.{SavedUsage}
use Rattle.saved_data.specs.declared.saved.Saved.{Saved}
use Rattle.state_save.specs.declared.cluster_lines.Head.{Head}
use Rattle.state_save.specs.Fitting.{FitsU32, FitsU64, IsWithin, IsName, IsJobName, FitsOptional, HeardFits, LimitFits, MemFits, NiceFits, AreHosts, FeaturesFit, DependencyFits, PartFits, ShareFits}

-- the line of the moment
pub record HeadFits (head : Head) : Type 0 where
  pub moment : FitsU64 head.moment
  pub next_id : FitsU32 head.next_id

abbrev pub PartitionFits : SavedPartition → Type 0
PartitionFits partition = IsName partition.name

pub record NodeFits (node : SavedNode) : Type 0 where
  pub named : IsName node.name
  pub heard : FitsOptional HeardFits node.heard

pub record DroppedFits (node : DroppedNode) : Type 0 where
  pub named : IsName node.name
  pub boot : FitsU64 node.boot
  pub number : FitsU64 node.number

pub record UsageFits (usage : SavedUsage) : Type 0 where
  pub account : IsName usage.account
  pub user : IsName usage.user
  pub total : IsWithin 1 18_446_744_073_709_551_615 usage.total

pub record ReservationFits (reservation : SavedReservation) : Type 0 where
  pub named : IsName reservation.name
  pub start : FitsU64 reservation.start
  pub end : FitsU64 reservation.end
  pub nodes : All IsName reservation.nodes
  pub users : All IsName reservation.users
  pub accounts : All IsName reservation.accounts

pub record ArrayFits (array : SavedArray) : Type 0 where
  pub id : FitsU32 array.id
  pub indices : All FitsU32 array.indices

pub record TermsFit (terms : Terms) : Type 0 where
  pub name : IsJobName terms.name
  pub account : IsName terms.account
  pub qos : IsName terms.qos
  pub reservation : FitsOptional IsName terms.reservation
  pub tasks : IsWithin 1 1_048_576 terms.tasks
  pub cpus : IsWithin 1 1024 terms.cpus_per_task
  pub per_node : FitsOptional (IsWithin 1 1024) terms.tasks_per_node
  pub least : IsWithin 1 1024 terms.min_nodes
  pub most : FitsOptional (IsWithin 1 1024) terms.max_nodes
  pub mem : MemFits terms.mem
  pub begin : FitsOptional (IsWithin 0 250_000_000_000) terms.begin
  pub features : FitsOptional FeaturesFit terms.features
  pub required : AreHosts terms.required
  pub excluded : AreHosts terms.excluded
  pub at_once : FitsOptional (IsWithin 1 4_294_967_295) terms.at_once
  pub dependency : FitsOptional DependencyFits terms.dependency
  pub run : IsWithin 1 2_000_000_000 terms.run
  pub exit : IsWithin 0 255 terms.exit

pub record JobFits (job : SavedJob) : Type 0 where
  pub id : FitsU32 job.id
  pub array : FitsOptional FitsU32 job.array
  pub index : FitsOptional FitsU32 job.index
  pub user : IsName job.user
  pub terms : TermsFit job.terms
  pub partition : IsName job.partition
  pub limit : LimitFits job.limit
  pub nice : NiceFits job.nice
  pub submit : FitsU64 job.submit
  pub eligible : FitsU64 job.eligible
  pub starts : FitsU32 job.starts
  pub started : FitsOptional FitsU64 job.started
  pub ended : FitsOptional FitsU64 job.ended
  pub exit : FitsOptional FitsU32 job.exit
  pub last_nodes : All IsName job.last_nodes
  pub parts : All PartFits job.parts

pub record PlacedFits (placed : SavedPlaced) : Type 0 where
  pub id : FitsU32 placed.id
  pub start : FitsU64 placed.start
  pub shares : All ShareFits placed.shares

pub record IsSavable (saved : Saved) : Type 0 where
  pub moment : FitsU64 saved.moment
  pub next_id : FitsU32 saved.next_id
  pub partitions : All PartitionFits saved.partitions
  pub nodes : All NodeFits saved.nodes
  pub dropped : All DroppedFits saved.dropped
  pub usage : All UsageFits saved.usage
  pub reservations : All ReservationFits saved.reservations
  pub arrays : All ArrayFits saved.arrays
  pub jobs : All JobFits saved.jobs
  pub plan : All PlacedFits saved.plan
  pub order : IsInOrder saved
