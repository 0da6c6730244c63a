-- The state of the cluster, as plain lists.
use Rattle.std.specs.Prelude.{ℕ, Bool, false, List, [], length, map, replicate, slice_get, Option}
use Rattle.plain_data.specs.declared.conf.Settings.{Settings}
use Rattle.plain_data.specs.Confs.{ConfView}
use Rattle.plain_data.specs.Assocs.{AssocView}
use Rattle.backfill_planner.specs.declared.Placed.{Placed}
use Rattle.node_state.specs.declared.record.DroppedNode.{DroppedNode}
use Rattle.node_state.specs.declared.record.NodeRecord.{NodeRecord}
use Rattle.node_state.specs.Nodes.{opened}
use Rattle.node_state.specs.declared.partition_record.PartRecord.{PartRecord}
use Rattle.node_state.specs.Partitions
use Rattle.ctl_state.specs.declared.record.ArrayRecord.{ArrayRecord}
use Rattle.run_limits.specs.declared.record.AssocRecord.{AssocRecord}
use Rattle.run_limits.specs.declared.record.QosRecord.{QosRecord}
use Rattle.run_limits.specs.Accounts
use Rattle.job_table.specs.declared.record.JobRecord.{JobRecord}
use Rattle.node_state.specs.declared.reservation_record.Reservation.{Reservation}
use Rattle.ctl_state.specs.declared.cluster.Cluster.{Cluster}

pub record State : Type 0 where
  pub settings : Settings
  -- in the order of slurm.conf
  pub partitions : List PartRecord
  -- in the order of slurm.conf
  pub nodes : List NodeRecord
  -- the nodes that are no longer there and were heard, in byte order of their names
  pub dropped : List DroppedNode
  -- in the order of the association file
  pub assocs : List AssocRecord
  -- the qualities of service, in the order of the association file
  pub qos : List QosRecord
  -- in the order in which they were made
  pub reservations : List Reservation
  -- in the order of their numbers
  pub jobs : List JobRecord
  -- what the starts of each association's jobs have used that left Running, in the order of the associations
  pub usage : List ℕ
  -- the arrays of which there are tasks, in the order of their numbers
  pub arrays : List ArrayRecord
  -- the placements of the last pass that didn't start: a share's place is that of its node in the list of nodes or,
  -- behind these, in the list of those that are gone
  pub plan : List Placed
  -- the names of nodes that are no longer there and that the plan may name
  pub gone : List (List ℕ)
  -- the number that the next job gets
  pub next_id : ℕ
  -- the sizes of the requests accepted so far, in sum
  pub size : ℕ
  -- whether a shutdown was accepted
  pub is_shut : Bool
  -- the moment of the last request that was accepted
  pub moment : ℕ

-- the last moment of a request
abbrev pub last_moment : ℕ
last_moment = 250000000000

-- the last second that can be printed
abbrev pub last_second : ℕ
last_second = 253402300799

-- the last number that a job can have
abbrev pub last_job_id : ℕ
last_job_id = 67043328

-- the greatest sum of the sizes of accepted requests, beside that of a shutdown
abbrev pub last_size : ℕ
last_size = 1073741824

-- the size of an entry that lists nothing: a shutdown's
abbrev pub shutdown_size : ℕ
shutdown_size = 256

-- the state before any request: what the two files say, no job and no plan
abbrev pub opening : ConfView → AssocView → State
opening conf file = record {
  settings = conf.settings;
  partitions = map (Partitions.opened (map opened conf.nodes)) conf.partitions;
  nodes = map opened conf.nodes;
  dropped = [];
  assocs = map Accounts.opened file.assocs;
  qos = map Accounts.opened_qos file.qos;
  reservations = [];
  jobs = [];
  usage = replicate (length file.assocs) 0;
  arrays = [];
  plan = [];
  gone = [];
  next_id = conf.settings.first_job_id;
  size = 0;
  is_shut = false;
  moment = 0;
}

-- what a cluster keeps, as the state
abbrev pub state_of : Cluster → State
state_of c = record {
  settings = c.settings;
  partitions = c.partitions;
  nodes = c.nodes.records;
  dropped = c.dropped.items;
  assocs = c.assocs.records;
  qos = c.assocs.qos;
  reservations = c.reservations;
  jobs = c.jobs.records;
  usage = c.jobs.usage;
  arrays = c.arrays.items;
  plan = c.plan.items;
  gone = c.gone.items;
  next_id = c.next_id;
  size = c.size;
  is_shut = c.is_shut;
  moment = c.moment;
}

-- the partition of a job
abbrev pub partition_of : State → JobRecord → Option PartRecord
partition_of s job = slice_get s.partitions job.partition
