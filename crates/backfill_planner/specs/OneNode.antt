-- When one node alone could run a job, where nothing else is held.
use Rattle.std.specs.Prelude.{◌≡◌, ◌*◌, ◌≤◌, true}
use Rattle.resource_profile.specs.declared.NodeRoom.{NodeRoom}
use Rattle.resource_profile.specs.declared.picking.Need.{Need}
use Rattle.plain_data.specs.declared.mem_ask.MemAsk.{MemAsk}
use Rattle.plain_data.specs.declared.mem_ask.MemAsk.TheVariants.{All, PerNode, PerCpu}
use Rattle.backfill_planner.specs.declared.job.PlanJob.{PlanJob}
use Rattle.backfill_planner.specs.Giving.{asked_mem}

-- one node may be enough, and any of the job's nodes may be the one
pub record MayBeOneNode (need : Need) : Type 0 where
  pub tasks : 1 ≤ need.tasks
  pub least : need.least ≤ 1
  pub most : 1 ≤ need.most
  pub required : need.required ≡ 0

-- a number of megabytes that is asked for is 1 at least
abbrev pub AsksSomeMem : MemAsk → Type 0
AsksSomeMem All = Unit {0}
AsksSomeMem (PerNode asked) = 1 ≤ asked
AsksSomeMem (PerCpu asked) = 1 ≤ asked

-- a plan may use the node, and it has room for all the job's tasks together
pub record HasRoomForAll (room : NodeRoom) (job : PlanJob) : Type 0 where
  pub usable : room.usable ≡ true
  pub tasks : job.need.tasks ≤ job.per_node
  pub cpus : job.need.tasks * job.cpus_per_task ≤ room.cpus
  pub mem : asked_mem job.mem_ask room (job.need.tasks * job.cpus_per_task) ≤ room.mem
