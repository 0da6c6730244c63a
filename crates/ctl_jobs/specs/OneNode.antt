-- When one node alone could run a job.
use Rattle.std.specs.Prelude.{◌≡◌, ◌≤◌, ℕ, ◌*◌, Bool, ◌&&◌, nat_le, unwrap_or, [], None}
use Rattle.plain_data.specs.declared.mem_ask.MemAsk.{MemAsk}
use Rattle.plain_data.specs.declared.mem_ask.MemAsk.TheVariants.{All, PerNode, PerCpu}
use Rattle.node_state.specs.declared.record.NodeRecord.{NodeRecord}
use Rattle.job_table.specs.declared.terms.Terms.{Terms}
use Rattle.ctl_state.specs.Planning.{may_run}
use Rattle.ctl_jobs.specs.Submission.{own_bounds}

-- A job may be on one node, any of those on which it may run.
pub record MayBeOnOne (terms : Terms) : Type 0 where
  pub reservation : terms.reservation ≡ None
  pub required : terms.required ≡ []
  pub least : (own_bounds terms).0 ≤ 1
  pub most : 1 ≤ (own_bounds terms).1
  pub per_node : terms.tasks ≤ unwrap_or terms.tasks_per_node terms.tasks

-- the processors that all its tasks take
abbrev pub cpus_of_all : Terms → ℕ
cpus_of_all terms = terms.tasks * terms.cpus_per_task

-- the megabytes of one node that so many processors take; a node has at any rate what it has
abbrev pub mem_on_one : MemAsk → ℕ → ℕ
mem_on_one All cpus = 0
mem_on_one (PerNode asked) cpus = asked
mem_on_one (PerCpu asked) cpus = asked * cpus

-- the job may run on the node, which has so many processors and megabytes
abbrev pub has_room : ℕ → ℕ → Terms → NodeRecord → Bool
has_room cpus mem terms node = nat_le cpus node.conf.cpus && (nat_le mem node.conf.mem && may_run terms node)
