-- A node's report, and what it does to the jobs.
use Rattle.std.specs.Prelude.{ℕ, Bool, true, false, ◌&&◌, ◌||◌, nat_eq, nat_lt, if◌then◌else◌, List, [], ◌∷◌, map, find, slice_get, Option, Some, None, option_and_then}
use Rattle.std.specs.List.{list_any}
use Rattle.request_data.specs.declared.report.Start.{Start}
use Rattle.request_data.specs.declared.report.Done.{Done}
use Rattle.request_data.specs.declared.report.Report.{Report}
use Rattle.request_data.specs.declared.state.Final.{Final}
use Rattle.request_data.specs.declared.state.Final.TheVariants.{Completed, Failed}
use Rattle.request_data.specs.declared.report.Heard.{Heard}
use Rattle.job_table.specs.declared.record.Part.{Part}
use Rattle.node_state.specs.declared.record.NodeRecord.{NodeRecord}
use Rattle.node_state.specs.declared.record.NodeChange.TheVariants.{Heard as HeardFrom}
use Rattle.node_state.specs.Nodes.{change_at}
use Rattle.job_table.specs.declared.record.JobRecord.{JobRecord}
use Rattle.job_table.specs.declared.change.Change.TheVariants.{Leave, DropPart}
use Rattle.job_table.specs.Changes.{changed}
use Rattle.job_table.specs.Changes.{is_on}
use Rattle.ctl_state.specs.Events.{become}
use Rattle.ctl_state.specs.State.{State}

-- the last accepted report of the node at a place
abbrev pub heard_of : List NodeRecord → ℕ → Option Heard
heard_of nodes place = option_and_then (λ (node : NodeRecord). node.heard) (slice_get nodes place)

-- the report comes after that one
abbrev pub is_after : Heard → Report → Bool
is_after heard report =
    nat_lt heard.boot report.boot || (nat_eq heard.boot report.boot && nat_lt heard.number report.number)

-- the report lists no running start
abbrev pub lists_nothing : List Start → Bool
lists_nothing [] = true
lists_nothing (start ∷ later) = false

-- what is noted of an accepted report
abbrev pub heard_by : ℕ → Report → Heard
heard_by now report = record { boot = report.boot; number = report.number; moment = now }

-- the nodes once the report of the one at a place is accepted
abbrev pub heard_nodes : ℕ → ℕ → Report → List NodeRecord → List NodeRecord
heard_nodes now node report nodes =
    change_at node (HeardFrom (heard_by now report) (lists_nothing report.running)) nodes

-- the start is this job's last one
abbrev pub is_last_start : JobRecord → Start → Bool
is_last_start job start = nat_eq job.id start.id && nat_eq job.starts start.number

-- the job's start is told to run there
abbrev pub is_listed : Report → JobRecord → Bool
is_listed report job = list_any (is_last_start job) report.running

-- what is told of the job's start being over; of several the first
abbrev pub done_of : Report → JobRecord → Option Done
done_of report job = find (λ (done : Done). is_last_start job done.start) report.done

-- the job holds something of the node
abbrev pub is_at : ℕ → JobRecord → Bool
is_at node job = list_any (is_on node) job.parts

-- the node runs the job's script: the job's first part is there
abbrev pub is_batch_host : ℕ → List Part → Bool
is_batch_host node [] = false
is_batch_host node (part ∷ later) = is_on node part

-- how a script ends that ends with this code
abbrev pub final_of : ℕ → Final
final_of exit = if nat_eq exit 0 then Completed else Failed

-- the job once its script is over, if it ran on the node
abbrev pub script_over : ℕ → ℕ → Done → JobRecord → JobRecord
script_over now node done job =
    if is_batch_host node job.parts then changed (Leave (final_of done.exit) now (Some done.exit)) job else job

-- the job once its start is told to be over on the node: where its script ran there it leaves Running, and a completing
-- job leaves the node
abbrev pub told_over : ℕ → ℕ → Done → JobRecord → JobRecord
told_over now node done job = changed (DropPart node now) (script_over now node done job)

-- the job by what is told of its start: where nothing is, a completing job has left the node
abbrev pub after_told : ℕ → ℕ → Report → JobRecord → Option Done → JobRecord
after_told now node report job None = if is_listed report job then job else changed (DropPart node now) job
after_told now node report job (Some done) = told_over now node done job

-- the job after the report of a node, which changes only jobs that hold something of the node
abbrev pub reported : ℕ → ℕ → Report → JobRecord → JobRecord
reported now node report job = if is_at node job then after_told now node report job (done_of report job) else job

-- the state after an accepted report of the node at a place; whoever leaves Running is charged to his association
abbrev pub report_after : State → ℕ → ℕ → Report → State
report_after s now node report = record (become now (map (reported now node report) s.jobs) s) {
  nodes = heard_nodes now node report s.nodes;
}
