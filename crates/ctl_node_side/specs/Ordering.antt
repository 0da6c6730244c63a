-- What the node is ordered to do in answer to its report.
use Rattle.std.specs.Prelude.{ℕ, Bool, ◌&&◌, ◌||◌, not, nat_eq, is_some, if◌then◌else◌, List, [], ◌∷◌, map, filter, find, filter_map, Option, Some, None, option_map}
use Rattle.std.specs.List.{list_any}
use Rattle.std.specs.Borrow.{Bor}
use Rattle.reply_data.specs.Starts.{is_before}
use Rattle.request_data.specs.declared.report.Start.{Start}
use Rattle.request_data.specs.declared.report.Done.{Done}
use Rattle.request_data.specs.declared.report.Report.{Report}
use Rattle.reply_data.specs.declared.orders.Launch.{Launch}
use Rattle.reply_data.specs.declared.orders.Orders.{Orders}
use Rattle.job_table.specs.declared.record.Part.{Part}
use Rattle.job_table.specs.declared.record.JobRecord.{JobRecord}
use Rattle.job_table.specs.JobStates.{is_running}
use Rattle.job_table.specs.Changes.{is_on}
use Rattle.ctl_node_side.specs.Reporting.{is_last_start, is_listed, done_of, is_at, is_batch_host, reported}

-- the jobs that these point to
abbrev pub shown : List (Bor JobRecord) → List JobRecord
shown jobs = map (λ (job : Bor JobRecord). job.now) jobs

-- the job's last start
abbrev pub start_of : JobRecord → Start
start_of job = record { id = job.id; number = job.starts }

abbrev pub is_same : Start → Start → Bool
is_same one other = nat_eq one.id other.id && nat_eq one.number other.number

-- starts in order, with one more at its place, if it isn't there
abbrev pub with_start : Start → List Start → List Start
with_start start [] = start ∷ []
with_start start (one ∷ later) =
    if is_before start one then start ∷ one ∷ later else
    (if is_before one start then one ∷ with_start start later else one ∷ later)

-- the starts by job, then by number, each once
unfoldable pub in_order : List Start → List Start
in_order [] = []
in_order (start ∷ starts) = with_start start (in_order starts)

-- one of the jobs still runs this start on the node
abbrev pub runs_start : ℕ → List JobRecord → Start → Bool
runs_start node jobs start =
    list_any (λ (job : JobRecord). is_last_start job start && (is_running job.state && is_at node job)) jobs

-- the job runs on the node, and still does once the report is accepted
abbrev pub stays : ℕ → Report → JobRecord → Bool
stays node report job =
    is_running job.state && (is_at node job && not (is_batch_host node job.parts && is_some (done_of report job)))

-- the starts that none of the jobs runs on the node any more once the report is accepted
abbrev pub killed : ℕ → ℕ → Report → List JobRecord → List Start → List Start
killed now node report jobs starts =
    filter (λ start. not (runs_start node (map (reported now node report) jobs) start)) starts

-- what the node needs to know to launch the job there: on other nodes than the script's own it runs until it is killed
abbrev pub launch_part : ℕ → JobRecord → Part → Launch
launch_part node job part = record {
  start = start_of job;
  cpus = part.cpus;
  mem = part.mem;
  run = if is_batch_host node job.parts then Some job.terms.run else None;
  exit = if is_batch_host node job.parts then Some job.terms.exit else None;
}

-- the launch of a running job that holds something of the node and of whose start the report says nothing
abbrev pub launch_of : ℕ → Report → JobRecord → Option Launch
launch_of node report job =
    if is_running job.state && not (is_listed report job || is_some (done_of report job))
    then option_map (launch_part node job) (find (is_on node) job.parts)
    else None

-- The orders that answer the report of the node at a place, by the jobs in whose midst it is worked: what won't run
-- there any more is killed, what is over forgotten.
unfoldable pub orders_of : List JobRecord → ℕ → ℕ → Report → Orders
orders_of jobs now node report = record {
  node = report.node;
  boot = report.boot;
  number = report.number;
  kills = in_order (killed now node report jobs report.running);
  forgets = in_order (map (λ (done : Done). done.start) report.done);
  launches = filter_map (launch_of node report) jobs;
}
