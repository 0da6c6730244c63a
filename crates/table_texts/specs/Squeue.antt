-- The lines of squeue.
use Rattle.std.specs.Prelude.{ℕ, ◌*◌, Bool, true, false, if◌then◌else◌, List, [], ◌∷◌, ◌++◌, flat_map, Option, Some, None, codes, decimal}
use Rattle.plain_data.specs.Elapsed.{elapsed_text}
use Rattle.host_lists.specs.Folding.{folded}
use Rattle.small_texts.specs.Moment.{moment_text}
use Rattle.plain_data.specs.declared.limit.Limit.{Limit}
use Rattle.plain_data.specs.declared.limit.Limit.TheVariants.{Minutes, Unlimited}
use Rattle.request_data.specs.declared.query.JobColumn.{JobColumn}
use Rattle.request_data.specs.declared.query.JobColumn.TheVariants as column
use Rattle.request_data.specs.declared.query.JobQuery.{JobQuery}
use Rattle.request_data.specs.declared.query.Piece.{Piece}
use Rattle.request_data.specs.declared.query.Piece.TheVariants.{Plain, Column}
use Rattle.request_data.specs.declared.state.JobState.{JobState}
use Rattle.request_data.specs.declared.state.JobState.TheVariants.{Pending, Running, Completing, Ended}
use Rattle.request_data.specs.declared.state.Final.TheVariants.{Completed, Cancelled, Failed, Timeout, NodeFail, Requeue}
use Rattle.request_data.specs.declared.state.Reason.{Reason}
use Rattle.request_data.specs.declared.state.Reason.TheVariants.{JobHeldAdmin, JobHeldUser, DependencyNeverSatisfied, Dependency, BeginTime, PartitionInactive, PartitionDown, PartitionTimeLimit, PartitionNodeLimit, QosMaxWallDurationPerJobLimit, JobArrayTaskLimit, AssocGrpJobsLimit, AssocGrpCpuLimit, AssocMaxJobsLimit, QosGrpJobsLimit, QosGrpCpuLimit, QosMaxJobsPerUserLimit, QosMaxCpuPerUserLimit, Reservation, ReqNodeNotAvail, Resources, Priority}
use Rattle.reply_data.specs.declared.view.JobRow.{JobRow}
use Rattle.reply_data.specs.declared.view.Row.{Row}
use Rattle.reply_data.specs.declared.view.Row.TheVariants as shown
use Rattle.reply_data.specs.declared.view.View.{View}
use Rattle.operands.specs.Format.{usual}
use Rattle.table_texts.specs.declared.told.Content.{Content}
use Rattle.table_texts.specs.declared.told.Content.TheVariants as content
use Rattle.table_texts.specs.Field.{field}

-- "JOB STATE CODES" in squeue(1)
abbrev pub state_code : JobState → List ℕ
state_code Pending = codes "PD"
state_code Running = codes "R"
state_code (Completing end) = codes "CG"
state_code (Ended Completed) = codes "CD"
state_code (Ended Cancelled) = codes "CA"
state_code (Ended Failed) = codes "F"
state_code (Ended Timeout) = codes "TO"
state_code (Ended NodeFail) = codes "NF"
state_code (Ended Requeue) = codes "RQ"

abbrev pub state_word : JobState → List ℕ
state_word Pending = codes "PENDING"
state_word Running = codes "RUNNING"
state_word (Completing end) = codes "COMPLETING"
state_word (Ended Completed) = codes "COMPLETED"
state_word (Ended Cancelled) = codes "CANCELLED"
state_word (Ended Failed) = codes "FAILED"
state_word (Ended Timeout) = codes "TIMEOUT"
state_word (Ended NodeFail) = codes "NODE_FAIL"
state_word (Ended Requeue) = codes "REQUEUED"

abbrev pub reason_name : Reason → List ℕ
reason_name JobHeldAdmin = codes "JobHeldAdmin"
reason_name JobHeldUser = codes "JobHeldUser"
reason_name DependencyNeverSatisfied = codes "DependencyNeverSatisfied"
reason_name Dependency = codes "Dependency"
reason_name BeginTime = codes "BeginTime"
reason_name PartitionInactive = codes "PartitionInactive"
reason_name PartitionDown = codes "PartitionDown"
reason_name PartitionTimeLimit = codes "PartitionTimeLimit"
reason_name PartitionNodeLimit = codes "PartitionNodeLimit"
reason_name QosMaxWallDurationPerJobLimit = codes "QOSMaxWallDurationPerJobLimit"
reason_name JobArrayTaskLimit = codes "JobArrayTaskLimit"
reason_name AssocGrpJobsLimit = codes "AssocGrpJobsLimit"
reason_name AssocGrpCpuLimit = codes "AssocGrpCpuLimit"
reason_name AssocMaxJobsLimit = codes "AssocMaxJobsLimit"
reason_name QosGrpJobsLimit = codes "QOSGrpJobsLimit"
reason_name QosGrpCpuLimit = codes "QOSGrpCpuLimit"
reason_name QosMaxJobsPerUserLimit = codes "QOSMaxJobsPerUserLimit"
reason_name QosMaxCpuPerUserLimit = codes "QOSMaxCpuPerUserLimit"
reason_name Reservation = codes "Reservation"
reason_name ReqNodeNotAvail = codes "ReqNodeNotAvail"
reason_name Resources = codes "Resources"
reason_name Priority = codes "Priority"

-- a reason in parentheses
abbrev pub reason_text : Reason → List ℕ
reason_text reason = codes "(" ++ reason_name reason ++ codes ")"

-- the reason in parentheses, or the nodes
abbrev pub place_of : Option Reason → List (List ℕ) → List ℕ
place_of None names = folded names
place_of (Some reason) names = reason_text reason

-- `ARRAY_INDEX`
abbrev pub task_of : ℕ → ℕ → List ℕ
task_of array index = decimal array ++ codes "_" ++ decimal index

-- `ARRAY_INDEX` of a task, else the job's number
abbrev pub id_of : ℕ → Option ℕ → Option ℕ → List ℕ
id_of id (Some array) (Some index) = task_of array index
id_of id array index = decimal id

abbrev pub start_of : Option ℕ → List ℕ
start_of None = codes "N/A"
start_of (Some start) = moment_text start

abbrev pub limit_of : Limit → List ℕ
limit_of (Minutes minutes) = elapsed_text (minutes * 60)
limit_of Unlimited = codes "UNLIMITED"

-- what a column tells of a job
unfoldable pub told : JobRow → JobColumn → List ℕ
told row column.Id = id_of row.id row.array row.index
told row column.Partition = row.partition
told row column.JobName = row.name
told row column.User = row.user
told row column.Account = row.account
told row column.Qos = row.qos
told row column.Code = state_code row.state
told row column.State = state_word row.state
told row column.Time = elapsed_text row.elapsed
told row column.Nodes = decimal row.nodes
told row column.Place = place_of row.reason row.node_names
told row column.Start = start_of row.start
told row column.Priority = decimal row.priority
told row column.Limit = limit_of row.limit
told row column.Cpus = decimal row.cpus

-- what a column tells, written
abbrev pub written : Content → List ℕ
written (content.Text text) = text.now
written (content.Number number) = decimal number
written (content.Task array index) = task_of array index
written (content.Elapsed seconds) = elapsed_text seconds
written (content.Moment second) = moment_text second
written (content.Reason reason) = reason_text reason
written (content.Nodes row) = folded row.now.node_names

-- what stands above it
unfoldable pub title : JobColumn → List ℕ
title column.Id = codes "JOBID"
title column.Partition = codes "PARTITION"
title column.JobName = codes "NAME"
title column.User = codes "USER"
title column.Account = codes "ACCOUNT"
title column.Qos = codes "QOS"
title column.Code = codes "ST"
title column.State = codes "STATE"
title column.Time = codes "TIME"
title column.Nodes = codes "NODES"
title column.Place = codes "NODELIST(REASON)"
title column.Start = codes "START_TIME"
title column.Priority = codes "PRIORITY"
title column.Limit = codes "TIME_LIMIT"
title column.Cpus = codes "CPUS"

-- with a width a text is cut and padded
abbrev pub sized : Option ℕ → Bool → List ℕ → List ℕ
sized None dot text = text
sized (Some width) dot text = field width dot text

-- a piece of a line, where the columns tell this
abbrev pub piece_text : (JobColumn → List ℕ) → Piece → List ℕ
piece_text tells (Plain byte) = byte ∷ []
piece_text tells (Column column width dot) = sized width dot (tells column)

-- a piece that tells nothing
abbrev pub blank : Piece → List ℕ
blank = piece_text (λ column. [])

-- whether a piece takes as many bytes whatever the columns tell
abbrev pub is_fixed : Piece → Bool
is_fixed (Column column None dot) = false
is_fixed piece = true

unfoldable pub line : (JobColumn → List ℕ) → List Piece → List ℕ
line tells pieces = flat_map (piece_text tells) pieces ++ codes "\n"

abbrev pub row_line : List Piece → Row → List ℕ
row_line pieces (shown.Job row) = line (told row) pieces
row_line pieces row = []

-- the format of a query
abbrev pub format_of : Bool → Option (List Piece) → List Piece
format_of starts None = usual starts
format_of starts (Some pieces) = pieces

-- the lines, below their titles where these are wanted
abbrev pub lines_of : Bool → List Piece → View → List ℕ
lines_of titles pieces view = (if titles then line title pieces else []) ++ flat_map (row_line pieces) view.rows

abbrev pub squeue_text : JobQuery → View → List ℕ
squeue_text query view = lines_of query.titles (format_of query.starts query.format) view
