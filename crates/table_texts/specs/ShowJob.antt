-- The line of a job: "show job" in scontrol(1).
use Rattle.std.specs.Prelude.{ℕ, Bool, if◌then◌else◌, List, [], ◌∷◌, ◌++◌, flat_map, Option, Some, None, codes, decimal}
use Rattle.plain_data.specs.Elapsed.{elapsed_text}
use Rattle.small_texts.specs.Moment.{moment_text}
use Rattle.request_data.specs.declared.state.Reason.{Reason}
use Rattle.reply_data.specs.declared.view.EndAt.{EndAt}
use Rattle.reply_data.specs.declared.view.EndAt.TheVariants.{Nothing, Unknown, At}
use Rattle.reply_data.specs.declared.view.JobRow.{JobRow}
use Rattle.reply_data.specs.declared.view.NamedPart.{NamedPart}
use Rattle.table_texts.specs.Dependency.{dependency_text}
use Rattle.table_texts.specs.Ranges.{ranges_text}
use Rattle.table_texts.specs.Sprio.{nice_text}
use Rattle.table_texts.specs.Squeue.{limit_of, reason_name, state_word}
use Rattle.table_texts.specs.Values.{null, number_or_null, moment_or_null, hosts_or_null}

abbrev pub reason_text : Option Reason → List ℕ
reason_text None = codes "None"
reason_text (Some reason) = reason_name reason

abbrev pub one_or_zero : Bool → List ℕ
one_or_zero holds = if holds then codes "1" else codes "0"

abbrev pub end_text : EndAt → List ℕ
end_text Nothing = null
end_text Unknown = codes "Unknown"
end_text (At second) = moment_text second

-- `NODE:PROCESSORS:MEGABYTES`
abbrev pub part_text : NamedPart → List ℕ
part_text part = part.node ++ codes ":" ++ ranges_text part.cpus ++ codes ":" ++ decimal part.mem

abbrev pub later_part : NamedPart → List ℕ
later_part part = codes ";" ++ part_text part

-- what a job holds, with semicolons between the nodes
unfoldable pub parts_text : List NamedPart → List ℕ
parts_text [] = null
parts_text (part ∷ parts) = part_text part ++ flat_map later_part parts

-- which job it is
unfoldable pub job_pairs : JobRow → List ℕ
job_pairs row =
    codes "JobId=" ++ decimal row.id ++ codes " JobName=" ++ row.name
    ++ codes " ArrayJobId=" ++ number_or_null row.array ++ codes " ArrayTaskId=" ++ number_or_null row.index

-- whose it is, and how it ranks
unfoldable pub owner_pairs : JobRow → List ℕ
owner_pairs row =
    codes " UserId=" ++ row.user ++ codes " Account=" ++ row.account ++ codes " QOS=" ++ row.qos
    ++ codes " Priority=" ++ decimal row.priority ++ codes " Nice=" ++ nice_text row.nice

-- how it stands, and what it waits for
unfoldable pub state_pairs : JobRow → List ℕ
state_pairs row =
    codes " JobState=" ++ state_word row.state ++ codes " Reason=" ++ reason_text row.reason
    ++ codes " Dependency=" ++ dependency_text row.dependency

-- whether it may start again, how often it did, and how it ended
unfoldable pub start_pairs : JobRow → List ℕ
start_pairs row =
    codes " Requeue=" ++ one_or_zero row.requeue ++ codes " Restarts=" ++ decimal row.restarts
    ++ codes " ExitCode=" ++ number_or_null row.exit

-- how long it ran, and may run
unfoldable pub length_pairs : JobRow → List ℕ
length_pairs row = codes " RunTime=" ++ elapsed_text row.elapsed ++ codes " TimeLimit=" ++ limit_of row.limit

-- its seconds
unfoldable pub time_pairs : JobRow → List ℕ
time_pairs row =
    codes " SubmitTime=" ++ moment_text row.submit ++ codes " EligibleTime=" ++ moment_text row.eligible
    ++ codes " StartTime=" ++ moment_or_null row.start ++ codes " EndTime=" ++ end_text row.end

-- where it is
unfoldable pub place_pairs : JobRow → List ℕ
place_pairs row = codes " Partition=" ++ row.partition ++ codes " NodeList=" ++ hosts_or_null row.node_names

-- how much it has, and what this is
unfoldable pub held_pairs : JobRow → List ℕ
held_pairs row =
    codes " NumNodes=" ++ decimal row.nodes ++ codes " NumCPUs=" ++ decimal row.cpus
    ++ codes " NumTasks=" ++ decimal row.tasks ++ codes " Alloc=" ++ parts_text row.parts

unfoldable pub job_line : JobRow → List ℕ
job_line row =
    job_pairs row ++ owner_pairs row ++ state_pairs row ++ start_pairs row ++ length_pairs row ++ time_pairs row
    ++ place_pairs row ++ held_pairs row ++ codes "\n"
