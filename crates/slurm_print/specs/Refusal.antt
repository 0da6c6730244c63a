-- The text of a refusal.
use Rattle.std.specs.Prelude.{ℕ, List, [], ◌++◌, codes, decimal}
use Rattle.reply_data.specs.declared.refusal.Refusal.{Refusal}
use Rattle.reply_data.specs.declared.refusal.Refusal.TheVariants.{PartitionClosed, InvalidAccount, InvalidPartition, InvalidQos, NodesNotAvailable, NotAllowedHere, SubmitLimit, JobTableFull, ArrayTooLarge, InvalidJobId, AccessDenied, AlreadyDone, BadDependency, InvalidReservation, ReservationOverlap, UnknownNode, StaleReport, HistoryFull, JobIdsSpent, MomentTooLarge, WrongState, ShuttingDown, NotRequeueable, CannotShrink}
use Rattle.reply_data.specs.declared.refusal.Which.{Which}
use Rattle.reply_data.specs.declared.refusal.Which.TheVariants.{AssocMaxSubmitJobs, AssocGrpSubmitJobs, QosGrpSubmitJobs, QosMaxSubmitJobsPerUser}

abbrev pub refusal_name : Refusal → List ℕ
refusal_name PartitionClosed = codes "PartitionClosed"
refusal_name InvalidAccount = codes "InvalidAccount"
refusal_name InvalidPartition = codes "InvalidPartition"
refusal_name InvalidQos = codes "InvalidQos"
refusal_name NodesNotAvailable = codes "NodesNotAvailable"
refusal_name NotAllowedHere = codes "NotAllowedHere"
refusal_name (SubmitLimit which limit) = codes "SubmitLimit"
refusal_name JobTableFull = codes "JobTableFull"
refusal_name ArrayTooLarge = codes "ArrayTooLarge"
refusal_name InvalidJobId = codes "InvalidJobId"
refusal_name AccessDenied = codes "AccessDenied"
refusal_name AlreadyDone = codes "AlreadyDone"
refusal_name BadDependency = codes "BadDependency"
refusal_name InvalidReservation = codes "InvalidReservation"
refusal_name ReservationOverlap = codes "ReservationOverlap"
refusal_name UnknownNode = codes "UnknownNode"
refusal_name (StaleReport boot number) = codes "StaleReport"
refusal_name HistoryFull = codes "HistoryFull"
refusal_name JobIdsSpent = codes "JobIdsSpent"
refusal_name MomentTooLarge = codes "MomentTooLarge"
refusal_name WrongState = codes "WrongState"
refusal_name ShuttingDown = codes "ShuttingDown"
refusal_name NotRequeueable = codes "NotRequeueable"
refusal_name (CannotShrink name) = codes "CannotShrink"

abbrev pub refusal_number : Refusal → ℕ
refusal_number PartitionClosed = 1
refusal_number InvalidAccount = 2
refusal_number InvalidPartition = 3
refusal_number InvalidQos = 4
refusal_number NodesNotAvailable = 5
refusal_number NotAllowedHere = 6
refusal_number (SubmitLimit which limit) = 7
refusal_number JobTableFull = 8
refusal_number ArrayTooLarge = 9
refusal_number InvalidJobId = 10
refusal_number AccessDenied = 11
refusal_number AlreadyDone = 12
refusal_number BadDependency = 13
refusal_number InvalidReservation = 14
refusal_number ReservationOverlap = 15
refusal_number UnknownNode = 16
refusal_number (StaleReport boot number) = 17
refusal_number HistoryFull = 18
refusal_number JobIdsSpent = 19
refusal_number MomentTooLarge = 20
refusal_number WrongState = 21
refusal_number ShuttingDown = 22
refusal_number NotRequeueable = 23
refusal_number (CannotShrink name) = 24

-- a limit of submitted jobs, as squeue(1) names such limits in "JOB REASON CODES"
abbrev pub which_name : Which → List ℕ
which_name AssocMaxSubmitJobs = codes "AssocMaxSubmitJobs"
which_name AssocGrpSubmitJobs = codes "AssocGrpSubmitJobs"
which_name QosGrpSubmitJobs = codes "QOSGrpSubmitJobs"
which_name QosMaxSubmitJobsPerUser = codes "QOSMaxSubmitJobsPerUser"

-- what stands behind the number: the limit that would be exceeded, the last accepted report of the node, where this one
-- isn't after it, or the node or partition that hinders a change
abbrev pub refusal_details : Refusal → List ℕ
refusal_details (SubmitLimit which limit) = codes " " ++ which_name which ++ codes " " ++ decimal limit
refusal_details (StaleReport boot number) = codes " " ++ decimal boot ++ codes " " ++ decimal number
refusal_details (CannotShrink name) = codes " " ++ name
refusal_details refusal = []

abbrev pub refusal_line : List ℕ → Refusal → List ℕ
refusal_line command refusal =
    command ++ codes ": error: " ++ refusal_name refusal ++ codes " (" ++ decimal (refusal_number refusal) ++ codes ")"
    ++ refusal_details refusal ++ codes "\n"
