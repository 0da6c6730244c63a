-- How a run ends: its status, and the line that is written to errors.
use Rattle.std.specs.Prelude.{ℕ, List, [], ◌++◌, codes, decimal}
use Rattle.cluster_opening.specs.BadFiles.{bad_status, bad_text}
use Rattle.cluster_opening.specs.declared.opening.OpenRefusal.{OpenRefusal}
use Rattle.cluster_opening.specs.declared.opening.OpenRefusal.TheVariants as refusal
use Rattle.cluster_opening.specs.declared.refusal.ClusterRefusal.{ClusterRefusal}
use Rattle.cluster_opening.specs.declared.refusal.ClusterRefusal.TheVariants as cluster
use Rattle.ctl_session.specs.declared.session.How.{How}
use Rattle.ctl_session.specs.declared.session.How.TheVariants as how
use Rattle.slurm_top.specs.Calls as calls
use Rattle.slurm_top.specs.declared.call_end.CallEnd.{CallEnd}
use Rattle.slurm_top.specs.declared.call_end.CallEnd.TheVariants as call
use Rattle.slurm_top.specs.declared.end.End.{End}
use Rattle.slurm_top.specs.declared.end.End.TheVariants.{Usage, NoFile, BadFile, Memory, Script, Generated, WriteFault, Spent, Served, DoorFault, Called}

-- the end of a run whose cluster wasn't opened
abbrev pub unopened : OpenRefusal → End
unopened refusal.NoFile = NoFile
unopened (refusal.Bad bad) = BadFile bad
unopened refusal.Memory = Memory

-- likewise where its files are refused
abbrev pub refused : ClusterRefusal → End
refused (cluster.Bad bad) = BadFile bad
refused cluster.Memory = Memory

-- the status of a script's run
abbrev pub script_status : How → ℕ
script_status how.Closed = 0
script_status how.Shut = 0
script_status how.ReadFault = 5
script_status how.WriteFault = 6
script_status (how.Truncated place) = 7
script_status (how.Bad place) = 7
script_status how.Memory = 8
script_status how.Spent = 9

-- the status of a run
abbrev pub status_of : End → ℕ
status_of Usage = 2
status_of (BadFile bad) = bad_status bad
status_of NoFile = 5
status_of Memory = 8
status_of (Script how) = script_status how
status_of Generated = 0
status_of WriteFault = 6
status_of Spent = 9
status_of Served = 0
status_of DoorFault = 10
status_of (Called end) = calls.status_of end

-- the line that tells where no block begins, or where one begins that doesn't end
abbrev pub place_line : ℕ → List ℕ
place_line place = codes "slurm: error: block at byte " ++ decimal place ++ codes "\n"

-- the line of a script's run; there is none where the input was answered to its end
abbrev pub script_line : How → List ℕ
script_line how.Closed = []
script_line how.Shut = []
script_line how.ReadFault = codes "slurm: error: read\n"
script_line how.WriteFault = codes "slurm: error: write\n"
script_line (how.Truncated place) = place_line place
script_line (how.Bad place) = place_line place
script_line how.Memory = codes "slurm: error: memory\n"
script_line how.Spent = codes "slurm: error: spent\n"

-- the line of a call; there is none where a reply came
abbrev pub call_line : CallEnd → List ℕ
call_line (call.Replied status) = []
call_line call.ReadFault = codes "slurm: error: read\n"
call_line call.WriteFault = codes "slurm: error: write\n"
call_line call.BadReply = place_line 0
call_line call.Memory = codes "slurm: error: memory\n"
call_line call.Spent = codes "slurm: error: spent\n"
call_line call.DoorFault = codes "slurm: error: door\n"

-- the line of a run; there is none where all was written
abbrev pub line_of : End → List ℕ
line_of Usage = codes "slurm: error: usage\n"
line_of (BadFile bad) = codes "slurmctld: error: " ++ bad_text bad ++ codes "\n"
line_of NoFile = codes "slurm: error: read\n"
line_of Memory = codes "slurm: error: memory\n"
line_of (Script how) = script_line how
line_of Generated = []
line_of WriteFault = codes "slurm: error: write\n"
line_of Spent = codes "slurm: error: spent\n"
line_of Served = []
line_of DoorFault = codes "slurm: error: door\n"
line_of (Called end) = call_line end
