-- The text of a reply, as a function of the request's heading and the reply.
use Rattle.std.specs.Prelude.{ℕ, List, [], ◌++◌, codes, decimal, Bool, false, if◌then◌else◌}
use Rattle.reply_data.specs.declared.reply.Reply.{Reply}
use Rattle.reply_data.specs.declared.reply.Reply.TheVariants.{Submitted, Done, Passed, Orders, Idle, Shown, Refused}
use Rattle.request_data.specs.declared.request.Request.{Request}
use Rattle.reply_data.specs.declared.view.View.{View}
use Rattle.slurm_print.specs.Heading.{heading_of}
use Rattle.slurm_print.specs.declared.heading.Heading.{Heading}
use Rattle.slurm_print.specs.declared.heading.Heading.TheVariants.{Sbatch, Scancel, CreateReservation, Report, Pass, Squeue, Sinfo, Sprio, Show}
use Rattle.slurm_print.specs.Orders.{orders_text}
use Rattle.slurm_print.specs.Refusal.{refusal_line}
use Rattle.table_texts.specs.Show.{show_text}
use Rattle.table_texts.specs.Sinfo.{sinfo_text}
use Rattle.table_texts.specs.Sprio.{sprio_text}
use Rattle.table_texts.specs.Squeue.{squeue_text}

-- the command that makes the request
abbrev pub command_of : Heading → List ℕ
command_of (Sbatch parsable) = codes "sbatch"
command_of Scancel = codes "scancel"
command_of Report = codes "report"
command_of Pass = codes "pass"
command_of (Squeue query) = codes "squeue"
command_of (Sinfo titles) = codes "sinfo"
command_of (Sprio titles) = codes "sprio"
command_of heading = codes "scontrol"

abbrev pub submitted_line : ℕ → List ℕ
submitted_line id = codes "Submitted batch job " ++ decimal id ++ codes "\n"

-- the answer is the number alone where the submission asks for that
abbrev pub is_parsable : Heading → Bool
is_parsable (Sbatch parsable) = parsable
is_parsable heading = false

abbrev pub submitted_text : Bool → ℕ → List ℕ
submitted_text parsable id = if parsable then decimal id ++ codes "\n" else submitted_line id

abbrev pub passed_line : ℕ → ℕ → ℕ → List ℕ
passed_line ended started planned =
    codes "pass: ended " ++ decimal ended ++ codes " started " ++ decimal started
    ++ codes " planned " ++ decimal planned ++ codes "\n"

-- only a pass says that it was idle
abbrev pub idle_text : Heading → List ℕ
idle_text Pass = codes "pass: idle\n"
idle_text heading = []

-- only a query shows anything
abbrev pub shown_text : Heading → View → List ℕ
shown_text (Squeue query) view = squeue_text query view
shown_text (Sinfo titles) view = sinfo_text titles view
shown_text (Sprio titles) view = sprio_text titles view
shown_text Show view = show_text view
shown_text heading view = []

abbrev pub created_line : List ℕ → List ℕ
created_line name = codes "Reservation created: " ++ name ++ codes "\n"

-- what was done is told of a reservation alone that was made
abbrev pub done_text : Heading → List ℕ
done_text (CreateReservation name) = created_line name
done_text heading = []

abbrev pub text_under : Heading → Reply → List ℕ
text_under heading (Submitted id) = submitted_text (is_parsable heading) id
text_under heading Done = done_text heading
text_under heading (Passed ended started planned) = passed_line ended started planned
text_under heading (Orders orders) = orders_text orders
text_under heading Idle = idle_text heading
text_under heading (Shown view) = shown_text heading view
text_under heading (Refused refusal) = refusal_line (command_of heading) refusal

abbrev pub text_of : Request → Reply → List ℕ
text_of request reply = text_under (heading_of request) reply
