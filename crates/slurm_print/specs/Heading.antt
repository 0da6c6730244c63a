-- What the text of an answer needs to know of its request.
use Rattle.request_data.specs.declared.query.Query.{Query}
use Rattle.request_data.specs.declared.query.Query.TheVariants.{Squeue, Sinfo, Sprio}
use Rattle.request_data.specs.declared.request.Request.{Request}
use Rattle.request_data.specs.declared.request.Request.TheVariants.{Submit, Cancel, CreateReservation, Report, Pass, Show}
use Rattle.slurm_print.specs.declared.heading.Heading.{Heading}
use Rattle.slurm_print.specs.declared.heading.Heading.TheVariants as heading

-- all queries but three are of scontrol
abbrev pub heading_asking : Query → Heading
heading_asking (Squeue query) = heading.Squeue query
heading_asking (Sinfo partition titles) = heading.Sinfo titles
heading_asking (Sprio who jobs titles) = heading.Sprio titles
heading_asking query = heading.Show

-- the heading of a request: all but these are made with scontrol
abbrev pub heading_of : Request → Heading
heading_of (Submit desc) = heading.Sbatch desc.parsable
heading_of (Cancel targets) = heading.Scancel
heading_of (CreateReservation desc) = heading.CreateReservation desc.name
heading_of (Report report) = heading.Report
heading_of Pass = heading.Pass
heading_of (Show query) = heading_asking query
heading_of request = heading.Scontrol
