-- Why a request is refused: the first of its refusals that stands.
use Rattle.std.specs.Prelude.{ℕ, Bool, ◌||◌, if◌then◌else◌, List, Option, Some, None, codes}
use Rattle.std.specs.Str.{bytes_eq}
use Rattle.reply_data.specs.declared.refusal.Refusal.{Refusal}
use Rattle.ctl_state.specs.State.{State}
use Rattle.ctl_state.specs.Verdicts.{Verdict, Refuses}
pub use Rattle.run_limits.specs.Submitting.{first_refusal}

-- a refusal that stands where this is so
abbrev pub refused_if : Bool → Refusal → Option Refusal
refused_if stands refusal = if stands then Some refusal else None

-- what comes of a request where no refusal stands, or the refusal
abbrev pub unless_refused : Option Refusal → Verdict → Verdict
unless_refused None verdict = verdict
unless_refused (Some refusal) verdict = Refuses refusal

-- root and the user of slurm.conf's SlurmUser may do everything
abbrev pub is_privileged : State → List ℕ → Bool
is_privileged s user = bytes_eq user (codes "root") || bytes_eq user s.settings.slurm_user
