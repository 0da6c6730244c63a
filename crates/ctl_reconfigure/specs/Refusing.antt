-- Why another slurm.conf is refused while it runs.
use Rattle.std.specs.Prelude.{ℕ, not, List, [], ◌∷◌, Option, option_map}
use Rattle.plain_data.specs.Confs.{ConfView}
use Rattle.reply_data.specs.declared.refusal.Refusal.{Refusal}
use Rattle.reply_data.specs.declared.refusal.Refusal.TheVariants.{AccessDenied, CannotShrink}
use Rattle.ctl_state.specs.Refusals.{is_privileged, refused_if}
use Rattle.ctl_state.specs.State.{State}
use Rattle.ctl_reconfigure.specs.Blocking.{blocked}

-- why a new file is refused, in their order: only privileged users hand one in, and nothing that is needed may go
abbrev pub reconfigure_refusals : State → List ℕ → ConfView → List (Option Refusal)
reconfigure_refusals s user conf =
    refused_if (not (is_privileged s user)) AccessDenied ∷ option_map CannotShrink (blocked s conf) ∷ []
