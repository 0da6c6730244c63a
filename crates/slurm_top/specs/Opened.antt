-- What comes of a run on a cluster that was opened.
use Rattle.std.specs.Prelude.{◌≡◌, Bool, Option}
use Rattle.slurm_io.specs.Wire.{Wire}
use Rattle.ctl_state.specs.State.{State}
use Rattle.plain_data.specs.declared.period.Period.{Period}
use Rattle.script_run.specs.Behind.{IsScriptRun}
use Rattle.slurm_top.specs.declared.end.End.{End}
use Rattle.slurm_top.specs.declared.end.End.TheVariants.{Memory, Script}

-- the script was run, or memory was wanting before it
abbrev pub IsRunThere : State → Option Period → Bool → Wire → Wire → End → Type 0
IsRunThere s sacct save old new (Script how) = IsScriptRun s sacct save old new how
IsRunThere s sacct save old new Memory = new ≡ old
IsRunThere s sacct save old new end = ⊥
