-- What a script leaves of the desk at which it was answered.
use Rattle.std.specs.Prelude.{◌≡◌}
use Rattle.slurm_io.specs.Wire.{Wire}
use Rattle.ctl_state.specs.State.{State}
use Rattle.ctl_desk.specs.Desk.{Seat, history_of, sight_of}
use Rattle.ctl_session.specs.declared.session.How.{How}
use Rattle.ctl_session.specs.declared.session.How.TheVariants.{Closed}
use Rattle.script_run.specs.Script.{IsScript, script_history}

-- A script was answered from this state on, and ended so; where it was answered to its end, its history is that of the
-- desk.
pub record IsAnsweredAt (s : State) (old new : Wire) (seat : Seat) (how : How) : Type 0 where
  pub script : IsScript s old new how
  pub leaves : how ≡ Closed → history_of (sight_of seat) ≡ script_history s script.read
