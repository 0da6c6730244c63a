-- How a worker's things stand.
use Rattle.std.specs.Prelude.{ℕ, List, Option}
use Rattle.slurm_net.specs.Session.{LinkSession}
use Rattle.ctl_desk.specs.Desk.{Sight}
use Rattle.ctl_session.specs.Clock.{Timing}

-- The sessions that its door tells, the door's count of faults, its desk, and its clock.
pub record Standing : Type 0 where
  pub sessions : Option (List LinkSession)
  pub faults : ℕ
  pub desk : Sight
  pub clock : Timing
