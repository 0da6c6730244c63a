-- What a worker did.
use Rattle.std.specs.Prelude.{◌≡◌, List, ◌++◌, Option, IfSome, IsSomeAnd}
use Rattle.slurm_net.specs.Session.{LinkSession}
use Rattle.ctl_session.specs.Clock.{Gives}
use Rattle.ctl_server.specs.declared.working.WorkerEnd.{WorkerEnd}
use Rattle.ctl_server.specs.Serving.{Serving, sessions_in, moments_of}
use Rattle.ctl_server.specs.Standing.{Standing}
use Rattle.ctl_server.specs.Run.{Follow}
use Rattle.ctl_server.specs.Cause.{IsEnd}

-- where the sessions are told in the end, they were told before, and grew by these
abbrev pub AddsSessions : Option (List LinkSession) → Option (List LinkSession) → List LinkSession → Type 0
AddsSessions old new sessions = IfSome new (λ after. IsSomeAnd old (λ before. after ≡ before ++ sessions))

-- A worker served these connections, and handed each one's link back with its cut. Its clock gave the moments of these
-- and no other. Then it ended, or it goes on.
pub record IsWorked (old new : Standing) (end : Option WorkerEnd) (servings : List Serving) : Type 0 where
  pub follow : Follow old.desk old.clock servings new.desk new.clock
  pub sessions : AddsSessions old.sessions new.sessions (sessions_in servings)
  pub gives : Gives old.clock new.clock (moments_of servings)
  pub cause : IsEnd end servings old new
