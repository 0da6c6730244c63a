-- The places of the users so far.
use Rattle.std.proofs.Common.{take}
use Rattle.ctl_restore.specs.Steps.{LeadsToUsers}
use Rattle.ctl_restore.proofs.accounts.places_of_users.Given as goal

abbrev pub invariant-loop-place : goal.invariant-loop-place
invariant-loop-place l = LeadsToUsers (take l.place l.assocs) l.places
