use Rattle.std.proofs.Common.{refl}
use Rattle.ctl_reconfigure.proofs.Anywhere.{jobs-anywhere, plan-anywhere, reservations-anywhere}
use Rattle.ctl_reconfigure.proofs.laws.a_reconfiguration_changes_places_alone.Goals as goal

pub returns : goal.returns
returns c = record {
  jobs = jobs-anywhere;
  reservations = reservations-anywhere;
  plan = plan-anywhere;
  first = λ s moment conf. refl;
}
