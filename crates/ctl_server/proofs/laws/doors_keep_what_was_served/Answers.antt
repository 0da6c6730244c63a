use Rattle.std.proofs.Common.{refl}
use Rattle.ctl_server.proofs.Cutting.{serves}
use Rattle.ctl_server.proofs.SessionEnds.{all_end_well, end_well}
use Rattle.ctl_server.proofs.laws.doors_keep_what_was_served.Goals as goal

pub returns : goal.returns
returns c = λ old new end servings history worked apart starts. record {
  servings = servings;
  sessions_are = refl;
  served = serves old.desk.number old.desk.opening history old.desk old.clock servings new.desk new.clock refl refl
      worked.follow starts;
  well = all_end_well end servings apart (end_well old new end servings worked);
}
