use Rattle.std.proofs.Common.{refl, arith}
use Rattle.ctl_server.proofs.Cutting.{serves, begin, follow_goes_on}
use Rattle.ctl_server.proofs.laws.connections_stand_in_histories.Goals as goal

pub returns : goal.returns
returns c = record {
  served = λ desk desk' clock clock' servings history follow starts.
      serves desk.number desk.opening history desk clock servings desk' clock' refl refl follow starts;
  begin = λ desk desk' clock clock' servings follow. begin _ desk clock servings desk' clock' (omega arith) follow;
  goes_on = λ desk desk' clock clock' servings follow. follow_goes_on desk clock servings desk' clock' follow;
}
