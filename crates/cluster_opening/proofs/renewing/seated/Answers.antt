use Rattle.cluster_opening.proofs.RenewedOnce.{reopened_once}
use Rattle.cluster_opening.proofs.renewing.seated.Goals as goal

pub new-requires : goal.new-requires
new-requires c = record {
  same = reopened_once _ _ _ _ _ c.in_ok-ctl.ensures c.in-Ok.ensures;
}
