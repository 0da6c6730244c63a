use Rattle.std.proofs.Common.{◌≡◌, IfOk, subst}
use Rattle.cluster_opening.specs.Files.{fresh}
use Rattle.ctl_state.specs.State.{State}
use Rattle.cluster_opening.specs.Renewing.{IsReopened}
use Rattle.cluster_opening.proofs.renewing.renewed.Goals as goal

pub returns : goal.returns
returns c =
    subst
    (λ kept. IfOk c.seated.result (λ new. (s : State) × IsReopened c.args.conf.now c.args.assocs.now kept s
    × (new ≡ fresh s))) c.in_ok-kept.ensures c.seated.ensures
