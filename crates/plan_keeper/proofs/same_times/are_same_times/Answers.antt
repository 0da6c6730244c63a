use Rattle.plan_keeper.proofs.SameTimes.{times-told}
use Rattle.plan_keeper.proofs.same_times.are_same_times.Goals as goal

pub returns : goal.returns
returns c = times-told c.args.one.now c.args.other.now c.eq.result c.eq.ensures
