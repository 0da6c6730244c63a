use Rattle.ctl_jobs.specs.Changing.{are_naming}
use Rattle.ctl_jobs.proofs.Indexed.{indexed_kept}
use Rattle.ctl_jobs.proofs.changing.change.Goals as goal

pub returns-clause-indexed : goal.returns-clause-indexed
returns-clause-indexed c = λ indexed.
    indexed_kept c.parts_stay.ensures.stay c.args.cluster.now c.change_targets.new.cluster c.args.moment
    c.args.user.now c.args.action.now (are_naming c.args.targets.now) c.change_targets.ensures.after
    c.change_targets.ensures.held indexed
