use Rattle.ctl_jobs.specs.Changing.{is_owned}
use Rattle.ctl_jobs.proofs.Indexed.{indexed_kept}
use Rattle.ctl_jobs.proofs.changing.change_owned.Goals as goal

pub returns-clause-indexed : goal.returns-clause-indexed
returns-clause-indexed c = λ indexed.
    indexed_kept c.parts_stay.ensures.stay c.args.cluster.now c.change_jobs_of.new.cluster c.args.moment
    c.args.user.now c.args.action.now (is_owned c.args.owner.now) c.change_jobs_of.ensures.after
    c.change_jobs_of.ensures.held indexed
