use Rattle.ctl_jobs.proofs.changing_one.update_at.Goals as goal

pub returns-clause-charges : goal.returns-clause-charges
returns-clause-charges c = λ now.
    c.who_leaves_is_charged.ensures.on now _ _ _ (c.limit_at.ensures.charges now) (c.nice_at.ensures.charges now)
