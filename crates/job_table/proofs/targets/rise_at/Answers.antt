use Rattle.std.proofs.Common.{◌∙◌, sym}
use Rattle.job_table.proofs.Indices.{rises-first, rises-next}
use Rattle.job_table.proofs.targets.rise_at.Goals as goal

pub returns-then-place-eq0 : goal.returns-then-place-eq0
returns-then-place-eq0 c = λ is before. rw c.if-place-eq0.true (rises-first c.args.jobs.now)

pub returns : goal.returns
returns c = λ is before.
    rises-next c.args.jobs.now c.args.place c.index-jobs-place.result c.index-jobs-place-2.result c.requires.rising
    c.requires.inside c.if-place-eq0.false c.index-jobs-place.is c.index-jobs-place-2.is (sym c.follows.ensures ∙ is) before
