use Rattle.resource_profile.proofs.LevelChanges.{cut-ends}
use Rattle.resource_profile.proofs.levels.cut_window.Goals as goal

pub returns-clause-kept : goal.returns-clause-kept
returns-clause-kept c = λ free levelled. c.cut-end.ensures.kept free (c.cut-first.ensures.kept free levelled)

pub returns-clause-ends : goal.returns-clause-ends
returns-clause-ends c =
    cut-ends c.cut-first.new.levels.items c.cut-end.new.levels.items c.cut-first.result c.cut-end.result c.args.from c.args.until
    c.cut-first.ensures.inside c.cut-end.ensures.inside c.requires.window c.cut-first.ensures.at c.cut-end.ensures.at c.cut-end.ensures.before c.cut-end.ensures.order
