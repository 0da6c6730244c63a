use Rattle.resource_profile.proofs.levels.join_window.Goals as goal

pub returns-then-first-gt0-clause-kept : goal.returns-then-first-gt0-clause-kept
returns-then-first-gt0-clause-kept c = λ free levelled. c.join-then-first-gt0.ensures.kept free (c.join.ensures.kept free levelled)
