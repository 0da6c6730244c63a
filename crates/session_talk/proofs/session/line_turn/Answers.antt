use Rattle.session_talk.proofs.session.line_turn.Goals as goal

pub returns-clause-turned : goal.returns-clause-turned
returns-clause-turned g c = (c.work_line-worked.result, c.turn_of.ensures, c.work_line-worked.ensures.works)
