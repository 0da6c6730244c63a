use Rattle.std.proofs.Common.{inl, inr, refl}
use Rattle.ctl_session.proofs.Working.{asked_tells, asked_works, on_err}
use Rattle.ctl_session.proofs.answer.ask_under.Goals as goal

-- nothing was decided
pub returns-in_err-answer-clause-err : goal.returns-in_err-answer-clause-err
returns-in_err-answer-clause-err g c =
    on_err _ _ (inl (c.decide.ensures.goes_on, c.in_err-answer.ensures.err))

pub returns-in-Ok-clause-ok : goal.returns-in-Ok-clause-ok
returns-in-Ok-clause-ok g c =
    asked_tells _ _ c.args.asked c.in_ok-answer.answer _ c.decide.ensures.goes_on
    c.in_ok-answer.ensures.answered (rw c.requires at c.in-Ok.ensures) c.status_by-status.ensures refl

-- the request was worked, and its text wants memory
pub returns-in-Err-clause-err : goal.returns-in-Err-clause-err
returns-in-Err-clause-err g c =
    inr (asked_works _ _ c.args.asked c.in_ok-answer.answer c.decide.ensures.goes_on
    c.in_ok-answer.ensures.answered).0
