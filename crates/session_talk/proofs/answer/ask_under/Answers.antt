use Rattle.session_talk.proofs.Answering.{asked_answer}
use Rattle.session_talk.proofs.answer.ask_under.Goals as goal

pub returns-in-Ok : goal.returns-in-Ok
returns-in-Ok c =
    let asked = c.args.asked in
    let follows = c.answers_follow_at_a_desk_of_its_own.ensures c.args.desk.now c.decide.new.desk asked.moment asked.user
    asked.request c.in_ok-answer.answer c.seen_len-seen.ensures.history c.decide.ensures.goes_on
    c.in_ok-answer.ensures.answered in
    asked_answer c.args.desk.now c.decide.new.desk asked c.in_ok-answer.answer.reply _ follows.0 follows.1
    (rw c.requires at c.in-Ok.ensures) c.is_refusal-is_refused.ensures
