use Rattle.std.proofs.Common.{refl}
use Rattle.replay.proofs.Telling.{is_told}
use Rattle.replay.proofs.asking.ask.Goals as goal

pub returns-in-Ok-clause-reply : goal.returns-in-Ok-clause-reply
returns-in-Ok-clause-reply c =
    let told = is_told c.answers_follow_at_a_desk_of_its_own.ensures c.args.desk.now c.ask.new.self c.args.now
    c.args.user.now c.args.user.now c.args.request c.in-Ok.answer refl c.keeps_history.ensures
    c.in-Ok.ensures.goes_on c.in-Ok.ensures.answered in
    told.answers

pub returns-in-Ok-clause-state : goal.returns-in-Ok-clause-state
returns-in-Ok-clause-state c =
    let told = is_told c.answers_follow_at_a_desk_of_its_own.ensures c.args.desk.now c.ask.new.self c.args.now
    c.args.user.now c.args.user.now c.args.request c.in-Ok.answer refl c.keeps_history.ensures
    c.in-Ok.ensures.goes_on c.in-Ok.ensures.answered in
    told.leads
