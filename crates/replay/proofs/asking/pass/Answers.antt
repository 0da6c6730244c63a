use Rattle.request_data.specs.declared.request.Request.TheVariants.{Pass}
use Rattle.node_daemon.specs.Turn.{root}
use Rattle.replay.proofs.Telling.{is_told, passed_on}
use Rattle.replay.proofs.asking.pass.Goals as goal

pub returns-clause-reply : goal.returns-clause-reply
returns-clause-reply c =
    let told = is_told c.answers_follow_at_a_desk_of_its_own.ensures c.args.desk.now c.pass.new.self c.args.now _ root
    Pass c.in_ok-answer.answer c.in_ok-root.ensures c.keeps_history.ensures c.in_ok-answer.ensures.goes_on
    c.in_ok-answer.ensures.answered in
    told.answers

pub returns-clause-state : goal.returns-clause-state
returns-clause-state c =
    let told = is_told c.answers_follow_at_a_desk_of_its_own.ensures c.args.desk.now c.pass.new.self c.args.now _ root
    Pass c.in_ok-answer.answer c.in_ok-root.ensures c.keeps_history.ensures c.in_ok-answer.ensures.goes_on
    c.in_ok-answer.ensures.answered in
    told.leads

pub returns-in_err-answer-clause-state : goal.returns-in_err-answer-clause-state
returns-in_err-answer-clause-state c =
    passed_on _ _ c.from_residual-in_err-answer.result c.from_residual-in_err-answer.ensures.1
