use Rattle.simulation.proofs.Desks.{one_alone, one_goes_on}
use Rattle.simulation.proofs.Working.{IsWork, works}
use Rattle.simulation.proofs.script.work.Goals as goal

pub returns-in_err-answer-clause-go_on : goal.returns-in_err-answer-clause-go_on
returns-in_err-answer-clause-go_on g c =
    one_goes_on g.D.Desk.sight c.args.desks.now c.take-place.result _ c.decide.new.desk c.take-place.ensures.within
    c.in_err-answer.ensures.goes_on

pub returns-clause-go_on : goal.returns-clause-go_on
returns-clause-go_on g c =
    one_goes_on g.D.Desk.sight c.args.desks.now c.take-place.result _ c.decide.new.desk c.take-place.ensures.within
    c.in_ok-answer.ensures.goes_on

pub returns-clause-alone : goal.returns-clause-alone
returns-clause-alone g c =
    let asked = c.args.asked in
    one_alone (IsWork asked c.args.tally.now c.take.new.self) g.D.Desk.sight c.args.desks.now c.take-place.result _
    c.decide.new.desk c.take-place.ensures.within
    (λ alone alone'. works asked c.in_ok-answer.answer.reply c.args.tally.now c.take.new.self c.take.ensures _ _
    (c.answers_follow_alone.ensures _ (g.D.Desk.sight c.decide.new.desk) asked.moment asked.user asked.request
    c.in_ok-answer.answer c.keeps_history.ensures c.in_ok-answer.ensures.goes_on c.in_ok-answer.ensures.answered alone
    alone'))
