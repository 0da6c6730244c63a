use Rattle.request_data.specs.declared.request.Request.TheVariants.{Pass}
use Rattle.simulation.proofs.Desks.{one_alone, one_goes_on}
use Rattle.simulation.proofs.Following.{IsTold, is_told}
use Rattle.simulation.proofs.asking.pass.Goals as goal

pub returns-in-Ok-clause-go_on : goal.returns-in-Ok-clause-go_on
returns-in-Ok-clause-go_on g c =
    one_goes_on g.D.Desk.sight c.args.desks.now c.take-place.result _ c.pass.new.self c.take-place.ensures.within
    c.in-Ok.ensures.goes_on

pub returns-in-Err-clause-go_on : goal.returns-in-Err-clause-go_on
returns-in-Err-clause-go_on g c =
    one_goes_on g.D.Desk.sight c.args.desks.now c.take-place.result _ c.pass.new.self c.take-place.ensures.within
    c.in-Err.ensures.goes_on

pub returns-in-Ok-clause-alone : goal.returns-in-Ok-clause-alone
returns-in-Ok-clause-alone g c =
    one_alone (IsTold c.args.now Pass c.in-Ok.answer.reply) g.D.Desk.sight c.args.desks.now c.take-place.result _
    c.pass.new.self c.take-place.ensures.within
    (is_told c.answers_follow_alone.ensures _ (g.D.Desk.sight c.pass.new.self) c.args.now c.args.user.now Pass
    c.in-Ok.answer c.requires.user c.keeps_history.ensures c.in-Ok.ensures.goes_on c.in-Ok.ensures.answered)
