use Rattle.std.proofs.Common.{◌≡◌}
use Rattle.node_daemon.specs.Turn.{root}
use Rattle.request_data.specs.declared.request.Request.TheVariants.{Pass}
use Rattle.ctl_server.proofs.Counting.{answered-later, cut-short, goes_further, goes_nowhere, not-counted, on-err, planned-beside, planned-beside-err}
use Rattle.ctl_server.proofs.planning.planner_turn.Goals as goal

pub returns-in_err-root-clause-goes_on : goal.returns-in_err-root-clause-goes_on
returns-in_err-root-clause-goes_on g c = goes_nowhere (g.D.Desk.sight c.args.desk.now)

pub returns-in_err-root-clause-planned_err : goal.returns-in_err-root-clause-planned_err
returns-in_err-root-clause-planned_err g c =
    let desk = g.D.Desk.sight c.args.desk.now in
    on-err c.from_residual.result _
    (cut-short desk desk c.args.now c.args.outside.now c.args.outside.now c.args.inside.now (goes_nowhere desk)
    (not-counted _ c.args.outside.now))

pub returns-in_err-planned-clause-planned_err : goal.returns-in_err-planned-clause-planned_err
returns-in_err-planned-clause-planned_err g c =
    on-err c.from_residual-in_err-planned.result _
    (cut-short (g.D.Desk.sight c.args.desk.now) (g.D.Desk.sight c.plan_beside.new.desk) c.args.now c.args.outside.now
    c.plan_beside.new.outside c.args.inside.now c.in_err-planned.ensures.goes_on c.in_err-planned.ensures.outside)

pub returns-in_err-answer-clause-goes_on : goal.returns-in_err-answer-clause-goes_on
returns-in_err-answer-clause-goes_on g c =
    goes_further (g.D.Desk.sight c.args.desk.now) (g.D.Desk.sight c.plan_beside.new.desk)
    (g.D.Desk.sight c.pass.new.self) c.in_ok-planned.ensures.goes_on c.in_err-answer.ensures.goes_on

pub returns-in_err-answer-clause-planned_err : goal.returns-in_err-answer-clause-planned_err
returns-in_err-answer-clause-planned_err g c =
    on-err c.from_residual-in_err-answer.result _
    (planned-beside-err c.a_pass_with_its_own_hint_counts_nothing.ensures (g.D.Desk.sight c.args.desk.now)
    (g.D.Desk.sight c.plan_beside.new.desk) (g.D.Desk.sight c.pass.new.self) c.args.now root c.args.outside.now
    c.plan_beside.new.outside c.args.inside.now c.pass.new.steps c.in_ok-planned.planned c.in_ok-planned.ensures.goes_on
    c.in_err-answer.ensures.goes_on c.in_ok-planned.ensures.history c.in_ok-planned.ensures.plan
    c.in_ok-planned.ensures.outside (rw c.in_ok-root.ensures at c.in_err-answer.ensures.steps_err)
    c.in_err-answer.ensures.over_err)

pub returns-clause-goes_on : goal.returns-clause-goes_on
returns-clause-goes_on g c =
    goes_further (g.D.Desk.sight c.args.desk.now) (g.D.Desk.sight c.plan_beside.new.desk)
    (g.D.Desk.sight c.pass.new.self) c.in_ok-planned.ensures.goes_on c.in_ok-answer.ensures.goes_on

pub returns-clause-answered : goal.returns-clause-answered
returns-clause-answered g c =
    answered-later (g.D.Desk.sight c.args.desk.now) (g.D.Desk.sight c.plan_beside.new.desk)
    (g.D.Desk.sight c.pass.new.self) c.args.now root Pass c.in_ok-answer.answer c.in_ok-planned.ensures.goes_on
    c.in_ok-planned.ensures.mine (rw c.in_ok-root.ensures at c.in_ok-answer.ensures.answered)

pub returns-clause-planned : goal.returns-clause-planned
returns-clause-planned g c =
    planned-beside c.a_pass_with_its_own_hint_counts_nothing.ensures (g.D.Desk.sight c.args.desk.now)
    (g.D.Desk.sight c.plan_beside.new.desk) (g.D.Desk.sight c.pass.new.self) c.args.now c.in_ok-answer.answer.place root
    c.args.outside.now c.plan_beside.new.outside c.args.inside.now c.pass.new.steps c.in_ok-planned.planned
    c.in_ok-planned.ensures.goes_on c.in_ok-answer.ensures.goes_on c.in_ok-planned.ensures.history
    c.in_ok-planned.ensures.plan c.in_ok-planned.ensures.outside
    (rw c.in_ok-root.ensures at c.in_ok-answer.ensures.steps) c.in_ok-answer.ensures.over
