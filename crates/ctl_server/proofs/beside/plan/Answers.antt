use Rattle.ctl_server.proofs.Sitting.{came_back, saw_shut}
use Rattle.ctl_server.proofs.beside.plan.Goals as goal

pub returns-clause-own : goal.returns-clause-own
returns-clause-own g c = came_back c.args.lock.now c.args.planner.pass c.into_pass.result c.locked_desk-desk.result
    c.planner_part.new.desk c.requires.own c.locked_desk-desk.ensures.sees c.planner_part.ensures.goes_on
    c.into_pass.ensures.pass c.into_pass.ensures.known

pub returns-clause-shut : goal.returns-clause-shut
returns-clause-shut g c = λ opening began.
    saw_shut opening c.args.planner.pass c.into_pass.result c.locked_desk-desk.result
    c.planner_part.new.desk began c.locked_desk-desk.ensures.sees c.locked_desk-desk.ensures.opening
    c.planner_part.ensures.goes_on c.into_pass.ensures.pass c.into_pass.ensures.known c.planner_part.ensures.shut
