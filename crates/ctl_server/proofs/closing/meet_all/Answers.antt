use Rattle.std.proofs.Common.{map}
use Rattle.ctl_server.specs.declared.workers.Worked.{Worked}
use Rattle.ctl_server.proofs.Meeting.{met_two}
use Rattle.ctl_server.proofs.closing.meet_all.Goals as goal

pub returns-clause-met : goal.returns-clause-met
returns-clause-met g c = met_two c.args.pass.now c.gather-end.new.pass c.meet.new.pass c.meet-2.new.pass
    (map (λ (one : Worked g.row.A.Denot). one.pass) c.args.worked.items) c.args.planner c.args.reporter
    c.gather-end.ensures.met c.meet.ensures.meets c.meet-2.ensures.meets
