use Rattle.std.proofs.Common.{◌<◌, length, sym, subst, arith}
use Rattle.ctl_server.specs.Parts.{IsReady}
use Rattle.ctl_server.proofs.workers.work_all.Goals as goal

pub returns-clause-left : goal.returns-clause-left
returns-clause-left g c = λ opening course ready k d inside.
    let here : k < length c.args.seats.items =
    omega (arith, inside, c.in_ok-all.ensures.len, c.args.seats.ok.0, c.in_ok-all.all.ok.0) in
    let job = (c.in_ok-all.ensures.each k d here).1 in
    let seated = subst (IsReady c.args.lock.now g.A.Door.out g.A.Door.door_faults g.A.Door.sessions g.C.Clock.moments
    g.C.Clock.course opening course) (sym job.job_read) (ready k job.job here) in
    job.call.met opening course seated
