use Rattle.std.proofs.Common.{◌∙◌, ◌++◌, List, ap, arith, map, length, subst, sym, ◌≡◌}
use Rattle.std.specs.Prelude.{vec_len}
use Rattle.ctl_server.specs.declared.ending.ServeEnd.{ServeEnd}
use Rattle.ctl_server.specs.declared.workers.Worked.{Worked}
use Rattle.ctl_server.specs.Ends.{EndsServing}
use Rattle.ctl_server.proofs.Closed.{ends_by}
use Rattle.ctl_server.proofs.closing.close.Goals as goal

pub returns-clause-end : goal.returns-clause-end
returns-clause-end g c = λ opening course began seen_shut left.
    let count : length c.args.worked.items ≡ vec_len c.args.worked = omega (arith, c.args.worked.ok.0) in
    let closing = c.meet_all-end.ensures.doors ∙ ap (λ (ds : List g.row.H-Door.Denot).
    ds ++ map (λ (one : Worked g.row.H-Door.Denot). one.door) c.args.worked.items) c.requires.none in
    subst (λ (e : ServeEnd). EndsServing opening course (vec_len c.args.worked) e (g.H.Host.closed c.close_doors.new.self)
    (g.H.Host.hosting c.args.host.now).faults (g.H.Host.hosting c.close_doors.new.self).faults) (sym c.end_with.ensures)
    (ends_by c.args.lock g.H.Door.Door.door_faults g.H.Door.Door.sessions opening course (vec_len c.args.worked)
    c.args.worked.items c.args.planner c.args.reporter c.meet_all-end.new.doors.items c.args.pass
    c.meet_all-end.new.pass c.take_book-book.result (g.H.Host.closed c.close_doors.new.self)
    (g.H.Host.hosting c.args.host.now).faults (g.H.Host.hosting c.close_doors.new.self).faults c.meet_all-end.result
    c.what_is_shut_stays_shut.ensures began seen_shut left c.meet_all-end.ensures.end c.meet_all-end.ensures.met
    c.requires.alone c.take_book-book.ensures closing count c.close_doors.ensures.closed c.close_doors.ensures.faults)
