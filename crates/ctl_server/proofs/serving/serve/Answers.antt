use Rattle.std.proofs.Common.{ℕ, refl, subst}
use Rattle.std.specs.Prelude.{vec_len}
use Rattle.ctl_server.specs.Ends.{EndsServing}
use Rattle.ctl_server.specs.Line.{serving_line}
use Rattle.ctl_server.proofs.Served as by
use Rattle.ctl_server.proofs.serving.serve.Goals as goal

pub serve_doors-requires-clause-began : goal.serve_doors-requires-clause-began
serve_doors-requires-clause-began g c κs within = (c.args.book.opening, (c.args.book, c.in-Ok.ensures.lock.first, refl))

pub returns-in-Ok-open_doors-clause-opening : goal.returns-in-Ok-open_doors-clause-opening
returns-in-Ok-open_doors-clause-opening g c =
    by.of_opening c.args.book.opening (g.C.Clock.course c.args.clock.now) (vec_len c.in-Ok-open_doors.doors)
    (g.H.Host.closed c.serve_doors.new.host) (g.H.Host.hosting c.open_doors.new.host).faults
    (g.H.Host.hosting c.serve_doors.new.host).faults c.serve_doors.result
    (c.serve_doors.ensures.end c.args.book.opening (c.args.book, c.in-Ok.ensures.lock.first, refl))

pub returns-in-Ok-open_doors-clause-shut : goal.returns-in-Ok-open_doors-clause-shut
returns-in-Ok-open_doors-clause-shut g c =
    by.of_shut c.args.book.opening (g.C.Clock.course c.args.clock.now) (vec_len c.in-Ok-open_doors.doors)
    (g.H.Host.closed c.serve_doors.new.host) (g.H.Host.hosting c.open_doors.new.host).faults
    (g.H.Host.hosting c.serve_doors.new.host).faults c.serve_doors.result
    (c.serve_doors.ensures.end c.args.book.opening (c.args.book, c.in-Ok.ensures.lock.first, refl))

pub returns-in-Ok-open_doors-clause-doors : goal.returns-in-Ok-open_doors-clause-doors
returns-in-Ok-open_doors-clause-doors g c =
    by.of_doors c.args.book.opening (g.C.Clock.course c.args.clock.now) c.args.workers
    (g.H.Host.closed c.serve_doors.new.host) (g.H.Host.hosting c.open_doors.new.host).faults
    (g.H.Host.hosting c.serve_doors.new.host).faults c.serve_doors.result
    (subst (λ (n : ℕ). EndsServing c.args.book.opening (g.C.Clock.course c.args.clock.now) n c.serve_doors.result
    (g.H.Host.closed c.serve_doors.new.host) (g.H.Host.hosting c.open_doors.new.host).faults
    (g.H.Host.hosting c.serve_doors.new.host).faults) c.in-Ok-open_doors.ensures.doors.0
    (c.serve_doors.ensures.end c.args.book.opening (c.args.book, c.in-Ok.ensures.lock.first, refl)))

pub returns-in-Ok-open_doors-clause-served : goal.returns-in-Ok-open_doors-clause-served
returns-in-Ok-open_doors-clause-served g c =
    by.of_served c.args.book.opening (g.C.Clock.course c.args.clock.now) (vec_len c.in-Ok-open_doors.doors)
    (g.H.Host.closed c.serve_doors.new.host) (g.H.Host.hosting c.open_doors.new.host).faults
    (g.H.Host.hosting c.serve_doors.new.host).faults c.serve_doors.result
    (c.serve_doors.ensures.end c.args.book.opening (c.args.book, c.in-Ok.ensures.lock.first, refl))

pub returns-in-Ok-open_doors-clause-written : goal.returns-in-Ok-open_doors-clause-written
returns-in-Ok-open_doors-clause-written g c =
    by.of_line c.args.book.opening (g.C.Clock.course c.args.clock.now) (vec_len c.in-Ok-open_doors.doors)
    (g.H.Host.closed c.serve_doors.new.host) (g.H.Host.hosting c.open_doors.new.host).faults
    (g.H.Host.hosting c.serve_doors.new.host).faults c.serve_doors.result (g.K.Sink.taken c.args.output.now)
    (g.K.Sink.taken c.open_doors.new.output) (g.K.Sink.write_faults c.args.output.now)
    (g.K.Sink.write_faults c.open_doors.new.output) (serving_line c.args.port)
    (c.serve_doors.ensures.end c.args.book.opening (c.args.book, c.in-Ok.ensures.lock.first, refl))
    c.in-Ok-open_doors.ensures.written c.in-Ok-open_doors.ensures.unfailed

pub returns-in-Ok-open_doors-clause-door_fault : goal.returns-in-Ok-open_doors-clause-door_fault
returns-in-Ok-open_doors-clause-door_fault g c =
    by.of_fault c.args.book.opening (g.C.Clock.course c.args.clock.now) (vec_len c.in-Ok-open_doors.doors)
    (g.H.Host.closed c.serve_doors.new.host) (g.H.Host.hosting c.open_doors.new.host).faults
    (g.H.Host.hosting c.serve_doors.new.host).faults c.serve_doors.result (g.H.Host.hosting c.args.host.now).faults
    (c.serve_doors.ensures.end c.args.book.opening (c.args.book, c.in-Ok.ensures.lock.first, refl))
    c.in-Ok-open_doors.ensures.faults

pub returns-in-Ok-open_doors-clause-unfailed : goal.returns-in-Ok-open_doors-clause-unfailed
returns-in-Ok-open_doors-clause-unfailed g c =
    by.of_unfailed c.args.book.opening (g.C.Clock.course c.args.clock.now) (vec_len c.in-Ok-open_doors.doors)
    (g.H.Host.closed c.serve_doors.new.host) (g.H.Host.hosting c.open_doors.new.host).faults
    (g.H.Host.hosting c.serve_doors.new.host).faults c.serve_doors.result (g.H.Host.hosting c.args.host.now).faults
    (c.serve_doors.ensures.end c.args.book.opening (c.args.book, c.in-Ok.ensures.lock.first, refl))
    c.in-Ok-open_doors.ensures.faults
