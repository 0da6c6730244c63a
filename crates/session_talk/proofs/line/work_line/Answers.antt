use Rattle.ctl_desk.specs.Desk.{state_of}
use Rattle.session_talk.specs.Working.{out}
use Rattle.session_talk.proofs.Hearing.{shown_line, unshown_line}
use Rattle.session_talk.proofs.line.work_line.Goals as goal

pub returns-in-Ok-clause-works : goal.returns-in-Ok-clause-works
returns-in-Ok-clause-works g c =
    shown_line (g.Q.Shelf.files c.args.shelf.now) (g.Q.Shelf.shelf_faults c.args.shelf.now) (g.Q.Shelf.shelf_faults c.hear_and_work.new.shelf) c.args.place.now.name.now c.args.input c.args.place.now.number c.args.reader c.args.line.now (state_of c.args.desk.now)
    (state_of c.hear_and_work.new.desk) (out (g.K.Sink.taken c.args.output.now) (g.K.Sink.write_faults c.args.output.now)) (out (g.K.Sink.taken c.show.new.output) (g.K.Sink.write_faults c.show.new.output)) (out (g.K.Sink.taken c.hear_and_work.new.output) (g.K.Sink.write_faults c.hear_and_work.new.output)) c.hear_and_work.result c.in-Ok.ensures
    c.hear_and_work.ensures.works

pub returns-in-Err-clause-works : goal.returns-in-Err-clause-works
returns-in-Err-clause-works g c =
    unshown_line (g.Q.Shelf.files c.args.shelf.now) (g.Q.Shelf.shelf_faults c.args.shelf.now) (g.Q.Shelf.shelf_faults c.args.shelf.now) c.args.place.now.name.now c.args.input c.args.place.now.number c.args.reader c.args.line.now (state_of c.args.desk.now) (state_of c.args.desk.now) (out (g.K.Sink.taken c.args.output.now) (g.K.Sink.write_faults c.args.output.now)) (out (g.K.Sink.taken c.show.new.output) (g.K.Sink.write_faults c.show.new.output))
    c.in-Err.kind c.in-Err.ensures
