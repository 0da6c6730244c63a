use Rattle.ctl_desk.specs.Desk.{state_of}
use Rattle.session_talk.specs.Working.{out}
use Rattle.session_talk.proofs.Hearing.{turned_ok}
use Rattle.session_talk.proofs.line.turn_to.Goals as goal

pub returns-in-Ok-clause-works : goal.returns-in-Ok-clause-works
returns-in-Ok-clause-works g c =
    turned_ok (g.Q.Shelf.files c.args.shelf.now) (g.Q.Shelf.shelf_faults c.args.shelf.now) (g.Q.Shelf.shelf_faults c.work_heard.new.shelf) c.args.place.now.name.now c.args.place.now.number c.args.reader c.args.heard (state_of c.args.desk.now) (state_of c.work_heard.new.desk) (out (g.K.Sink.taken c.args.output.now) (g.K.Sink.write_faults c.args.output.now)) (out (g.K.Sink.taken c.work_heard.new.output) (g.K.Sink.write_faults c.work_heard.new.output))
    c.in-Ok.wrong c.is_quit-quits.result c.is_quit-quits.ensures c.in-Ok.ensures.works

pub returns-in-Err-clause-works : goal.returns-in-Err-clause-works
returns-in-Err-clause-works g c = c.in-Err.ensures.works
