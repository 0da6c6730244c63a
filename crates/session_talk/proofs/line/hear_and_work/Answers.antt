use Rattle.ctl_desk.specs.Desk.{state_of}
use Rattle.session_text.specs.Heard.{heard_in, reader_after}
use Rattle.session_talk.specs.Working.{out}
use Rattle.session_talk.proofs.Hearing.{turned_as, unheard}
use Rattle.session_talk.proofs.line.hear_and_work.Goals as goal

pub returns-in_default-clause-works : goal.returns-in_default-clause-works
returns-in_default-clause-works g c =
    unheard (g.Q.Shelf.files c.args.shelf.now) (g.Q.Shelf.shelf_faults c.args.shelf.now) (g.Q.Shelf.shelf_faults c.args.shelf.now) c.args.place.now.name.now c.args.place.now.number (reader_after c.args.reader c.args.line.now) (heard_in c.args.reader c.args.line.now) (state_of c.args.desk.now) (state_of c.args.desk.now) (out (g.K.Sink.taken c.args.output.now) (g.K.Sink.write_faults c.args.output.now))

pub returns-clause-works : goal.returns-clause-works
returns-clause-works g c =
    turned_as (g.Q.Shelf.files c.args.shelf.now) (g.Q.Shelf.shelf_faults c.args.shelf.now) (g.Q.Shelf.shelf_faults c.turn_to.new.shelf) c.args.place.now.name.now c.args.place.now.number c.in-Ok.taken.0 (reader_after c.args.reader c.args.line.now) c.in-Ok.taken.1 (heard_in c.args.reader c.args.line.now) (state_of c.args.desk.now) (state_of c.turn_to.new.desk) (out (g.K.Sink.taken c.args.output.now) (g.K.Sink.write_faults c.args.output.now))
    (out (g.K.Sink.taken c.turn_to.new.output) (g.K.Sink.write_faults c.turn_to.new.output)) c.turn_to.result c.in-Ok.ensures.after c.in-Ok.ensures.heard c.turn_to.ensures.works
