use Rattle.std.proofs.Common.{Ok, false, refl}
use Rattle.ctl_desk.specs.Desk.{state_of}
use Rattle.session_text.specs.declared.reader.Heard.TheVariants as heard
use Rattle.session_talk.specs.Working.{out}
use Rattle.session_talk.proofs.Hearing.{heard_works, none_works, plain_works}
use Rattle.session_talk.proofs.line.work_heard.Goals as goal

pub returns-in-Nothing-clause-works : goal.returns-in-Nothing-clause-works
returns-in-Nothing-clause-works g c =
    heard_works (g.Q.Shelf.files c.args.shelf.now) (g.Q.Shelf.shelf_faults c.args.shelf.now) (g.Q.Shelf.shelf_faults c.args.shelf.now) c.args.place.now.name.now c.args.place.now.number heard.Nothing c.args.heard (state_of c.args.desk.now) (state_of c.args.desk.now) (out (g.K.Sink.taken c.args.output.now) (g.K.Sink.write_faults c.args.output.now)) (out (g.K.Sink.taken c.args.output.now) (g.K.Sink.write_faults c.args.output.now)) (Ok false) c.in-Nothing.is
    (none_works (g.Q.Shelf.files c.args.shelf.now) (g.Q.Shelf.shelf_faults c.args.shelf.now) c.args.place.now.name.now c.args.place.now.number heard.Nothing (state_of c.args.desk.now) (out (g.K.Sink.taken c.args.output.now) (g.K.Sink.write_faults c.args.output.now)) refl refl)

pub returns-in-Asks-clause-works : goal.returns-in-Asks-clause-works
returns-in-Asks-clause-works g c =
    heard_works (g.Q.Shelf.files c.args.shelf.now) (g.Q.Shelf.shelf_faults c.args.shelf.now) (g.Q.Shelf.shelf_faults c.read_and_work.new.shelf) c.args.place.now.name.now c.args.place.now.number (heard.Asks c.in-Asks.call) c.args.heard (state_of c.args.desk.now) (state_of c.read_and_work.new.desk) (out (g.K.Sink.taken c.args.output.now) (g.K.Sink.write_faults c.args.output.now)) (out (g.K.Sink.taken c.read_and_work.new.output) (g.K.Sink.write_faults c.read_and_work.new.output)) c.read_and_work.result c.in-Asks.is
    c.read_and_work.ensures.works

pub returns-in-Help-clause-works : goal.returns-in-Help-clause-works
returns-in-Help-clause-works g c =
    heard_works (g.Q.Shelf.files c.args.shelf.now) (g.Q.Shelf.shelf_faults c.args.shelf.now) (g.Q.Shelf.shelf_faults c.args.shelf.now) c.args.place.now.name.now c.args.place.now.number heard.Help c.args.heard (state_of c.args.desk.now) (state_of c.args.desk.now) (out (g.K.Sink.taken c.args.output.now) (g.K.Sink.write_faults c.args.output.now)) (out (g.K.Sink.taken c.tell_help.new.output) (g.K.Sink.write_faults c.tell_help.new.output)) c.tell_help.result c.in-Help.is
    (plain_works (g.Q.Shelf.files c.args.shelf.now) (g.Q.Shelf.shelf_faults c.args.shelf.now) c.args.place.now.name.now c.args.place.now.number heard.Help (state_of c.args.desk.now) (state_of c.args.desk.now) (out (g.K.Sink.taken c.args.output.now) (g.K.Sink.write_faults c.args.output.now)) (out (g.K.Sink.taken c.tell_help.new.output) (g.K.Sink.write_faults c.tell_help.new.output)) c.tell_help.result refl
    (c.tell_help.ensures c.args.place.now.name.now (state_of c.args.desk.now)))

pub returns-in-Quit-clause-works : goal.returns-in-Quit-clause-works
returns-in-Quit-clause-works g c =
    heard_works (g.Q.Shelf.files c.args.shelf.now) (g.Q.Shelf.shelf_faults c.args.shelf.now) (g.Q.Shelf.shelf_faults c.args.shelf.now) c.args.place.now.name.now c.args.place.now.number heard.Quit c.args.heard (state_of c.args.desk.now) (state_of c.args.desk.now) (out (g.K.Sink.taken c.args.output.now) (g.K.Sink.write_faults c.args.output.now)) (out (g.K.Sink.taken c.args.output.now) (g.K.Sink.write_faults c.args.output.now)) (Ok false) c.in-Quit.is
    (none_works (g.Q.Shelf.files c.args.shelf.now) (g.Q.Shelf.shelf_faults c.args.shelf.now) c.args.place.now.name.now c.args.place.now.number heard.Quit (state_of c.args.desk.now) (out (g.K.Sink.taken c.args.output.now) (g.K.Sink.write_faults c.args.output.now)) refl refl)

pub returns-in-Wrong-clause-works : goal.returns-in-Wrong-clause-works
returns-in-Wrong-clause-works g c =
    heard_works (g.Q.Shelf.files c.args.shelf.now) (g.Q.Shelf.shelf_faults c.args.shelf.now) (g.Q.Shelf.shelf_faults c.args.shelf.now) c.args.place.now.name.now c.args.place.now.number (heard.Wrong c.in-Wrong.fault) c.args.heard (state_of c.args.desk.now) (state_of c.args.desk.now) (out (g.K.Sink.taken c.args.output.now) (g.K.Sink.write_faults c.args.output.now)) (out (g.K.Sink.taken c.tell_wrong.new.output) (g.K.Sink.write_faults c.tell_wrong.new.output)) c.tell_wrong.result c.in-Wrong.is
    (plain_works (g.Q.Shelf.files c.args.shelf.now) (g.Q.Shelf.shelf_faults c.args.shelf.now) c.args.place.now.name.now c.args.place.now.number (heard.Wrong c.in-Wrong.fault) (state_of c.args.desk.now) (state_of c.args.desk.now) (out (g.K.Sink.taken c.args.output.now) (g.K.Sink.write_faults c.args.output.now)) (out (g.K.Sink.taken c.tell_wrong.new.output) (g.K.Sink.write_faults c.tell_wrong.new.output)) c.tell_wrong.result refl
    (c.tell_wrong.ensures (state_of c.args.desk.now)))
