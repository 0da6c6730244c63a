use Rattle.std.proofs.Common.{Option, List, ℕ, ap}
use Rattle.std.specs.Prelude.{Vec, option_copied, option_map}
use Rattle.std.specs.declared.alloc.Global.{Global}
use Rattle.ctl_desk.specs.Desk.{state_of}
use Rattle.session_text.specs.declared.reader.Heard.TheVariants as heard
use Rattle.session_text.specs.Actions.{script_read}
use Rattle.session_talk.specs.Working.{out}
use Rattle.session_talk.proofs.Askings.{calling_works}
use Rattle.session_talk.proofs.Hearing.{call_works, nothing_works}
use Rattle.session_talk.proofs.line.read_and_work.Goals as goal

pub returns-in_default-clause-works : goal.returns-in_default-clause-works
returns-in_default-clause-works g c =
    nothing_works (g.Q.Shelf.files c.args.shelf.now) (g.Q.Shelf.shelf_faults c.args.shelf.now) (g.Q.Shelf.shelf_faults c.read_script.new.shelf) c.args.place.now.name.now c.args.place.now.number (heard.Asks c.args.call.now) (state_of c.args.desk.now) (state_of c.args.desk.now) (out (g.K.Sink.taken c.args.output.now) (g.K.Sink.write_faults c.args.output.now))

pub returns-clause-works : goal.returns-clause-works
returns-clause-works g c =
    call_works (g.Q.Shelf.files c.args.shelf.now) (g.Q.Shelf.shelf_faults c.args.shelf.now) (g.Q.Shelf.shelf_faults c.read_script.new.shelf) c.args.place.now.name.now c.args.place.now.number c.args.call.now (option_map (λ (v : Vec ℕ Global). v.items) c.in-Ok.file) (state_of c.args.desk.now) (state_of c.work_call.new.desk) (out (g.K.Sink.taken c.args.output.now) (g.K.Sink.write_faults c.args.output.now)) (out (g.K.Sink.taken c.work_call.new.output) (g.K.Sink.write_faults c.work_call.new.output))
    c.work_call.result c.in-Ok.ensures.read
    (calling_works c.args.place.now.name.now c.args.place.now.number c.args.call.now (script_read c.args.call.now.script (option_copied c.bytes_of.result))
    (script_read c.args.call.now.script (option_map (λ (v : Vec ℕ Global). v.items) c.in-Ok.file)) (state_of c.args.desk.now) (state_of c.work_call.new.desk) (out (g.K.Sink.taken c.args.output.now) (g.K.Sink.write_faults c.args.output.now)) (out (g.K.Sink.taken c.work_call.new.output) (g.K.Sink.write_faults c.work_call.new.output)) c.work_call.result
    (ap (λ (o : Option (List ℕ)). script_read c.args.call.now.script o) c.bytes_of.ensures) c.work_call.ensures)
