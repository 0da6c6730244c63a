use Rattle.session_talk.specs.Working.{out}
use Rattle.session_talk.proofs.Askings.{wrong_stopped, wrong_worked}
use Rattle.session_talk.proofs.writing.tell_wrong.Goals as goal

pub returns-in-Ok : goal.returns-in-Ok
returns-in-Ok g c = wrong_worked c.args.place.now.name.now c.args.place.now.number c.args.fault (out (g.K.Sink.taken c.args.output.now) (g.K.Sink.write_faults c.args.output.now)) (out (g.K.Sink.taken c.write_fault.new.output) (g.K.Sink.write_faults c.write_fault.new.output)) c.in-Ok.ensures

pub returns-in-Err : goal.returns-in-Err
returns-in-Err g c = wrong_stopped c.args.place.now.name.now c.args.place.now.number c.args.fault (out (g.K.Sink.taken c.args.output.now) (g.K.Sink.write_faults c.args.output.now)) (out (g.K.Sink.taken c.write_fault.new.output) (g.K.Sink.write_faults c.write_fault.new.output)) c.in-Err.kind c.in-Err.ensures
