use Rattle.session_talk.specs.Working.{out}
use Rattle.session_talk.proofs.Joining.{cut_write}
use Rattle.session_talk.proofs.writing.write_text.Goals as goal

pub returns-in-Ok : goal.returns-in-Ok
returns-in-Ok g c = record { written = c.in-Ok.ensures.written; faults = c.in-Ok.ensures.faults }

pub returns-in-Err : goal.returns-in-Err
returns-in-Err g c = cut_write (out (g.K.Sink.taken c.args.output.now) (g.K.Sink.write_faults c.args.output.now)) (out (g.K.Sink.taken c.write_all.new.sink) (g.K.Sink.write_faults c.write_all.new.sink)) c.args.text.now c.in-Err.ensures.cut c.in-Err.ensures.faults
