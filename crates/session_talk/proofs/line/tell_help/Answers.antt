use Rattle.session_talk.specs.Working.{out}
use Rattle.session_text.specs.CallTexts.{help_text}
use Rattle.session_talk.proofs.Askings.{text_stopped, text_worked}
use Rattle.session_talk.proofs.Joining.{stopped_as, told_as}
use Rattle.session_talk.proofs.line.tell_help.Goals as goal

pub returns-in-Ok : goal.returns-in-Ok
returns-in-Ok g c = λ name s.
    text_worked name help_text (out (g.K.Sink.taken c.args.output.now) (g.K.Sink.write_faults c.args.output.now)) (out (g.K.Sink.taken c.write_text.new.output) (g.K.Sink.write_faults c.write_text.new.output))
    (told_as (out (g.K.Sink.taken c.args.output.now) (g.K.Sink.write_faults c.args.output.now)) (out (g.K.Sink.taken c.write_text.new.output) (g.K.Sink.write_faults c.write_text.new.output)) c.help.result.now help_text c.help.ensures c.in-Ok.ensures) s

pub returns-in-Err : goal.returns-in-Err
returns-in-Err g c = λ name s.
    text_stopped name help_text (out (g.K.Sink.taken c.args.output.now) (g.K.Sink.write_faults c.args.output.now)) (out (g.K.Sink.taken c.write_text.new.output) (g.K.Sink.write_faults c.write_text.new.output)) c.in-Err.kind
    (stopped_as (out (g.K.Sink.taken c.args.output.now) (g.K.Sink.write_faults c.args.output.now)) (out (g.K.Sink.taken c.write_text.new.output) (g.K.Sink.write_faults c.write_text.new.output)) c.help.result.now help_text c.in-Err.kind c.help.ensures c.in-Err.ensures) s
