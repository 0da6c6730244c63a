use Rattle.session_text.specs.Actions.{open_at_end}
use Rattle.session_text.specs.CallTexts.{end_shown}
use Rattle.session_talk.specs.Telling.{told_by}
use Rattle.session_talk.specs.Working.{out}
use Rattle.session_talk.proofs.Hearing.{text_then}
use Rattle.session_talk.proofs.Joining.{stopped_as, stopped_more, told_as}
use Rattle.session_talk.proofs.session.tell_end.Goals as goal

pub returns-in-Ok : goal.returns-in-Ok
returns-in-Ok g c = λ s.
    text_then c.args.place.now.name.now (end_shown c.args.input) (open_at_end c.args.place.now.number c.args.reader.now.begun) s s (out (g.K.Sink.taken c.args.output.now) (g.K.Sink.write_faults c.args.output.now)) (out (g.K.Sink.taken c.write_text.new.output) (g.K.Sink.write_faults c.write_text.new.output)) (out (g.K.Sink.taken c.tell_open.new.output) (g.K.Sink.write_faults c.tell_open.new.output)) c.tell_open.result
    (told_as (out (g.K.Sink.taken c.args.output.now) (g.K.Sink.write_faults c.args.output.now)) (out (g.K.Sink.taken c.write_text.new.output) (g.K.Sink.write_faults c.write_text.new.output)) c.at_end.result.now (end_shown c.args.input) c.at_end.ensures c.in-Ok.ensures)
    (c.tell_open.ensures s)

pub returns-in-Err : goal.returns-in-Err
returns-in-Err g c = λ s.
    stopped_more (out (g.K.Sink.taken c.args.output.now) (g.K.Sink.write_faults c.args.output.now)) (out (g.K.Sink.taken c.write_text.new.output) (g.K.Sink.write_faults c.write_text.new.output)) (end_shown c.args.input) (told_by c.args.place.now.name.now s (open_at_end c.args.place.now.number c.args.reader.now.begun)) c.in-Err.kind
    (stopped_as (out (g.K.Sink.taken c.args.output.now) (g.K.Sink.write_faults c.args.output.now)) (out (g.K.Sink.taken c.write_text.new.output) (g.K.Sink.write_faults c.write_text.new.output)) c.at_end.result.now (end_shown c.args.input) c.in-Err.kind c.at_end.ensures c.in-Err.ensures)
