use Rattle.std.proofs.Common.{◌++◌}
use Rattle.session_text.specs.Actions.{open_at_end}
use Rattle.session_text.specs.CallTexts.{before, end_shown}
use Rattle.session_talk.specs.Telling.{told_by}
use Rattle.session_talk.specs.Working.{out}
use Rattle.session_talk.proofs.Joining.{stopped_as, stopped_more, told_as}
use Rattle.session_talk.proofs.Turning.{works_before}
use Rattle.session_talk.proofs.session.tell_close.Goals as goal

pub returns-in-Ok : goal.returns-in-Ok
returns-in-Ok g c = λ s.
    works_before c.args.place.now.name.now (before c.args.input) (end_shown c.args.input) (open_at_end c.args.place.now.number c.args.reader.now.begun) s (out (g.K.Sink.taken c.args.output.now) (g.K.Sink.write_faults c.args.output.now)) (out (g.K.Sink.taken c.write_text.new.output) (g.K.Sink.write_faults c.write_text.new.output)) (out (g.K.Sink.taken c.tell_end.new.output) (g.K.Sink.write_faults c.tell_end.new.output)) c.tell_end.result
    (told_as (out (g.K.Sink.taken c.args.output.now) (g.K.Sink.write_faults c.args.output.now)) (out (g.K.Sink.taken c.write_text.new.output) (g.K.Sink.write_faults c.write_text.new.output)) c.before-mark.result.now (before c.args.input) c.before-mark.ensures c.in-Ok.ensures)
    (c.tell_end.ensures s)

pub returns-in-Err : goal.returns-in-Err
returns-in-Err g c = λ s.
    stopped_more (out (g.K.Sink.taken c.args.output.now) (g.K.Sink.write_faults c.args.output.now)) (out (g.K.Sink.taken c.write_text.new.output) (g.K.Sink.write_faults c.write_text.new.output)) (before c.args.input ++ end_shown c.args.input) (told_by c.args.place.now.name.now s (open_at_end c.args.place.now.number c.args.reader.now.begun)) c.in-Err.kind
    (stopped_more (out (g.K.Sink.taken c.args.output.now) (g.K.Sink.write_faults c.args.output.now)) (out (g.K.Sink.taken c.write_text.new.output) (g.K.Sink.write_faults c.write_text.new.output)) (before c.args.input) (end_shown c.args.input) c.in-Err.kind
    (stopped_as (out (g.K.Sink.taken c.args.output.now) (g.K.Sink.write_faults c.args.output.now)) (out (g.K.Sink.taken c.write_text.new.output) (g.K.Sink.write_faults c.write_text.new.output)) c.before-mark.result.now (before c.args.input) c.in-Err.kind c.before-mark.ensures c.in-Err.ensures))
