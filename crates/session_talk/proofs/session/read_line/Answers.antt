use Rattle.std.proofs.Common.{refl}
use Rattle.session_text.specs.CallTexts.{before}
use Rattle.session_talk.specs.Working.{out}
use Rattle.session_talk.proofs.Joining.{stopped_as, told_as}
use Rattle.session_talk.proofs.session.read_line.Goals as goal

pub returns-in-Ok : goal.returns-in-Ok
returns-in-Ok g c = (
  told_as (out (g.K.Sink.taken c.args.output.now) (g.K.Sink.write_faults c.args.output.now)) (out (g.K.Sink.taken c.write_text.new.output) (g.K.Sink.write_faults c.write_text.new.output)) c.before-mark.result.now (before c.args.input) c.before-mark.ensures c.in-Ok.ensures,
  c.next_line.ensures,
)

pub returns-in-Err : goal.returns-in-Err
returns-in-Err g c = (
  stopped_as (out (g.K.Sink.taken c.args.output.now) (g.K.Sink.write_faults c.args.output.now)) (out (g.K.Sink.taken c.write_text.new.output) (g.K.Sink.write_faults c.write_text.new.output)) c.before-mark.result.now (before c.args.input) c.in-Err.kind c.before-mark.ensures c.in-Err.ensures,
  refl,
  refl,
  refl,
)
