use Rattle.std.proofs.Common.{◌∙◌}
use Rattle.session_text.specs.CallTexts.{behind}
use Rattle.session_talk.specs.Working.{out}
use Rattle.session_talk.proofs.Joining.{stopped_at_once, writes_as}
use Rattle.session_talk.proofs.line.show.Goals as goal

pub returns-in_default : goal.returns-in_default
returns-in_default g c = stopped_at_once (out (g.K.Sink.taken c.args.output.now) (g.K.Sink.write_faults c.args.output.now)) (behind c.args.input c.args.line.now)

pub returns : goal.returns
returns g c =
    writes_as (out (g.K.Sink.taken c.args.output.now) (g.K.Sink.write_faults c.args.output.now)) (out (g.K.Sink.taken c.write_text.new.output) (g.K.Sink.write_faults c.write_text.new.output)) c.as_slice.result.now (behind c.args.input c.args.line.now) c.write_text.result
    (c.as_slice.ensures.value ∙ c.in-Ok.ensures) c.write_text.ensures
