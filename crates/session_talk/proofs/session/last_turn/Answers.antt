use Rattle.std.proofs.Common.{refl, sym, subst}
use Rattle.session_talk.specs.Turns.{EndsInput}
use Rattle.session_talk.specs.declared.session.Turn.{Turn}
use Rattle.session_talk.specs.Working.{out}
use Rattle.session_talk.proofs.session.last_turn.Goals as goal

pub returns-in-GoesOn : goal.returns-in-GoesOn
returns-in-GoesOn g c =
    subst (λ (t : Turn). EndsInput c.args.place.now.name.now c.args.input c.args.place.now.number t (out (g.K.Sink.taken c.args.output.now) (g.K.Sink.write_faults c.args.output.now)) (out (g.K.Sink.taken c.tell_close-last.new.output) (g.K.Sink.write_faults c.tell_close-last.new.output)) c.ended_by.result) (sym c.in-GoesOn.is)
    (c.tell_close-last.result, c.ended_by.ensures, c.tell_close-last.ensures)

pub returns-in-Ended : goal.returns-in-Ended
returns-in-Ended g c =
    subst (λ (t : Turn). EndsInput c.args.place.now.name.now c.args.input c.args.place.now.number t (out (g.K.Sink.taken c.args.output.now) (g.K.Sink.write_faults c.args.output.now)) (out (g.K.Sink.taken c.args.output.now) (g.K.Sink.write_faults c.args.output.now)) c.in-Ended.ended) (sym c.in-Ended.is) (refl, refl)
