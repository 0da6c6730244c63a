use Rattle.std.proofs.Common.{Ok, Option, false, [], ◌∷◌, sym, ap}
use Rattle.session_text.specs.declared.fault.LineFault.TheVariants.{NoEndLine}
use Rattle.session_text.specs.declared.reader.Open.{Open}
use Rattle.session_text.specs.Actions.{Faults, open_at_end}
use Rattle.session_talk.specs.Working.{out}
use Rattle.session_talk.proofs.Joining.{worked_none, works_as}
use Rattle.session_talk.proofs.session.tell_open.Goals as goal

pub returns-in-Some : goal.returns-in-Some
returns-in-Some g c = λ s.
    works_as c.args.place.now.name.now (Faults c.args.place.now.number NoEndLine ∷ []) (open_at_end c.args.place.now.number c.args.reader.now.begun) s s (out (g.K.Sink.taken c.args.output.now) (g.K.Sink.write_faults c.args.output.now)) (out (g.K.Sink.taken c.tell_wrong.new.output) (g.K.Sink.write_faults c.tell_wrong.new.output)) c.tell_wrong.result
    (sym (ap (λ (o : Option Open). open_at_end c.args.place.now.number o) c.in-Some.is)) (c.tell_wrong.ensures s)

pub returns-in-None : goal.returns-in-None
returns-in-None g c = λ s.
    works_as c.args.place.now.name.now [] (open_at_end c.args.place.now.number c.args.reader.now.begun) s s (out (g.K.Sink.taken c.args.output.now) (g.K.Sink.write_faults c.args.output.now)) (out (g.K.Sink.taken c.args.output.now) (g.K.Sink.write_faults c.args.output.now)) (Ok false)
    (sym (ap (λ (o : Option Open). open_at_end c.args.place.now.number o) c.in-None.is)) (worked_none c.args.place.now.name.now s (out (g.K.Sink.taken c.args.output.now) (g.K.Sink.write_faults c.args.output.now)))
