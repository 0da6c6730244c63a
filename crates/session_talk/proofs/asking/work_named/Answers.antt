use Rattle.std.proofs.Common.{Option, Some, None, List, ℕ, sym, ap}
use Rattle.std.specs.Borrow.{Bor}
use Rattle.std.specs.Prelude.{option_copied}
use Rattle.ctl_desk.specs.Desk.{state_of}
use Rattle.session_text.specs.Actions.{named_script}
use Rattle.session_talk.specs.Working.{out}
use Rattle.session_talk.proofs.Askings.{calling_works}
use Rattle.session_talk.proofs.asking.work_named.Goals as goal

pub returns-in-Some : goal.returns-in-Some
returns-in-Some g c =
    calling_works c.args.place.now.name.now c.args.place.now.number c.args.call.now (Some (Some c.in-Some.text.now)) (named_script (option_copied c.args.file))
    (state_of c.args.desk.now) (state_of c.ask_times.new.desk) (out (g.K.Sink.taken c.args.output.now) (g.K.Sink.write_faults c.args.output.now)) (out (g.K.Sink.taken c.ask_times.new.output) (g.K.Sink.write_faults c.ask_times.new.output)) c.ask_times.result
    (sym (ap (λ (o : Option (Bor (List ℕ))). named_script (option_copied o)) c.in-Some.is)) c.ask_times.ensures

pub returns-in-None : goal.returns-in-None
returns-in-None g c =
    calling_works c.args.place.now.name.now c.args.place.now.number c.args.call.now None (named_script (option_copied c.args.file))
    (state_of c.args.desk.now) (state_of c.args.desk.now) (out (g.K.Sink.taken c.args.output.now) (g.K.Sink.write_faults c.args.output.now)) (out (g.K.Sink.taken c.tell_wrong.new.output) (g.K.Sink.write_faults c.tell_wrong.new.output)) c.tell_wrong.result
    (sym (ap (λ (o : Option (Bor (List ℕ))). named_script (option_copied o)) c.in-None.is))
    (c.tell_wrong.ensures (state_of c.args.desk.now))
