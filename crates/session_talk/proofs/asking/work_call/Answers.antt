use Rattle.std.proofs.Common.{Some, None, List, ℕ, sym, ap, ◌∙◌}
use Rattle.std.specs.Prelude.{option_copied}
use Rattle.ctl_desk.specs.Desk.{state_of}
use Rattle.session_text.specs.declared.call.Script.{Script}
use Rattle.session_text.specs.Actions.{named_script, script_read}
use Rattle.session_talk.specs.Working.{out}
use Rattle.session_talk.proofs.Askings.{calling_works}
use Rattle.session_talk.proofs.asking.work_call.Goals as goal

pub returns-in-Absent : goal.returns-in-Absent
returns-in-Absent g c =
    calling_works c.args.place.now.name.now c.args.place.now.number c.args.call.now (Some None) (script_read c.args.call.now.script (option_copied c.args.file))
    (state_of c.args.desk.now) (state_of c.ask_times.new.desk) (out (g.K.Sink.taken c.args.output.now) (g.K.Sink.write_faults c.args.output.now)) (out (g.K.Sink.taken c.ask_times.new.output) (g.K.Sink.write_faults c.ask_times.new.output)) c.ask_times.result
    (sym (ap (λ (x : Script). script_read x (option_copied c.args.file)) c.in-Absent.is)) c.ask_times.ensures

pub returns-in-Given : goal.returns-in-Given
returns-in-Given g c =
    calling_works c.args.place.now.name.now c.args.place.now.number c.args.call.now (Some (Some c.as_bytes.result.now)) (script_read c.args.call.now.script (option_copied c.args.file))
    (state_of c.args.desk.now) (state_of c.ask_times-in-Given.new.desk) (out (g.K.Sink.taken c.args.output.now) (g.K.Sink.write_faults c.args.output.now)) (out (g.K.Sink.taken c.ask_times-in-Given.new.output) (g.K.Sink.write_faults c.ask_times-in-Given.new.output))
    c.ask_times-in-Given.result
    (ap (λ (t : List ℕ). Some (Some t)) c.as_bytes.ensures ∙ sym (ap (λ (x : Script). script_read x (option_copied c.args.file)) c.in-Given.is))
    c.ask_times-in-Given.ensures

pub returns-in-Named : goal.returns-in-Named
returns-in-Named g c =
    calling_works c.args.place.now.name.now c.args.place.now.number c.args.call.now (named_script (option_copied c.args.file)) (script_read c.args.call.now.script (option_copied c.args.file))
    (state_of c.args.desk.now) (state_of c.work_named.new.desk) (out (g.K.Sink.taken c.args.output.now) (g.K.Sink.write_faults c.args.output.now)) (out (g.K.Sink.taken c.work_named.new.output) (g.K.Sink.write_faults c.work_named.new.output)) c.work_named.result
    (sym (ap (λ (x : Script). script_read x (option_copied c.args.file)) c.in-Named.is)) c.work_named.ensures
