use Rattle.std.proofs.Common.{[], ◌∷◌}
use Rattle.ctl_desk.specs.Desk.{state_of}
use Rattle.session_text.specs.Actions.{Asks}
use Rattle.session_talk.specs.Telling.{told_by}
use Rattle.session_talk.specs.Working.{out}
use Rattle.session_talk.proofs.Askings.{asked_works}
use Rattle.session_talk.proofs.Joining.{stopped_at_once}
use Rattle.session_talk.proofs.asking.ask_block.Goals as goal

pub returns-in_default : goal.returns-in_default
returns-in_default g c =
    stopped_at_once (out (g.K.Sink.taken c.args.output.now) (g.K.Sink.write_faults c.args.output.now))
    (told_by c.args.place.now.name.now (state_of c.args.desk.now) (Asks c.args.place.now.number c.args.block.now ∷ []))

pub returns : goal.returns
returns g c =
    asked_works c.args.place.now.name.now c.args.place.now.number c.args.block.now c.args.desk.now c.answer.new.desk (out (g.K.Sink.taken c.args.output.now) (g.K.Sink.write_faults c.args.output.now)) (out (g.K.Sink.taken c.tell_answer.new.output) (g.K.Sink.write_faults c.tell_answer.new.output)) c.in-Ok.told
    c.tell_answer.result c.in-Ok.ensures c.tell_answer.ensures.refused c.tell_answer.ensures.told
