use Rattle.std.proofs.Common.{[], ◌∷◌, Some, None, sym, ◌∙◌}
use Rattle.std.specs.Prelude.{option_copied}
use Rattle.ctl_desk.specs.Desk.{state_of}
use Rattle.session_text.specs.Blocks.{block_at}
use Rattle.session_text.specs.Actions.{asking}
use Rattle.session_talk.specs.Telling.{told_by}
use Rattle.session_talk.specs.Working.{out}
use Rattle.session_talk.proofs.Askings.{asking_works}
use Rattle.session_talk.proofs.Joining.{stopped_at_once}
use Rattle.session_talk.proofs.asking.ask_at.Goals as goal

pub returns-in_default : goal.returns-in_default
returns-in_default g c =
    stopped_at_once (out (g.K.Sink.taken c.args.output.now) (g.K.Sink.write_faults c.args.output.now))
    (told_by c.args.place.now.name.now (state_of c.args.desk.now) (asking c.args.place.now.number (block_at c.args.moment c.args.call.now.user c.args.call.now.words (option_copied c.args.script)) ∷ []))

pub returns-in-Some : goal.returns-in-Some
returns-in-Some g c =
    asking_works c.args.place.now.name.now c.args.place.now.number (Some c.in-Some.block) (block_at c.args.moment c.args.call.now.user c.args.call.now.words (option_copied c.args.script))
    (state_of c.args.desk.now) (state_of c.ask_block.new.desk) (out (g.K.Sink.taken c.args.output.now) (g.K.Sink.write_faults c.args.output.now)) (out (g.K.Sink.taken c.ask_block.new.output) (g.K.Sink.write_faults c.ask_block.new.output)) c.ask_block.result
    (sym c.in-Some.is ∙ c.in-Ok.ensures.value) c.ask_block.ensures

pub returns-in-None : goal.returns-in-None
returns-in-None g c =
    asking_works c.args.place.now.name.now c.args.place.now.number None (block_at c.args.moment c.args.call.now.user c.args.call.now.words (option_copied c.args.script))
    (state_of c.args.desk.now) (state_of c.args.desk.now) (out (g.K.Sink.taken c.args.output.now) (g.K.Sink.write_faults c.args.output.now)) (out (g.K.Sink.taken c.tell_wrong.new.output) (g.K.Sink.write_faults c.tell_wrong.new.output)) c.tell_wrong.result
    (sym c.in-None.is ∙ c.in-Ok.ensures.value) (c.tell_wrong.ensures (state_of c.args.desk.now))
