use Rattle.std.proofs.Common.{Err}
use Rattle.ctl_desk.specs.Desk.{state_of}
use Rattle.session_talk.specs.Talk.{scene, setting}
use Rattle.session_talk.specs.Turns.{ended_by, post}
use Rattle.session_talk.specs.Working.{out}
use Rattle.session_talk.specs.declared.session.How.TheVariants as end
use Rattle.session_talk.proofs.Turning.{ended_as, unread}
use Rattle.session_talk.proofs.session.take_turn.Goals as goal

pub returns-in-Ok-clause-turned : goal.returns-in-Ok-clause-turned
returns-in-Ok-clause-turned g c =
    c.turn_by.ensures.turned (g.S.Source.left c.args.source.now) (g.S.Source.left c.read_line.new.source) (g.S.Source.read_faults c.args.source.now) (g.S.Source.read_faults c.read_line.new.source) c.args.pending.now.items c.read_line.new.pending.items (out (g.K.Sink.taken c.args.output.now) (g.K.Sink.write_faults c.args.output.now))
    c.in-Ok.ensures.1 c.in-Ok.ensures.0

pub returns-in-Err-clause-turned : goal.returns-in-Err-clause-turned
returns-in-Err-clause-turned g c =
    let how = (setting c.args.name.now c.args.input (g.Q.Shelf.files c.args.shelf.now)) in
    let at = post c.args.session.reader c.args.before c.args.pending.now.items c.args.session.wrong in
    let from = scene (g.S.Source.left c.args.source.now) (g.S.Source.read_faults c.args.source.now) (g.K.Sink.taken c.args.output.now) (g.K.Sink.write_faults c.args.output.now) (g.Q.Shelf.shelf_faults c.args.shelf.now) in
    let to = scene (g.S.Source.left c.read_line.new.source) (g.S.Source.read_faults c.read_line.new.source) (g.K.Sink.taken c.read_line.new.output) (g.K.Sink.write_faults c.read_line.new.output) (g.Q.Shelf.shelf_faults c.args.shelf.now) in
    ended_as how at (state_of c.args.desk.now) from to (ended_by (Err c.in-Err.fault) end.Closed c.args.session.wrong) c.ended_by.result
    c.ended_by.ensures
    (unread how at (state_of c.args.desk.now) from to c.in-Err.fault end.Closed c.in-Err.ensures.0 c.in-Err.ensures.1 c.in-Err.ensures.2)
