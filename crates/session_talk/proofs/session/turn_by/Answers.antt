use Rattle.std.proofs.Common.{refl, subst}
use Rattle.session_talk.specs.Lines.{IsFound}
use Rattle.session_talk.specs.declared.lines.Found.{Found}
use Rattle.ctl_desk.specs.Desk.{state_of}
use Rattle.session_talk.specs.Talk.{Scene, setting}
use Rattle.session_talk.specs.Turns.{ended_by, post}
use Rattle.session_talk.specs.Working.{out}
use Rattle.session_talk.specs.declared.session.How.TheVariants as end
use Rattle.session_talk.proofs.Turning.{by_last, by_line, closed, ended_as, read_failed, read_in_part, too_long}
use Rattle.session_talk.proofs.session.turn_by.Goals as goal

pub returns-in-Line-clause-turned : goal.returns-in-Line-clause-turned
returns-in-Line-clause-turned g c = λ left left' reads reads' pending pending' old found told.
    let from : Scene = record { left = left; reads = reads; output = old; files = (g.Q.Shelf.shelf_faults c.args.shelf.now) } in
    let to : Scene = record { left = left'; reads = reads'; output = (out (g.K.Sink.taken c.line_turn.new.output) (g.K.Sink.write_faults c.line_turn.new.output)); files = (g.Q.Shelf.shelf_faults c.line_turn.new.shelf) } in
    let is = (subst (λ (f : Found). IsFound left left' reads reads' pending pending' f) c.in-Line.is found) in
    by_line (setting c.args.name.now c.args.input (g.Q.Shelf.files c.args.shelf.now)) (post c.args.session.reader c.args.before pending c.args.session.wrong) (state_of c.args.desk.now) (state_of c.line_turn.new.desk) from to (out (g.K.Sink.taken c.args.output.now) (g.K.Sink.write_faults c.args.output.now)) c.in-Line.line.items c.as_slice-text.result.now pending'
    c.line_turn.ensures.turned.0 c.line_turn.result c.lines_are_cut.ensures told is c.as_slice-text.ensures.value
    c.line_turn.ensures.turned.1 c.line_turn.ensures.turned.2

pub returns-in-Last-clause-turned : goal.returns-in-Last-clause-turned
returns-in-Last-clause-turned g c = λ left left' reads reads' pending pending' old found told.
    let from : Scene = record { left = left; reads = reads; output = old; files = (g.Q.Shelf.shelf_faults c.args.shelf.now) } in
    let to : Scene = record { left = left'; reads = reads'; output = (out (g.K.Sink.taken c.last_turn-at_end.new.output) (g.K.Sink.write_faults c.last_turn-at_end.new.output)); files = (g.Q.Shelf.shelf_faults c.line_turn-turn.new.shelf) } in
    let is = (subst (λ (f : Found). IsFound left left' reads reads' pending pending' f) c.in-Last.is found) in
    by_last (setting c.args.name.now c.args.input (g.Q.Shelf.files c.args.shelf.now)) (post c.args.session.reader c.args.before pending c.args.session.wrong) (state_of c.args.desk.now) (state_of c.line_turn-turn.new.desk) from to (out (g.K.Sink.taken c.args.output.now) (g.K.Sink.write_faults c.args.output.now)) (out (g.K.Sink.taken c.line_turn-turn.new.output) (g.K.Sink.write_faults c.line_turn-turn.new.output)) c.in-Last.line.items
    c.as_slice-last_text.result.now pending' c.line_turn-turn.ensures.turned.0 c.line_turn-turn.result
    c.last_turn-at_end.result c.the_last_line_may_lack_its_end.ensures told is c.as_slice-last_text.ensures.value
    c.line_turn-turn.ensures.turned.1 c.line_turn-turn.ensures.turned.2 c.last_turn-at_end.ensures

pub returns-in-End-clause-turned : goal.returns-in-End-clause-turned
returns-in-End-clause-turned g c = λ left left' reads reads' pending pending' old found told.
    let from : Scene = record { left = left; reads = reads; output = old; files = (g.Q.Shelf.shelf_faults c.args.shelf.now) } in
    let to : Scene = record { left = left'; reads = reads'; output = (out (g.K.Sink.taken c.tell_end-last.new.output) (g.K.Sink.write_faults c.tell_end-last.new.output)); files = (g.Q.Shelf.shelf_faults c.args.shelf.now) } in
    let is = (subst (λ (f : Found). IsFound left left' reads reads' pending pending' f) c.in-End.is found) in
    ended_as (setting c.args.name.now c.args.input (g.Q.Shelf.files c.args.shelf.now)) (post c.args.session.reader c.args.before pending c.args.session.wrong) (state_of c.args.desk.now) from to (ended_by c.tell_end-last.result end.Closed c.args.session.wrong)
    c.ended_by-closed.result c.ended_by-closed.ensures
    (closed (setting c.args.name.now c.args.input (g.Q.Shelf.files c.args.shelf.now)) (post c.args.session.reader c.args.before pending c.args.session.wrong) (state_of c.args.desk.now) from to (out (g.K.Sink.taken c.args.output.now) (g.K.Sink.write_faults c.args.output.now)) c.tell_end-last.result told (c.tell_end-last.ensures (state_of c.args.desk.now)) is.0 is.1 is.2 is.4 refl)

pub returns-in-TooLong-clause-turned : goal.returns-in-TooLong-clause-turned
returns-in-TooLong-clause-turned g c = λ left left' reads reads' pending pending' old found told.
    let from : Scene = record { left = left; reads = reads; output = old; files = (g.Q.Shelf.shelf_faults c.args.shelf.now) } in
    let to : Scene = record { left = left'; reads = reads'; output = (out (g.K.Sink.taken c.tell_wrong-last.new.output) (g.K.Sink.write_faults c.tell_wrong-last.new.output)); files = (g.Q.Shelf.shelf_faults c.args.shelf.now) } in
    let is = (subst (λ (f : Found). IsFound left left' reads reads' pending pending' f) c.in-TooLong.is found) in
    ended_as (setting c.args.name.now c.args.input (g.Q.Shelf.files c.args.shelf.now)) (post c.args.session.reader c.args.before pending c.args.session.wrong) (state_of c.args.desk.now) from to (ended_by c.tell_wrong-last.result end.TooLong c.args.session.wrong)
    c.ended_by-too_long.result c.ended_by-too_long.ensures
    (too_long (setting c.args.name.now c.args.input (g.Q.Shelf.files c.args.shelf.now)) (post c.args.session.reader c.args.before pending c.args.session.wrong) (state_of c.args.desk.now) from to (out (g.K.Sink.taken c.args.output.now) (g.K.Sink.write_faults c.args.output.now)) c.tell_wrong-last.result told (c.tell_wrong-last.ensures (state_of c.args.desk.now)) is.0 is.1 refl)

pub returns-in-ReadFault-clause-turned : goal.returns-in-ReadFault-clause-turned
returns-in-ReadFault-clause-turned g c = λ left left' reads reads' pending pending' old found told.
    let from : Scene = record { left = left; reads = reads; output = old; files = (g.Q.Shelf.shelf_faults c.args.shelf.now) } in
    let to : Scene = record { left = left'; reads = reads'; output = (out (g.K.Sink.taken c.args.output.now) (g.K.Sink.write_faults c.args.output.now)); files = (g.Q.Shelf.shelf_faults c.args.shelf.now) } in
    let is = (subst (λ (f : Found). IsFound left left' reads reads' pending pending' f) c.in-ReadFault.is found) in
    read_failed (setting c.args.name.now c.args.input (g.Q.Shelf.files c.args.shelf.now)) (post c.args.session.reader c.args.before pending c.args.session.wrong) (state_of c.args.desk.now) from to told is.0 is.1 refl

pub returns-in-Memory-clause-turned : goal.returns-in-Memory-clause-turned
returns-in-Memory-clause-turned g c = λ left left' reads reads' pending pending' old found told.
    let from : Scene = record { left = left; reads = reads; output = old; files = (g.Q.Shelf.shelf_faults c.args.shelf.now) } in
    let to : Scene = record { left = left'; reads = reads'; output = (out (g.K.Sink.taken c.args.output.now) (g.K.Sink.write_faults c.args.output.now)); files = (g.Q.Shelf.shelf_faults c.args.shelf.now) } in
    let is = (subst (λ (f : Found). IsFound left left' reads reads' pending pending' f) c.in-Memory.is found) in
    read_in_part (setting c.args.name.now c.args.input (g.Q.Shelf.files c.args.shelf.now)) (post c.args.session.reader c.args.before pending c.args.session.wrong) (state_of c.args.desk.now) from to told is.0 is.1
