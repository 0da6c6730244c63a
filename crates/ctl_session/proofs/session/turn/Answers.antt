use Rattle.ctl_session.proofs.Turning.{answered_turn, unwritten_turn, unanswered_turn}
use Rattle.ctl_session.proofs.session.turn.Goals as goal

pub returns-in-Ok : goal.returns-in-Ok
returns-in-Ok g c =
    answered_turn _ _
    (g.L.Link.wire c.next_whole.new.link) _ _ _ _ _ c.in-Whole.block c.in-Whole.ensures.found
    c.next_whole.ensures.writes c.in-Ok.ensures

pub returns-in-Err-Write : goal.returns-in-Err-Write
returns-in-Err-Write g c =
    unwritten_turn _ _
    (g.L.Link.wire c.next_whole.new.link) _ _ _ _ _ c.in-Whole.block c.in-Whole.ensures.found
    c.next_whole.ensures.writes
    (rw c.in-Err-Write.field-0-is at c.in-Err-Write.ensures)

pub returns : goal.returns
returns g c =
    unanswered_turn _ _
    (g.L.Link.wire c.next_whole.new.link) _ _ _ _ _ c.in-Whole.block c.in-Whole.ensures.found
    c.next_whole.ensures.writes
    (rw c.in-Err-Memory.field-0-is at c.in-Err-Memory.ensures)
