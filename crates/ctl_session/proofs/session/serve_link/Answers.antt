use Rattle.std.proofs.Common.{arith, refl}
use Rattle.ctl_session.specs.Clock.{timing}
use Rattle.ctl_session.specs.Turn.{post}
use Rattle.ctl_session.proofs.Serving.{Laws, most_blocks_is, not_so, served_nothing, served_shut, under_way_at_start, under_way_after, served_after_turn, served_after_look}
use Rattle.ctl_session.proofs.session.serve_link.Goals as goal

pub returns-in_default : goal.returns-in_default
returns-in_default g c =
    rw c.finished.ensures.ending (served_nothing _ _
    (post (g.D.Desk.sight c.args.desk.now)
    (timing (g.C.Clock.course c.args.clock.now) (g.C.Clock.moments c.args.clock.now)) 0)
    refl c.finished.ensures.history)

pub loop-answered-init : goal.loop-answered-init
loop-answered-init g c = rw c.in-Ok.ensures (under_way_at_start _ _ _ refl)

pub loop-answered-preserved : goal.loop-answered-preserved
loop-answered-preserved g c =
    let laws : Laws = record {
      short = c.blocks_are_short.ensures.whole;
      empty = c.nothing_is_partial.ensures;
      joins = c.spellings_join.ensures;
    } in
    under_way_after laws _ _ _ _ _ _
    (post (g.D.Desk.sight c.turn-end.new.desk)
    (timing (g.C.Clock.course c.turn-end.new.clock) (g.C.Clock.moments c.turn-end.new.clock)) c.turn-end.new.readings)
    _ _ _ (omega (arith, most_blocks_is)) c.loop-answered.invariant c.in_default-end.ensures
    (λ shut. not_so c.ends_shut.result c.if-ends_shut.false (c.ends_shut.ensures.1 shut))

pub returns-in-Some : goal.returns-in-Some
returns-in-Some g c =
    let laws : Laws = record {
      short = c.blocks_are_short.ensures.whole;
      empty = c.nothing_is_partial.ensures;
      joins = c.spellings_join.ensures;
    } in
    rw c.finished-in-Some.ensures.ending
    (served_after_turn laws _ _ _ _ _ _
    (post (g.D.Desk.sight c.turn-end.new.desk)
    (timing (g.C.Clock.course c.turn-end.new.clock) (g.C.Clock.moments c.turn-end.new.clock)) c.turn-end.new.readings)
    _ _ _ c.in-Some.how (omega (arith, most_blocks_is)) c.loop-answered.invariant c.finished-in-Some.ensures.history
    c.in-Some.ensures)

pub returns-then-ends_shut : goal.returns-then-ends_shut
returns-then-ends_shut g c =
    let laws : Laws = record {
      short = c.blocks_are_short.ensures.whole;
      empty = c.nothing_is_partial.ensures;
      joins = c.spellings_join.ensures;
    } in
    rw c.finished-then-ends_shut.ensures.ending
    (served_shut laws _ _ _ _ _ _
    (post (g.D.Desk.sight c.turn-end.new.desk)
    (timing (g.C.Clock.course c.turn-end.new.clock) (g.C.Clock.moments c.turn-end.new.clock)) c.turn-end.new.readings)
    _ _ _ (omega (arith, most_blocks_is)) c.loop-answered.invariant c.in_default-end.ensures
    (c.ends_shut.ensures.0 c.if-ends_shut.true) c.finished-then-ends_shut.ensures.history)

pub returns : goal.returns
returns g c =
    let laws : Laws = record {
      short = c.blocks_are_short.ensures.whole;
      empty = c.nothing_is_partial.ensures;
      joins = c.spellings_join.ensures;
    } in
    rw c.finished-2.ensures.ending
    (served_after_look laws _ _ _ _ _
    (post (g.D.Desk.sight c.loop-answered.desk)
    (timing (g.C.Clock.course c.loop-answered.clock) (g.C.Clock.moments c.loop-answered.clock))
    c.loop-answered.readings)
    _ c.loop-answered.answered c.last_look-how.result
    (omega (arith, most_blocks_is)) c.loop-answered.invariant c.finished-2.ensures.history c.last_look-how.ensures)
