use Rattle.std.proofs.Common.{subst}
use Rattle.std.specs.Io.KnownBytes.{Appends}
use Rattle.slurm_io.specs.Bytes.{AppendsFront}
use Rattle.ctl_session.specs.Clock.{timing}
use Rattle.ctl_session.specs.Turn.{post}
use Rattle.ctl_session.proofs.Answering.{answered_part, answered_whole, unspelled, untold}
use Rattle.ctl_session.proofs.answer.answer_block.Goals as goal

pub returns-in_default-tell : goal.returns-in_default-tell
returns-in_default-tell g c =
    untold c.args.form c.args.block.now (g.L.Link.wire c.args.link.now)
    (post (g.D.Desk.sight c.args.desk.now)
    (timing (g.C.Clock.course c.args.clock.now) (g.C.Clock.moments c.args.clock.now)) c.args.readings.now)
    (post (g.D.Desk.sight c.tell.new.desk)
    (timing (g.C.Clock.course c.read_block.new.clock) (g.C.Clock.moments c.read_block.new.clock))
    c.read_block.new.readings)
    c.in-Ok.meaning c.in-Ok.ensures.ok c.in_default-tell.ensures.err

pub returns-in_default-spell : goal.returns-in_default-spell
returns-in_default-spell g c =
    unspelled c.args.form c.args.block.now (g.L.Link.wire c.args.link.now)
    (post (g.D.Desk.sight c.args.desk.now)
    (timing (g.C.Clock.course c.args.clock.now) (g.C.Clock.moments c.args.clock.now)) c.args.readings.now)
    (post (g.D.Desk.sight c.tell.new.desk)
    (timing (g.C.Clock.course c.read_block.new.clock) (g.C.Clock.moments c.read_block.new.clock))
    c.read_block.new.readings)
    c.in-Ok.meaning c.in-Ok-tell.told c.in-Ok.ensures.ok c.in-Ok-tell.ensures.ok

pub returns-in-Ok-write_text : goal.returns-in-Ok-write_text
returns-in-Ok-write_text g c =
    answered_whole c.args.form c.args.block.now (g.L.Link.wire c.args.link.now) (g.L.Link.wire c.write_text.new.link)
    (post (g.D.Desk.sight c.args.desk.now)
    (timing (g.C.Clock.course c.args.clock.now) (g.C.Clock.moments c.args.clock.now)) c.args.readings.now)
    (post (g.D.Desk.sight c.tell.new.desk)
    (timing (g.C.Clock.course c.read_block.new.clock) (g.C.Clock.moments c.read_block.new.clock))
    c.read_block.new.readings)
    c.in-Ok.meaning c.in-Ok-tell.told c.in-Ok-spell.bytes.items c.in-Ok.ensures.ok c.in-Ok-tell.ensures.ok
    c.in-Ok-spell.ensures c.write_text.ensures.reads c.in-Ok-write_text.ensures.faults
    (subst (Appends _ _) c.as_slice.ensures.value c.in-Ok-write_text.ensures.written)

pub returns : goal.returns
returns g c =
    answered_part c.args.form c.args.block.now (g.L.Link.wire c.args.link.now) (g.L.Link.wire c.write_text.new.link)
    (post (g.D.Desk.sight c.args.desk.now)
    (timing (g.C.Clock.course c.args.clock.now) (g.C.Clock.moments c.args.clock.now)) c.args.readings.now)
    (post (g.D.Desk.sight c.tell.new.desk)
    (timing (g.C.Clock.course c.read_block.new.clock) (g.C.Clock.moments c.read_block.new.clock))
    c.read_block.new.readings)
    c.in-Ok.meaning c.in-Ok-tell.told c.in-Ok-spell.bytes.items c.in-Ok.ensures.ok c.in-Ok-tell.ensures.ok
    c.in-Ok-spell.ensures c.write_text.ensures.reads c.in-Err.ensures.faults
    (subst (AppendsFront _ _) c.as_slice.ensures.value c.in-Err.ensures.cut)
