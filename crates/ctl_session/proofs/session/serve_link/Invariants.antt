use Rattle.ctl_session.specs.Clock.{timing}
use Rattle.ctl_session.specs.Turn.{post}
use Rattle.ctl_session.proofs.Serving.{IsUnderWay}
use Rattle.ctl_session.proofs.session.serve_link.Given as goal

abbrev pub invariant-loop-answered : goal.invariant-loop-answered
invariant-loop-answered g l =
    IsUnderWay l.fn.form (g.L.Link.wire l.initial.link) (g.L.Link.wire l.link)
    (post (g.D.Desk.sight l.initial.desk) (timing (g.C.Clock.course l.initial.clock) (g.C.Clock.moments l.initial.clock))
    0)
    (post (g.D.Desk.sight l.desk) (timing (g.C.Clock.course l.clock) (g.C.Clock.moments l.clock)) l.readings)
    l.blocks l.answered
