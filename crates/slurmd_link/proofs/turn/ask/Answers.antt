use Rattle.std.proofs.Common.{inr, refl, subst, sym}
use Rattle.slurmd_link.specs.Turns.{AsksOrCut, scene}
use Rattle.slurmd_link.specs.declared.turn.Cut.TheVariants as cut
use Rattle.slurmd_link.proofs.Asking.{unasked}
use Rattle.slurmd_link.proofs.Hearing.{handed_on}
use Rattle.slurmd_link.proofs.turn.ask.Goals as goal

pub returns-in_err-frame : goal.returns-in_err-frame
returns-in_err-frame g c =
    let old = scene (g.L.Link.wire c.args.link.now) (g.C.Clock.moments c.args.clock.now) c.args.daemon.now in
    let new = scene (g.L.Link.wire c.args.link.now) (g.C.Clock.moments c.now-now.new.self) c.poll.new.self in
    let left = unasked c.args.user.now old new c.now-now.result c.now-now.ensures.moments (inr c.in_ok-report.ensures.after) refl in
    subst (AsksOrCut c.args.user.now old new) (sym (handed_on _ cut.Memory c.from_residual-in_err-frame.ensures.1)) left
