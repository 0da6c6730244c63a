use Rattle.std.proofs.Common.{rules, ◌≡◌, Option, Some, refl, sym, ap, ◌∙◌, subst}
use Rattle.ctl_server.specs.Locked.{BookView, LockedSeat}
use Rattle.ctl_server.proofs.Locking.{adds_none, turn_looked, keeps_desk, seat_goes_on, seat_mine}
use Rattle.ctl_server.proofs.desk.LockedDeskDesk.refresh.Goals as goal

pub leave-pass-requires-clause-entries : goal.leave-pass-requires-clause-entries
leave-pass-requires-clause-entries g c = adds_none c.enter-held.result.turn c.enter-held.result.value c.enter-held.ensures.entries

pub invariant_of-self : goal.invariant_of-self
invariant_of-self g c =
    let is : c.self.inside.pass ≡ Some c.in-Some.pass = search rules in
    let t = turn_looked _ _ _ _ _ c.self.inside.pass c.in-Some.pass c.enter-held.result.turn c.leave-pass.result c.enter-held.result.value c.self.invariant is c.enter-held.ensures c.number.ensures.known c.leave-pass.ensures in
    keeps_desk t _ _ c.number-2.ensures.known c.len-self-inside.ensures.history c.len-self-inside.ensures.len (search rules)

pub returns-clause-goes_on : goal.returns-clause-goes_on
returns-clause-goes_on g c =
    let is : c.self.inside.pass ≡ Some c.in-Some.pass = search rules in
    let t = turn_looked _ _ _ _ _ c.self.inside.pass c.in-Some.pass c.enter-held.result.turn c.leave-pass.result c.enter-held.result.value c.self.invariant is c.enter-held.ensures c.number.ensures.known c.leave-pass.ensures in
    seat_goes_on t c.args.self.now
    (ap (λ (o : Option BookView). record { opening = c.self.inside.first.value.opening; before = c.self.inside.before; pass = o }) (sym is) ∙ c.self.view_is)
