use Rattle.std.proofs.Common.{refl}
use Rattle.ctl_desk.specs.History.{entry_of, after_all, history_in}
use Rattle.ctl_desk.proofs.Owning.{own_goes_on, own_answered, stays_past}
use Rattle.ctl_desk.proofs.own_desk.OwnDeskDesk.ask.Goals as goal

pub returns-clause-goes_on : goal.returns-clause-goes_on
returns-clause-goes_on c =
    let h = history_in c.self.inside.book in
    let entry = entry_of (after_all h.opening h.entries) 0 c.args.now c.args.user.now c.args.request in
    rw (← c.self.view_is)
    (own_goes_on _ c.self.inside.before entry h (history_in c.ask.new.self) c.self.invariant refl c.ask.ensures.opening
    c.ask.ensures.entries
    (stays_past c.ask.result c.self.inside.book c.ask.new.self c.ask.ensures.err))

pub returns-clause-answered : goal.returns-clause-answered
returns-clause-answered c =
    let called = c.ask.ensures in
    rw (← c.self.view_is)
    (own_answered _ c.args.now c.args.user.now c.args.request c.self.inside.before (history_in c.self.inside.book)
    (history_in c.ask.new.self)
    c.self.invariant called.opening called.reply called.place called.entries)
