use Rattle.ctl_desk.proofs.Entering.{IsHistory-decided}
use Rattle.ctl_desk.proofs.book.Book.ask.Goals as goal

pub invariant_of-self : goal.invariant_of-self
invariant_of-self c =
    let decided = c.in-Ok.ensures in
    IsHistory-decided c.passes_are_free.ensures
    (record { opening = c.self.inside.opening.state; entries = c.self.inside.entries.items })
    c.args.session c.args.now c.args.user.now c.args.request c.in-Ok.decided c.self.inside.ctl.state
    c.decide.new.ctl.state c.enter.new.entries.items
    (record {
      reply = c.raised_moments_decide_alike.ensures.reply;
      state =
          c.raised_moments_decide_alike.ensures.state;
    })
    c.self.invariant.0
    c.self.invariant.1
    (record { reply = decided.reply; moment = decided.moment; after = decided.after; sound = decided.sound })
    (rw (decided.name, decided.items) at c.enter.ensures.entries)
