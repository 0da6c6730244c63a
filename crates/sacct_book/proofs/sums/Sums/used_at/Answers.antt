use Rattle.std.proofs.Common.{◌≤◌, ◌<◌, ◌∙◌, length, sym, ap, subst, arith}
use Rattle.std.proofs.lemmas.List.{length-map}
use Rattle.ctl_desk.specs.History.{History, present}
use Rattle.sacct_book.specs.declared.window.Window.{Window}
use Rattle.sacct_book.specs.Times.{times_of}
use Rattle.sacct_book.specs.Used.{used_at}
use Rattle.sacct_book.proofs.Keeps.{word-wide}
use Rattle.sacct_book.proofs.sums.Sums.used_at.Goals as goal

pub returns : goal.returns
returns c =
    let h : History = record { opening = c.self.inside.opening.state; entries = c.self.inside.entries.items } in
    let timelines = c.self.inside.timelines.items in
    let window : Window = record { from = c.args.from; until = c.args.until } in
    let kept = c.self.invariant.1 in
    let there : c.args.place < length h.opening.assocs =
    subst (λ (h : History). c.args.place < length h.opening.assocs) (sym c.self.view_is) c.requires.there in
    let after : (present h).moment ≤ c.args.now =
    subst (λ (h : History). (present h).moment ≤ c.args.now) (sym c.self.view_is) c.requires.after in
    word-wide h timelines c.index.result.now c.args.place c.used_in.result c.args.now window kept
    (omega (arith, there, kept.each, length-map timelines times_of)) after c.requires.last c.index.ensures
    c.used_in.ensures
    ∙ ap (λ (h : History). used_at h c.args.place window c.args.now) c.self.view_is
