use Rattle.std.proofs.Common.{◌∙◌, List, map, sym, ap, subst, arith}
use Rattle.ctl_state.specs.State.{State}
use Rattle.ctl_desk.specs.declared.entry.Entry.{Entry}
use Rattle.ctl_desk.specs.History.{after_all}
use Rattle.sacct_book.specs.Keeping.{KeepsUse}
use Rattle.sacct_book.specs.Running.{AreCounted}
use Rattle.sacct_book.specs.Times.{times_of}
use Rattle.sacct_book.proofs.sums.Sums.new.Goals as goal

pub invariant_of-result : goal.invariant_of-result
invariant_of-result c =
    let opening = c.args.opening.state in
    let held = c.in-Ok.held in
    let timelines = c.in-Ok.timelines in
    let none = sym c.new.ensures.items in (
      c.requires.same ∙ ap (after_all opening) none,
      subst (λ (l : List Entry). KeepsUse (record { opening = opening; entries = l }) (map times_of timelines.items)) none
          c.in-Ok.ensures.keeps,
      omega (arith, c.in-Ok.ensures.len, held.ok.0, timelines.ok.0),
      subst (λ (s : State). AreCounted s.jobs held.items) (sym c.requires.same) c.in-Ok.ensures.counts,
    )
