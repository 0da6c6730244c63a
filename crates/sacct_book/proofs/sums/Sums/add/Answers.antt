use Rattle.std.proofs.Common.{◌≡◌, ◌++◌, ◌∷◌, [], ◌∙◌, List, map, sym, ap, subst, arith}
use Rattle.ctl_state.specs.State.{State}
use Rattle.ctl_core.specs.Step.{state_after}
use Rattle.ctl_desk.specs.declared.entry.Entry.{Entry}
use Rattle.ctl_desk.specs.History.{History, IsLegal, after_all}
use Rattle.sacct_book.specs.Keeping.{KeepsUse}
use Rattle.sacct_book.specs.Times.{times_of}
use Rattle.sacct_book.proofs.Keeps.{keeps-add, last-step}
use Rattle.sacct_book.proofs.sums.Sums.add.Goals as goal

pub prepare-requires-clause-later : goal.prepare-requires-clause-later
prepare-requires-clause-later c =
    let opening = c.self.inside.opening.state in
    let entries = c.self.inside.entries.items in
    let legal : IsLegal opening (entries ++ c.args.entry ∷ []) =
    subst (λ (h : History). IsLegal h.opening (h.entries ++ c.args.entry ∷ [])) (sym c.self.view_is) c.requires.legal in
    omega (
      arith,
      ap (λ (s : State). s.moment) c.self.invariant.0,
      (last-step opening entries c.args.entry legal).moment,
    )

pub invariant_of-self : goal.invariant_of-self
invariant_of-self c =
    let opening = c.self.inside.opening.state in
    let entries = c.self.inside.entries.items in
    let e = c.args.entry in
    let t = c.prepare.new.ctl.state in
    let told = map times_of c.prepare.new.timelines.items in
    let legal : IsLegal opening (entries ++ e ∷ []) =
    subst (λ (h : History). IsLegal h.opening (h.entries ++ e ∷ [])) (sym c.self.view_is) c.requires.legal in
    let made : t ≡ state_after (after_all opening entries) e.moment e.user e.request =
    c.in-Ok.ensures.after
    ∙ ap (λ (s : State). state_after s e.moment e.user e.request) c.self.invariant.0 in
    let kept = keeps-add (record { opening = opening; entries = entries }) e t
    (map times_of c.self.inside.timelines.items) told c.self.invariant.1 legal made c.in-Ok.ensures.sound
    c.in-Ok.ensures.goes in
    let pushed : c.push.new.entries.items ≡ entries ++ e ∷ [] =
    c.push.ensures ∙ ap (λ (l : List Entry). l ++ e ∷ []) c.prepare.ensures.items in (
      kept.0 ∙ ap (after_all opening) (sym pushed),
      subst (λ (l : List Entry). KeepsUse (record { opening = opening; entries = l }) told) (sym pushed) kept.1,
      omega (arith, c.prepare.ensures.len, c.prepare.new.held.ok.0, c.prepare.new.timelines.ok.0),
      c.prepare.ensures.counts,
    )
