use Rattle.std.proofs.Common.{◌≡◌, false, true, [], ◌∷◌, ◌++◌, refl, sym, ap, ◌∙◌, arith}
use Rattle.orders_text.specs.Drafts.{comes_behind, last_of}
use Rattle.orders_text.specs.Orders.{Listed}
use Rattle.orders_text.specs.declared.order.Order.TheVariants as order
use Rattle.orders_text.proofs.Adding.{kill_accepted, kill_refused, no_forgets, no_launches, some_of, empty_of}
use Rattle.orders_text.proofs.draft.Draft.add_kill.Goals.{then-not-is_empty-via-then-not-is_empty, then-not-is_empty-via-else-not-is_empty+then-not-is_empty-2}
use Rattle.orders_text.proofs.draft.Draft.add_kill.Goals as goal

pub returns-then-not-is_empty : goal.returns-then-not-is_empty
returns-then-not-is_empty c = (
  refl,
  λ orders later are is.
      elim c.then-not-is_empty.branch [
        | then-not-is_empty-via-then-not-is_empty w ↦
            no_forgets c.args.self.now orders (order.Kill c.args.start) later (omega arith)
            (some_of _ _ _ (sym c.is_empty.ensures ∙ w.if-not-is_empty.true) c.self.inside.forgets.ok.0 (ap (λ (d : Listed). d.forgets) c.self.view_is)) is
        | then-not-is_empty-via-else-not-is_empty+then-not-is_empty-2 w ↦
            no_launches c.args.self.now orders (order.Kill c.args.start) later (omega arith)
            (some_of _ _ _ (sym w.is_empty-else-not-is_empty.ensures ∙ w.if-not-is_empty-2.true) c.self.inside.launches.ok.0
            (ap (λ (d : Listed). d.launches) c.self.view_is)) is
      ],
)

pub returns-then-not-comes_behind : goal.returns-then-not-comes_behind
returns-then-not-comes_behind c = (
  refl,
  λ orders later are is.
      let kills : c.as_slice.result.now ≡ c.args.self.now.kills =
      c.as_slice.ensures.value ∙ ap (λ (d : Listed). d.kills) c.self.view_is in
      let behind : comes_behind (last_of c.args.self.now.kills) c.args.start ≡ false =
      ap (λ l. comes_behind (last_of l) c.args.start) (sym kills) ∙ sym c.comes_behind.ensures ∙ c.if-not-comes_behind.true in
      kill_refused c.args.self.now orders c.args.start later are behind is,
)

pub returns : goal.returns
returns c =
    let kills : c.as_slice.result.now ≡ c.args.self.now.kills =
    c.as_slice.ensures.value ∙ ap (λ (d : Listed). d.kills) c.self.view_is in
    let behind : comes_behind (last_of c.args.self.now.kills) c.args.start ≡ true =
    ap (λ l. comes_behind (last_of l) c.args.start) (sym kills) ∙ sym c.comes_behind.ensures ∙ c.if-not-comes_behind.false in
    kill_accepted c.args.self.now _ c.args.start c.requires.orders c.requires.fits
    (empty_of _ _ _ (sym c.is_empty.ensures ∙ c.if-not-is_empty.false) c.self.inside.forgets.ok.0 (ap (λ (d : Listed). d.forgets) c.self.view_is))
    (empty_of _ _ _ (sym c.is_empty-else-not-is_empty.ensures ∙ c.if-not-is_empty-2.false) c.self.inside.launches.ok.0 (ap (λ (d : Listed). d.launches) c.self.view_is))
    behind
    (c.in_ok-push.ensures.items ∙ ap (λ (d : Listed). d.kills ++ c.args.start ∷ []) c.self.view_is)
    (ap (λ (d : Listed). d.forgets) c.self.view_is) (ap (λ (d : Listed). d.launches) c.self.view_is)
