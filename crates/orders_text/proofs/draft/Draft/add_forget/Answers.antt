use Rattle.std.proofs.Common.{◌≡◌, false, true, [], ◌∷◌, ◌++◌, refl, sym, ap, ◌∙◌, arith}
use Rattle.orders_text.specs.Drafts.{comes_behind, last_of}
use Rattle.orders_text.specs.Orders.{Listed}
use Rattle.orders_text.specs.declared.order.Order.TheVariants as order
use Rattle.orders_text.proofs.Adding.{forget_accepted, forget_refused, no_launches, empty_of, some_of}
use Rattle.orders_text.proofs.draft.Draft.add_forget.Goals as goal

pub returns-then-not-is_empty : goal.returns-then-not-is_empty
returns-then-not-is_empty c = (
  refl,
  λ orders later are is.
      no_launches c.args.self.now orders (order.Forget c.args.start) later (omega arith)
      (some_of _ _ _ (sym c.is_empty.ensures ∙ c.if-not-is_empty.true) c.self.inside.launches.ok.0 (ap (λ (d : Listed). d.launches) c.self.view_is)) is,
)

pub returns-then-not-comes_behind : goal.returns-then-not-comes_behind
returns-then-not-comes_behind c = (
  refl,
  λ orders later are is.
      let forgets : c.as_slice.result.now ≡ c.args.self.now.forgets =
      c.as_slice.ensures.value ∙ ap (λ (d : Listed). d.forgets) c.self.view_is in
      let behind : comes_behind (last_of c.args.self.now.forgets) c.args.start ≡ false =
      ap (λ l. comes_behind (last_of l) c.args.start) (sym forgets) ∙ sym c.comes_behind.ensures ∙ c.if-not-comes_behind.true in
      forget_refused c.args.self.now orders c.args.start later are behind is,
)

pub returns : goal.returns
returns c =
    let forgets : c.as_slice.result.now ≡ c.args.self.now.forgets =
    c.as_slice.ensures.value ∙ ap (λ (d : Listed). d.forgets) c.self.view_is in
    let behind : comes_behind (last_of c.args.self.now.forgets) c.args.start ≡ true =
    ap (λ l. comes_behind (last_of l) c.args.start) (sym forgets) ∙ sym c.comes_behind.ensures ∙ c.if-not-comes_behind.false in
    forget_accepted c.args.self.now _ c.args.start c.requires.orders c.requires.fits
    (empty_of _ _ _ (sym c.is_empty.ensures ∙ c.if-not-is_empty.false) c.self.inside.launches.ok.0 (ap (λ (d : Listed). d.launches) c.self.view_is))
    behind (ap (λ (d : Listed). d.kills) c.self.view_is)
    (c.in_ok-push.ensures.items ∙ ap (λ (d : Listed). d.forgets ++ c.args.start ∷ []) c.self.view_is)
    (ap (λ (d : Listed). d.launches) c.self.view_is)
