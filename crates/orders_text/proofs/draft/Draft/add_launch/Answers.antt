use Rattle.std.proofs.Common.{◌≡◌, false, true, [], ◌∷◌, ◌++◌, refl, sym, ap, ◌∙◌}
use Rattle.std.specs.Prelude.{option_map}
use Rattle.reply_data.specs.declared.orders.Launch.{Launch}
use Rattle.orders_text.specs.Drafts.{comes_behind, last_of}
use Rattle.orders_text.specs.Orders.{Listed}
use Rattle.orders_text.proofs.Adding.{launch_accepted, launch_refused}
use Rattle.orders_text.proofs.draft.Draft.add_launch.Goals as goal

pub returns-then-not-launches_behind : goal.returns-then-not-launches_behind
returns-then-not-launches_behind c = (
  refl,
  λ orders later are is.
      let launches : c.as_slice.result.now ≡ c.args.self.now.launches =
      c.as_slice.ensures.value ∙ ap (λ (d : Listed). d.launches) c.self.view_is in
      let behind : comes_behind (option_map (λ (one : Launch). one.start) (last_of c.args.self.now.launches)) c.args.launch.start ≡ false =
      ap (λ l. comes_behind (option_map (λ (one : Launch). one.start) (last_of l)) c.args.launch.start) (sym launches)
      ∙ sym c.launches_behind.ensures ∙ c.if-not-launches_behind.true in
      launch_refused c.args.self.now orders c.args.launch later are behind is,
)

pub returns : goal.returns
returns c =
    let launches : c.as_slice.result.now ≡ c.args.self.now.launches =
    c.as_slice.ensures.value ∙ ap (λ (d : Listed). d.launches) c.self.view_is in
    let behind : comes_behind (option_map (λ (one : Launch). one.start) (last_of c.args.self.now.launches)) c.args.launch.start ≡ true =
    ap (λ l. comes_behind (option_map (λ (one : Launch). one.start) (last_of l)) c.args.launch.start) (sym launches)
    ∙ sym c.launches_behind.ensures ∙ c.if-not-launches_behind.false in
    launch_accepted c.args.self.now _ c.args.launch c.requires.orders c.requires.fits behind
    (ap (λ (d : Listed). d.kills) c.self.view_is) (ap (λ (d : Listed). d.forgets) c.self.view_is)
    (c.in_ok-push.ensures.items ∙ ap (λ (d : Listed). d.launches ++ c.args.launch ∷ []) c.self.view_is)
