use Rattle.std.proofs.Common.{◌∙◌, ◌≡◌, length, map, ap}
use Rattle.std.proofs.lemmas.List.{length-map, with_items_is}
use Rattle.ctl_reconfigure.specs.Moving.{share_moved}
use Rattle.ctl_reconfigure.proofs.moves.move_items.Goals as goal

pub returns : goal.returns
returns c =
    let f = share_moved c.args.places.now in
    let all = c.into_vec-all.result in
    let same : all.items ≡ c.args.shares.now = cc in
    let long : length c.move_shares.new.shares ≡ all.len =
    ap length c.move_shares.ensures ∙ length-map c.as_mut_slice.result.now f ∙ c.as_mut_slice.ensures.len in
    c.from_vec-2.ensures ∙ with_items_is all c.move_shares.new.shares long ∙ c.move_shares.ensures
    ∙ ap (map f) (c.as_mut_slice.ensures.value ∙ same)
