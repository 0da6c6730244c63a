use Rattle.std.proofs.Common.{◌∙◌, ◌≡◌, length, map, ap}
use Rattle.std.proofs.lemmas.List.{length-map, with_items_is}
use Rattle.job_table.specs.Moving.{part_moved}
use Rattle.job_table.proofs.moving.move_items.Goals as goal

pub returns : goal.returns
returns c =
    let f = part_moved c.args.places.now in
    let all = c.into_vec-all.result in
    let same : all.items ≡ c.args.parts.now = cc in
    let long : length c.move_each.new.parts ≡ all.len =
    ap length c.move_each.ensures ∙ length-map c.as_mut_slice.result.now f ∙ c.as_mut_slice.ensures.len in
    c.from_vec-2.ensures ∙ with_items_is all c.move_each.new.parts long ∙ c.move_each.ensures
    ∙ ap (map f) (c.as_mut_slice.ensures.value ∙ same)
