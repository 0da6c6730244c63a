use Rattle.std.proofs.Common.{◌≡◌, ◌∙◌, length, map, sym, ap}
use Rattle.std.proofs.lemmas.List.{length-map, with_items_is}
use Rattle.ctl_reconfigure.specs.Moving.{placed_moved}
use Rattle.ctl_reconfigure.proofs.Putting.{plan-kept, plan-moved}
use Rattle.ctl_reconfigure.proofs.moves.move_plan.Goals as goal

pub returns-in-Some : goal.returns-in-Some
returns-in-Some c = λ before now same are.
    let plan = c.args.plan.now in
    let f = placed_moved c.deref.result.now in
    let long : length c.move_each.new.plan ≡ plan.len =
    ap length c.move_each.ensures ∙ length-map c.as_mut_slice.result.now f ∙ c.as_mut_slice.ensures.len in
    with_items_is plan c.move_each.new.plan long ∙ c.move_each.ensures ∙ ap (map f) c.as_mut_slice.ensures.value
    ∙ plan-moved before now plan.items c.deref.result.now (sym (rw c.in-Some.is at same))
    (c.deref.ensures.value ∙ rw c.in-Some.is at are)

pub returns-in_default : goal.returns-in_default
returns-in_default c = λ before now same are.
    plan-kept before now c.args.plan.now.items (sym (rw c.in_default.is at same))
