use Rattle.std.proofs.Common.{◌≡◌, ◌∷◌, [], ◌++◌, ◌<◌, arith, inl, inr}
use Rattle.std.proofs.lemmas.Bool.{cases_eq}
use Rattle.std.proofs.lemmas.Grind.{common_steps}
use Rattle.std.proofs.lemmas.List.{get_or_push, get_or_append_left}
use Rattle.resource_profile.proofs.Keeping.{nothing-held}
use Rattle.resource_profile.proofs.profile.fresh.Goals as goal

pub loop-room-preserved : goal.loop-room-preserved
loop-room-preserved c =
    let held = c.loop-room.invariant in
    let index = c.loop-room.room-index in
    let before = c.loop-room.timelines.items in
    let made = c.in_ok-timeline in
    let pushed : c.push.new.self.items ≡ before ++ made.timeline ∷ [] = rw c.unwrap.ensures at c.push.ensures.items in
    let here = nothing-held c.args.rooms.now index made.timeline made.ensures.levels made.ensures.holds made.ensures.room made.ensures.full in
    record {
      long = grind (arith, common_steps);
      each = λ node d below. elim (cases_eq node index) [
        | inl at ↦
            let e : node ≡ index = at in
            rw (e, pushed, get_or_push before made.timeline d index held.long) here
        | inr apart ↦
            let low : node < index = omega arith in
            rw (pushed, get_or_append_left before (made.timeline ∷ []) d node (omega (arith, low, held.long))) (held.each node d low)
      ];
      count = grind (arith, common_steps);
      capacity = grind (arith, common_steps);
    }
