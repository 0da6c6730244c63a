use Rattle.std.proofs.Common.{◌≡◌, ◌+◌, ◌*◌, ◌≤◌, ◌<◌, length, vec_len, vec_capacity, slice_set, arith, ◌∙◌}
use Rattle.std.proofs.lemmas.List.{get_or-set_same}
use Rattle.resource_profile.specs.Timelines.{IsTimeline, StaysAsItWas}
use Rattle.resource_profile.proofs.Keeping.{read-timeline, can-take, ends-few, here-add, kept-add, kept-reserve, stays, IsAdded}
use Rattle.resource_profile.proofs.profile.Profile.hold.Goals as goal

pub invariant_of-self-in_err-reserve-3 : goal.invariant_of-self-in_err-reserve-3
invariant_of-self-in_err-reserve-3 c =
    let rooms = c.self.inside.rooms.items in
    let holds = c.self.inside.holds.items in
    let spare = c.self.inside.room_for in
    let hold = c.args.hold.now in
    let inside : hold.node < length rooms = rw (← c.self.view_is) at c.requires.node in
    let same : StaysAsItWas c.index_mut.result.now c.reserve-3.new.self = record { levels = c.reserve-3.ensures.levels; holds = c.reserve-3.ensures.holds; full = c.reserve-3.ensures.full; len = c.reserve-3.ensures.len; capacity = c.reserve-3.ensures.capacity } in (
      rw c.reserve.ensures.items (rw c.reserve-2.ensures.items (kept-reserve rooms holds c.self.inside.ends.items c.self.inside.timelines.items spare hold.node c.index_mut.result.now c.reserve-3.new.self c.self.invariant.0 inside c.index_mut.ensures.value same)),
      omega (arith, c.reserve.ensures.len, c.reserve.ensures.capacity, c.self.invariant.1),
      omega (arith, c.reserve-2.ensures.len, c.reserve-2.ensures.capacity, c.self.invariant.2),
    )

pub add_end-requires-clause-count : goal.add_end-requires-clause-count
add_end-requires-clause-count c =
    let few = ends-few c.self.inside.rooms.items c.self.inside.holds.items c.self.inside.ends.items c.self.inside.timelines.items c.self.inside.room_for c.args.hold.now.until c.self.invariant.0 in
    rw c.reserve-2.ensures.items (omega (arith, few, c.self.inside.holds.ok.0, c.self.inside.holds.ok.1, c.self.inside.holds.small))

pub add-requires-clause-free : goal.add-requires-clause-free
add-requires-clause-free c =
    let rooms = c.self.inside.rooms.items in
    let holds = c.self.inside.holds.items in
    let timelines = c.self.inside.timelines.items in
    let hold = c.args.hold.now in
    let free = rw (← c.self.view_is) at c.requires in
    let same : StaysAsItWas c.index_mut.result.now c.reserve-3.new.self = record { levels = c.reserve-3.ensures.levels; holds = c.reserve-3.ensures.holds; full = c.reserve-3.ensures.full; len = c.reserve-3.ensures.len; capacity = c.reserve-3.ensures.capacity } in
    let kept = kept-reserve rooms holds c.self.inside.ends.items timelines c.self.inside.room_for hold.node c.index_mut.result.now c.reserve-3.new.self c.self.invariant.0 free.node c.index_mut.ensures.value same in
    let is = read-timeline rooms holds c.self.inside.ends.items (slice_set timelines hold.node c.reserve-3.new.self) c.self.inside.room_for hold.node c.index_mut-2.result.now kept free.node c.index_mut-2.ensures.value in
    can-take rooms holds hold c.self.inside.room_for c.index_mut-2.result.now is free

pub invariant_of-self-2 : goal.invariant_of-self-2
invariant_of-self-2 c =
    let rooms = c.self.inside.rooms.items in
    let holds = c.self.inside.holds.items in
    let spare = c.self.inside.room_for in
    let timelines = c.self.inside.timelines.items in
    let hold = c.args.hold.now in
    let free = rw (← c.self.view_is) at c.requires in
    let pushed = rw c.unwrap.ensures at c.push.ensures.items in
    let longer = rw c.unwrap.ensures at c.push.ensures.len in
    let read = c.index_mut.result.now in
    let reserved = c.reserve-3.new.self in
    let same : StaysAsItWas read reserved = record { levels = c.reserve-3.ensures.levels; holds = c.reserve-3.ensures.holds; full = c.reserve-3.ensures.full; len = c.reserve-3.ensures.len; capacity = c.reserve-3.ensures.capacity } in
    let kept = kept-reserve rooms holds c.self.inside.ends.items timelines spare hold.node read reserved c.self.invariant.0 free.node c.index_mut.ensures.value same in
    let was = read-timeline rooms holds c.self.inside.ends.items timelines spare hold.node read c.self.invariant.0 free.node c.index_mut.ensures.value in
    let room : vec_len reserved.levels + (2 * reserved.holds + 4 * (spare + 1)) ≤ vec_capacity reserved.levels = rw (same.holds, ← c.from-more.ensures) c.in_ok-reserve-3.ensures.room in
    let wide : IsTimeline rooms holds hold.node (spare + 1) reserved = stays rooms holds hold.node spare (spare + 1) read reserved same room was in
    let inside : hold.node < length timelines = omega (arith, free.node, c.self.invariant.0.long) in
    let there : c.index_mut-2.result.now ≡ reserved = c.index_mut-2.ensures.value ∙ get_or-set_same timelines hold.node reserved c.index_mut-2.result.now inside in
    let added : IsAdded hold c.index_mut-2.result.now c.add.new.self = record { kept = c.add.ensures.kept; full = c.add.ensures.full; holds = c.add.ensures.holds; len = c.add.ensures.len; capacity = c.add.ensures.capacity } in
    let here = here-add rooms holds hold spare reserved c.add.new.self wide (rw there at added) in (
      rw pushed (rw c.reserve.ensures.items (kept-add rooms holds c.self.inside.ends.items c.add_end.new.ends.items (slice_set timelines hold.node reserved) spare spare hold c.add.new.self kept free (omega arith) (rw c.reserve-2.ensures.items at c.add_end.ensures.counted) c.add_end.ensures.ends here)),
      omega (arith, longer, c.push.ensures.capacity, c.in_ok-reserve.ensures.ok, c.from-more.ensures, c.self.invariant.1),
      omega (arith, c.add_end.ensures.len, c.add_end.ensures.capacity, c.in_ok-reserve-2.ensures.ok, c.from-more.ensures, c.self.invariant.2),
    )
