use Rattle.std.proofs.Common.{◌≡◌, Contains, false, arith, refl, sym, ◌∙◌}
use Rattle.std.proofs.lemmas.List.{get_or_default}
use Rattle.resource_profile.specs.declared.NodeRoom.{NodeRoom}
use Rattle.resource_profile.specs.Free.{room_at}
use Rattle.resource_profile.proofs.Keeping.{read-timeline, dropped-moved, is-there, can-drop, can-give, here-drop, kept-drop}
use Rattle.resource_profile.proofs.profile.Profile.drop_hold.Goals as goal

pub drop_end-requires-clause-has : goal.drop_end-requires-clause-has
drop_end-requires-clause-has c =
    let has : Contains c.self.inside.holds.items c.args.hold.now = rw (← c.self.view_is) at c.requires in
    (is-there c.self.inside.rooms.items c.self.inside.holds.items c.self.inside.ends.items c.self.inside.timelines.items c.self.inside.room_for c.args.hold.now c.self.invariant.0 has).end

pub drop_hold-requires-clause-room : goal.drop_hold-requires-clause-room
drop_hold-requires-clause-room c =
    let has : Contains c.self.inside.holds.items c.args.hold.now = rw (← c.self.view_is) at c.requires in
    let there = is-there c.self.inside.rooms.items c.self.inside.holds.items c.self.inside.ends.items c.self.inside.timelines.items c.self.inside.room_for c.args.hold.now c.self.invariant.0 has in
    let is = read-timeline c.self.inside.rooms.items c.self.inside.holds.items c.self.inside.ends.items c.self.inside.timelines.items c.self.inside.room_for c.args.hold.now.node c.index_mut.result.now c.self.invariant.0 there.node c.index_mut.ensures.value in
    let place = rw c.deref.ensures.value at c.place_of-place.ensures.is in
    let inside = rw c.deref.ensures.value at c.place_of-place.ensures.inside in
    let moved = dropped-moved c.self.inside.holds.items c.swap_remove.new.self.items c.place_of-place.result c.swap_remove.result c.args.hold.now inside place c.swap_remove.ensures.value c.swap_remove.ensures.items in
    (can-drop c.self.inside.rooms.items c.self.inside.holds.items c.swap_remove.new.self.items c.args.hold.now c.self.inside.room_for c.index_mut.result.now moved is).room

pub drop_hold-requires-clause-count : goal.drop_hold-requires-clause-count
drop_hold-requires-clause-count c =
    let has : Contains c.self.inside.holds.items c.args.hold.now = rw (← c.self.view_is) at c.requires in
    let there = is-there c.self.inside.rooms.items c.self.inside.holds.items c.self.inside.ends.items c.self.inside.timelines.items c.self.inside.room_for c.args.hold.now c.self.invariant.0 has in
    let is = read-timeline c.self.inside.rooms.items c.self.inside.holds.items c.self.inside.ends.items c.self.inside.timelines.items c.self.inside.room_for c.args.hold.now.node c.index_mut.result.now c.self.invariant.0 there.node c.index_mut.ensures.value in
    let place = rw c.deref.ensures.value at c.place_of-place.ensures.is in
    let inside = rw c.deref.ensures.value at c.place_of-place.ensures.inside in
    let moved = dropped-moved c.self.inside.holds.items c.swap_remove.new.self.items c.place_of-place.result c.swap_remove.result c.args.hold.now inside place c.swap_remove.ensures.value c.swap_remove.ensures.items in
    (can-drop c.self.inside.rooms.items c.self.inside.holds.items c.swap_remove.new.self.items c.args.hold.now c.self.inside.room_for c.index_mut.result.now moved is).count

pub drop_hold-requires-clause-small : goal.drop_hold-requires-clause-small
drop_hold-requires-clause-small c =
    let has : Contains c.self.inside.holds.items c.args.hold.now = rw (← c.self.view_is) at c.requires in
    let there = is-there c.self.inside.rooms.items c.self.inside.holds.items c.self.inside.ends.items c.self.inside.timelines.items c.self.inside.room_for c.args.hold.now c.self.invariant.0 has in
    let is = read-timeline c.self.inside.rooms.items c.self.inside.holds.items c.self.inside.ends.items c.self.inside.timelines.items c.self.inside.room_for c.args.hold.now.node c.index_mut.result.now c.self.invariant.0 there.node c.index_mut.ensures.value in
    let place = rw c.deref.ensures.value at c.place_of-place.ensures.is in
    let inside = rw c.deref.ensures.value at c.place_of-place.ensures.inside in
    let moved = dropped-moved c.self.inside.holds.items c.swap_remove.new.self.items c.place_of-place.result c.swap_remove.result c.args.hold.now inside place c.swap_remove.ensures.value c.swap_remove.ensures.items in
    let none : NodeRoom = record { cpus = 0; mem = 0; usable = false } in
    let room_is : room_at c.self.inside.rooms.items c.args.hold.now.node ≡ c.index-room.result.now = get_or_default c.self.inside.rooms.items c.args.hold.now.node none c.index-room.result.now there.node ∙ sym c.index-room.ensures in
    rw room_is at (can-give c.self.inside.rooms.items c.self.inside.holds.items c.swap_remove.new.self.items c.args.hold.now c.self.inside.room_for c.index_mut.result.now _ c.self.invariant.0.within moved refl is)

pub invariant_of-self : goal.invariant_of-self
invariant_of-self c =
    let has : Contains c.self.inside.holds.items c.args.hold.now = rw (← c.self.view_is) at c.requires in
    let there = is-there c.self.inside.rooms.items c.self.inside.holds.items c.self.inside.ends.items c.self.inside.timelines.items c.self.inside.room_for c.args.hold.now c.self.invariant.0 has in
    let is = read-timeline c.self.inside.rooms.items c.self.inside.holds.items c.self.inside.ends.items c.self.inside.timelines.items c.self.inside.room_for c.args.hold.now.node c.index_mut.result.now c.self.invariant.0 there.node c.index_mut.ensures.value in
    let place = rw c.deref.ensures.value at c.place_of-place.ensures.is in
    let inside = rw c.deref.ensures.value at c.place_of-place.ensures.inside in
    let moved = dropped-moved c.self.inside.holds.items c.swap_remove.new.self.items c.place_of-place.result c.swap_remove.result c.args.hold.now inside place c.swap_remove.ensures.value c.swap_remove.ensures.items in
    let here = here-drop c.self.inside.rooms.items c.self.inside.holds.items c.swap_remove.new.self.items c.args.hold.now c.self.inside.room_for c.index_mut.result.now c.drop_hold.new.self c.self.invariant.0.within moved is
    (record { kept = c.drop_hold.ensures.kept; full = c.drop_hold.ensures.full; holds = c.drop_hold.ensures.holds; len = c.drop_hold.ensures.len; capacity = c.drop_hold.ensures.capacity }) in (
      kept-drop c.self.inside.rooms.items c.self.inside.holds.items c.swap_remove.new.self.items c.self.inside.ends.items c.drop_end.new.ends.items c.self.inside.timelines.items c.self.inside.room_for c.args.hold.now c.drop_hold.new.self c.self.invariant.0 moved c.drop_end.ensures.counted c.drop_end.ensures.ends here,
      omega (arith, c.swap_remove.ensures.len, c.swap_remove.ensures.capacity, c.self.invariant.1),
      omega (arith, c.drop_end.ensures.len, c.drop_end.ensures.capacity, c.self.invariant.2),
    )

pub returns-clause-holds : goal.returns-clause-holds
returns-clause-holds c =
    let place = rw c.deref.ensures.value at c.place_of-place.ensures.is in
    let inside = rw c.deref.ensures.value at c.place_of-place.ensures.inside in
    rw (← c.self.view_is) (dropped-moved c.self.inside.holds.items c.swap_remove.new.self.items c.place_of-place.result c.swap_remove.result c.args.hold.now inside place c.swap_remove.ensures.value c.swap_remove.ensures.items)
