use Rattle.std.proofs.Common.{◌≡◌, ◌+◌, ◌-◌, ◌≤◌, arith}
use Rattle.std.proofs.lemmas.List.Sorted.{IsPermutation-to_front, IsPermutation-sym}
use Rattle.resource_profile.specs.Timelines.{IsTimeline}
use Rattle.resource_profile.proofs.Keeping.{read-timeline, can-take, ends-few, here-add, kept-add}
use Rattle.resource_profile.proofs.profile.Profile.add_hold.Goals as goal

pub add_end-requires-clause-count : goal.add_end-requires-clause-count
add_end-requires-clause-count c =
    let few = ends-few c.self.inside.rooms.items c.self.inside.holds.items c.self.inside.ends.items c.self.inside.timelines.items c.self.inside.room_for c.args.hold.now.until c.self.invariant.0 in
    omega (arith, few, c.self.inside.holds.ok.0, c.self.inside.holds.ok.1, c.self.inside.holds.small)

pub add-requires-clause-free : goal.add-requires-clause-free
add-requires-clause-free c =
    let free = rw (← c.self.view_is) at c.requires.free in
    let is = read-timeline c.self.inside.rooms.items c.self.inside.holds.items c.self.inside.ends.items c.self.inside.timelines.items c.self.inside.room_for c.args.hold.now.node c.index_mut.result.now c.self.invariant.0 free.node c.index_mut.ensures.value in
    can-take c.self.inside.rooms.items c.self.inside.holds.items c.args.hold.now c.self.inside.room_for c.index_mut.result.now is free

pub invariant_of-self : goal.invariant_of-self
invariant_of-self c =
    let rooms = c.self.inside.rooms.items in
    let holds = c.self.inside.holds.items in
    let spare = c.self.inside.room_for in
    let hold = c.args.hold.now in
    let some : 1 ≤ spare = rw (← c.self.view_is) at c.requires.spare in
    let pushed = rw c.unwrap.ensures at c.push.ensures.items in
    let longer = rw c.unwrap.ensures at c.push.ensures.len in
    let free = rw (← c.self.view_is) at c.requires.free in
    let is = read-timeline rooms holds c.self.inside.ends.items c.self.inside.timelines.items spare hold.node c.index_mut.result.now c.self.invariant.0 free.node c.index_mut.ensures.value in
    let back : spare ≡ (spare - 1) + 1 = omega (arith, some) in
    let wide : IsTimeline rooms holds hold.node ((spare - 1) + 1) c.index_mut.result.now = rw (← back) is in
    let here = here-add rooms holds hold (spare - 1) c.index_mut.result.now c.add.new.self wide (record { kept = c.add.ensures.kept; full = c.add.ensures.full; holds = c.add.ensures.holds; len = c.add.ensures.len; capacity = c.add.ensures.capacity }) in (
      rw pushed (kept-add rooms holds c.self.inside.ends.items c.add_end.new.ends.items c.self.inside.timelines.items spare (spare - 1) hold c.add.new.self c.self.invariant.0 free (omega arith) c.add_end.ensures.counted c.add_end.ensures.ends here),
      omega (arith, longer, some, c.push.ensures.capacity, c.self.invariant.1),
      omega (arith, some, c.add_end.ensures.len, c.add_end.ensures.capacity, c.self.invariant.2),
    )

pub returns-clause-holds : goal.returns-clause-holds
returns-clause-holds c =
    let pushed = rw c.unwrap.ensures at c.push.ensures.items in
    rw (pushed, ← c.self.view_is) (IsPermutation-sym _ _ (IsPermutation-to_front c.self.inside.holds.items c.args.hold.now))
