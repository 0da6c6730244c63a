use Rattle.std.proofs.Common.{◌<◌, length}
use Rattle.std.proofs.lemmas.Option.{IfSome_then}
use Rattle.resource_profile.proofs.Keeping.{read-timeline}
use Rattle.resource_profile.proofs.profile.Profile.short_until.Goals as goal

pub short_until-requires-clause-levels : goal.short_until-requires-clause-levels
short_until-requires-clause-levels c =
    let inside : c.args.node < length c.self.inside.rooms.items = rw (← c.self.view_is) at c.requires.node in
    let is = read-timeline c.self.inside.rooms.items c.self.inside.holds.items c.self.inside.ends.items c.self.inside.timelines.items c.self.inside.room_for c.args.node c.index.result.now c.self.invariant.0 inside c.index.ensures in
    rw c.deref.ensures.value is.levelled.shape

pub returns : goal.returns
returns c =
    let inside : c.args.node < length c.self.inside.rooms.items = rw (← c.self.view_is) at c.requires.node in
    let is = read-timeline c.self.inside.rooms.items c.self.inside.holds.items c.self.inside.ends.items c.self.inside.timelines.items c.self.inside.room_for c.args.node c.index.result.now c.self.invariant.0 inside c.index.ensures in
    rw (← c.self.view_is) (IfSome_then c.short_until.result c.short_until.ensures (λ bound short. short _ (rw c.deref.ensures.value is.levelled)))
