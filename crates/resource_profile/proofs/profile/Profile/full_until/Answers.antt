use Rattle.std.proofs.Common.{◌<◌, length}
use Rattle.resource_profile.proofs.Keeping.{read-timeline}
use Rattle.resource_profile.proofs.Short.{full-window}
use Rattle.resource_profile.proofs.profile.Profile.full_until.Goals as goal

pub returns-then-crosses : goal.returns-then-crosses
returns-then-crosses c =
    let inside : c.args.node < length c.self.inside.rooms.items = rw (← c.self.view_is) at c.requires in
    let is = read-timeline c.self.inside.rooms.items c.self.inside.holds.items c.self.inside.ends.items c.self.inside.timelines.items c.self.inside.room_for c.args.node c.index.result.now c.self.invariant.0 inside c.index.ensures in
    let crosses = c.if-crosses.ensures in
    rw (← c.self.view_is) (full-window _ c.args.from c.args.until c.index.result.now.full.from c.index.result.now.full.until is.full crosses.0 crosses.1 crosses.2)
