use Rattle.std.proofs.Common.{◌≡◌, ◌-◌, arith}
use Rattle.std.proofs.lemmas.Grind.{common_steps}
use Rattle.resource_profile.specs.Free.{room_at, held_cpus, held_mem}
use Rattle.resource_profile.proofs.Least.{least_over-le}
use Rattle.resource_profile.proofs.profile.Profile.free_min.Goals as goal

pub returns-then-node-len-clause-cpus : goal.returns-then-node-len-clause-cpus
returns-then-node-len-clause-cpus c =
    let no_room : (room_at c.self.inside.rooms.items c.args.node).cpus ≡ 0 = grind (arith, common_steps) in
    let least = least_over-le (λ moment. (room_at c.self.inside.rooms.items c.args.node).cpus - held_cpus c.self.inside.holds.items c.args.node moment) c.args.from c.args.until c.args.from (omega arith) (omega arith) in
    rw (← c.self.view_is) (omega (arith, least, no_room))

pub returns-then-node-len-clause-mem : goal.returns-then-node-len-clause-mem
returns-then-node-len-clause-mem c =
    let no_room : (room_at c.self.inside.rooms.items c.args.node).mem ≡ 0 = grind (arith, common_steps) in
    let least = least_over-le (λ moment. (room_at c.self.inside.rooms.items c.args.node).mem - held_mem c.self.inside.holds.items c.args.node moment) c.args.from c.args.until c.args.from (omega arith) (omega arith) in
    rw (← c.self.view_is) (omega (arith, least, no_room))
