use Rattle.std.proofs.Common.{All, [], ◌∷◌, arith, subst}
use Rattle.slurm_net.specs.Host.{IsNewDoor}
use Rattle.ctl_server.specs.declared.workers.Seat.{Seat}
use Rattle.ctl_server.specs.Parts.{IsReady}
use Rattle.ctl_server.proofs.Seated.{last_one, one_more, seated, still_twice}
use Rattle.ctl_server.proofs.seating.seat_all.Goals as goal
use Rattle.list_lemmas.proofs.Elements.{all-left as all_first}

pub loop-door-preserved : goal.loop-door-preserved
loop-door-preserved g c =
    let so_far = c.loop-door.invariant in
    let door = c.in-Some.door in
    let IsNew : g.row.A.Denot → Type 0 = λ (door : g.row.A.Denot).
    IsNewDoor (g.A.Door.door_faults door) (g.A.Door.out door) (g.A.Door.sessions door) in
    let all_new = subst (All IsNew) c.in-Some.ensures.items so_far.new in
    let seat : Seat g.row.A.Denot g.row.C.Denot g.row.G.Denot = record {
      door = door;
      pass = c.split-pass.result;
      clock = c.twin-clock.result;
      gate = c.in-Some-pop.gate;
    } in record {
      still = still_twice c.args.pass.now c.loop-door.pass c.split-pass.new.pass so_far.still c.split-pass.ensures.still;
      gates = omega (arith, so_far.gates, c.in-Some.ensures.cases, c.in-Some-pop.ensures.cases);
      count = omega (arith, so_far.count, c.in-Some.ensures.cases, c.put.ensures.len);
      room = omega (arith, so_far.room, c.put.ensures.capacity);
      new = all_first IsNew c.pop.new.self.items (door ∷ []) all_new;
      ready = λ opening began. one_more
          (IsReady c.args.lock.now g.A.Door.out g.A.Door.door_faults g.A.Door.sessions g.C.Clock.moments g.C.Clock.course
          opening (g.C.Clock.course c.args.clock.now)) c.loop-door.seats.items c.put.new.others.items seat c.put.ensures.items
          (so_far.ready opening began)
          (seated c.args.lock.now g.A.Door.out g.A.Door.door_faults g.A.Door.sessions g.C.Clock.moments g.C.Clock.course
          opening c.args.pass.now c.loop-door.pass c.args.clock.now seat c.requires.own so_far.still c.split-pass.ensures.new
          began (last_one IsNew c.pop.new.self.items door all_new) c.twin-clock.ensures.moments c.twin-clock.ensures.tells
          c.twin-clock.ensures.course);
    }
