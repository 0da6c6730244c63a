use Rattle.std.proofs.Common.{◌≡◌, ◌∙◌, ◌++◌, ◌∷◌, [], List, length, All, map, sym, ap, subst, arith, append_assoc}
use Rattle.std.specs.Vec.Iter.{into_iter_items}
use Rattle.std.proofs.lemmas.List.Elements.{All-tail}
use Rattle.ctl_server.specs.declared.workers.Worked.{Worked}
use Rattle.ctl_server.proofs.Gathering.{ends_with, map_push, met_worker}
use Rattle.ctl_server.proofs.workers.gather.Goals as goal

pub loop-one-preserved : goal.loop-one-preserved
loop-one-preserved g c =
    let one = c.in-Some.one in
    let so_far = c.loop-one.invariant in
    let first = c.in-Some.ensures.steps.0 in
    let own : Worked g.row.A.Denot → Type 0 = λ (one : Worked g.row.A.Denot). one.pass.lock ≡ c.args.lock.now in record {
      next = tt;
      finite = tt;
      met = met_worker c.args.pass.now c.loop-one.pass c.meet.new.pass c.loop-one.yielded one so_far.met c.meet.ensures.meets;
      doors = c.put.ensures.items
          ∙ (ap (λ (ds : List g.row.A.Denot). ds ++ one.door ∷ []) so_far.doors
          ∙ (append_assoc c.args.doors.now.items (map (λ (one : Worked g.row.A.Denot). one.door) c.loop-one.yielded) (one.door ∷ [])
          ∙ ap (λ (ds : List g.row.A.Denot). c.args.doors.now.items ++ ds)
          (sym (map_push (λ (one : Worked g.row.A.Denot). one.door) c.loop-one.yielded one))));
      end = ends_with c.loop-one.yielded one c.loop-one.end c.worse-end.result so_far.end c.worse-end.ensures;
      all = All-tail own one (into_iter_items c.next.new.self) (subst (All own) first so_far.all);
      room = omega (
        arith,
        so_far.room,
        c.put.ensures.len,
        c.put.ensures.capacity,
        ap (λ (ones : List (Worked g.row.A.Denot)). length ones) first,
      );
    }
