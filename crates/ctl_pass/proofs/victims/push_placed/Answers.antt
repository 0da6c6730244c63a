use Rattle.std.proofs.Common.{◌++◌, ◌∷◌, [], map, take, get_or, append_assoc, ap, sym, ◌∙◌}
use Rattle.std.proofs.lemmas.List.{get_or_default}
use Rattle.resource_profile.specs.declared.Hold.{Hold}
use Rattle.backfill_planner.specs.declared.Share.{Share}
use Rattle.ctl_pass.specs.Limits.{limit_end}
use Rattle.ctl_pass.proofs.Lists.{take-map-more}
use Rattle.ctl_pass.proofs.victims.push_placed.Goals as goal

pub loop-share-preserved : goal.loop-share-preserved
loop-share-preserved c =
    let placed = c.args.placed.now in
    let i = c.loop-share.share-index in
    let nothing : Share = record { node = 0; tasks = 0; cpus = 0; mem = 0 } in
    let share = get_or placed.parts i nothing in
    let below = rw c.as_slice-share-items.ensures at c.loop-share-test.true in
    let f : Share → Hold =
    λ one. record {
      node = one.node;
      from = placed.start;
      until = limit_end c.args.limit.now placed.start;
      cpus = one.cpus;
      mem = one.mem;
    } in
    let more = take-map-more f placed.parts i share below (get_or_default placed.parts i nothing share below) in
    (rw (c.as_slice-share-items.ensures, c.limit_end-until.ensures, c.loop-share.invariant) at c.in_ok-push.ensures.items)
    ∙ append_assoc c.args.holds.now.items (take i (map f placed.parts)) (f share ∷ [])
    ∙ ap (λ rest. c.args.holds.now.items ++ rest) (sym more)
