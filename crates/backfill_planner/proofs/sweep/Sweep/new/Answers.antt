use Rattle.std.proofs.Common.{◌≡◌, ℕ, ◌∷◌, [], ◌++◌, ◌+◌, ◌*◌, ◌/◌, ◌^◌, ◌≤◌, ◌<◌, length, get_or, replicate, arith, refl}
use Rattle.std.proofs.lemmas.Grind.{common_steps}
use Rattle.std.proofs.lemmas.List.{length-replicate}
use Rattle.std.proofs.lemmas.List.Elements.{All-push}
use Rattle.backfill_planner.proofs.Sweeping.{gives-push, least-push, leasts-alike}
use Rattle.backfill_planner.proofs.sweep.Sweep.new.Goals as goal

pub loop-node-preserved : goal.loop-node-preserved
loop-node-preserved c =
    let kept = c.loop-node.invariant in
    let given = c.given_from-given.result in
    let caps_are : c.push.new.self.items ≡ c.loop-node.caps.items ++ given.tasks ∷ [] = rw c.unwrap.ensures at c.push.ensures.items in
    let untils_are : c.push-in-loop-node.new.self.items ≡ c.loop-node.untils.items ++ given.until ∷ [] = rw c.unwrap-in-loop-node.ensures at c.push-in-loop-node.ensures.items in
    record {
      long = grind (arith, common_steps);
      until_long = grind (arith, common_steps);
      each = rw (caps_are, untils_are) (gives-push c.args.rooms.now c.args.profile.now.holds c.args.job.now c.args.second c.loop-node.node-index given.tasks given.until _ c.as_slice-nodes.result.now c.loop-node.caps.items c.loop-node.untils.items kept.long kept.until_long refl kept.each c.given_from-given.ensures.gives);
      small = rw caps_are (All-push (λ tasks. tasks * c.args.job.now.cpus_per_task < 2 ^ 32) c.loop-node.caps.items given.tasks kept.small c.given_from-given.ensures.small);
      total = grind (arith, common_steps);
      later = omega (arith, c.min-least.ensures, kept.later, c.given_from-given.ensures.gives.later);
      least = rw (untils_are, c.min-least.ensures) (least-push c.loop-node.untils.items c.loop-node.least given.until c.loop-node.node-index kept.until_long kept.least);
      bound = omega (arith, kept.bound, c.from-total.ensures, c.given_from-given.ensures.word);
      few = kept.few;
      caps_count = grind (arith, common_steps);
      untils_count = grind (arith, common_steps);
      caps_room = grind (arith, common_steps);
      untils_room = grind (arith, common_steps);
    }

pub returns-clause-swept : goal.returns-clause-swept
returns-clause-swept c =
    let held = c.loop-node.invariant in
    let nodes = c.as_slice-nodes.result.now in
    let all : c.loop-node.node-index ≡ length nodes = omega (arith, c.loop-node.auto.node-index-end, c.loop-node-test.false) in
    let rows = length nodes / 8 + 1 in
    let made = c.in_ok-leasts.leasts.items in
    let alike : made ≡ replicate rows c.loop-node.least = c.in_ok-leasts.ensures.items_if_clones_equal (λ y same. same) in
    let count : length made ≡ length nodes / 8 + 1 = rw alike (length-replicate rows c.loop-node.least) in
    let least : (i : ℕ) → i < length nodes → c.loop-node.least ≤ get_or c.loop-node.untils.items i 0 =
    λ i inside. held.least i (omega (arith, inside, all)) in
    let same = c.as_slice-nodes.ensures.nodes in
    let long : length c.loop-node.caps.items ≡ length nodes = omega (arith, held.long, all) in
    let until_long : length c.loop-node.untils.items ≡ length nodes = omega (arith, held.until_long, all) in
    let few : length nodes < 2 ^ 32 = held.few in
    let many : length nodes ≤ length made * 8 = omega (arith, count) in
    record {
      long = rw same at long;
      until_long = rw same at until_long;
      each = λ i inside. rw same at (held.each i (omega (arith, rw (← same) at inside, all)));
      small = held.small;
      few = rw same at few;
      total = held.total;
      later = held.later;
      least = λ i inside. least i (rw (← same) at inside);
      rows = rw same at many;
      few_rows = omega (arith, count, few);
      leasts = rw alike (leasts-alike rows c.loop-node.least c.loop-node.untils.items (λ i inside. least i (omega (arith, inside, held.until_long, all))));
    }
