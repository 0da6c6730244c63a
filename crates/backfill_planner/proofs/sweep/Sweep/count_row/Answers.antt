use Rattle.std.proofs.Common.{◌≡◌, ℕ, ◌+◌, ◌*◌, ◌^◌, ◌≤◌, ◌<◌, length, get_or, arith, ap, ◌∙◌, inl, inr}
use Rattle.std.proofs.lemmas.Bool.{cases_eq}
use Rattle.std.proofs.lemmas.List.{length-set, get_or-set_same, get_or-set_other}
use Rattle.std.proofs.lemmas.Grind.{get_or_default_zero}
use Rattle.backfill_planner.specs.Sweeps.{GivesUntil}
use Rattle.backfill_planner.proofs.Sweeping.{gives-set, gives-other, gives-later, small-set, total-room, leasts-later, leasts-set}
use Rattle.backfill_planner.proofs.sweep.Sweep.count_row.Goals as goal
use Rattle.backfill_planner.proofs.sweep.Sweep.count_row.Goals.{then-index-second, else-index-second}

pub renew-requires-clause-bound : goal.renew-requires-clause-bound
renew-requires-clause-bound c =
    let half = c.loop-i.invariant.half in
    total-room c.loop-i.self.caps.items c.loop-i.self.total c.args.job.now.cpus_per_task (omega (arith, half.long, half.few)) half.small (omega (arith, c.get.ensures.range.0, c.get.ensures.value)) half.total

pub loop-i-preserved : goal.loop-i-preserved
loop-i-preserved c =
    let rooms = c.args.rooms.now in
    let holds = c.args.profile.now.holds in
    let job = c.args.job.now in
    let i = c.loop-i.i in
    let old = c.loop-i.self in
    let held = c.loop-i.invariant in
    let half = held.half in
    let long : length c.as_slice-nodes.result.now ≡ length job.nodes = ap length c.as_slice-nodes.ensures.nodes in
    let inside : i < length job.nodes = omega (arith, c.loop-i-test.true, held.end, long) in
    let within : i < c.args.row * 8 + 8 = omega (arith, c.loop-i-test.true, held.end) in
    let caps_in : i < length old.caps.items = omega (arith, inside, half.long) in
    let untils_in : i < length old.untils.items = omega (arith, inside, half.until_long) in
    let read : c.index.result.now ≡ get_or old.untils.items i 0 = c.index.ensures ∙ get_or_default_zero old.untils.items i c.index.result.now untils_in in
    elim c.if-index-second.branch [
      | then-index-second w ↦
          let given = w.given_from-given.result in
          let gives : GivesUntil rooms holds job c.args.second (get_or job.nodes i 0) given.tasks given.until =
          rw c.as_slice-nodes.ensures.nodes at w.given_from-given.ensures.gives in
          let until = c.index-in-loop-i.result.now in
          let until_is : until ≡ given.until = (rw (w.self-is, w.renew.ensures.untils) at c.index-in-loop-i.ensures) ∙ get_or-set_same old.untils.items i given.until until untils_in in
          let passed : get_or old.untils.items i 0 ≤ given.until = omega (arith, read, w.if-index-second.true, w.given_from-given.ensures.gives.later) in
          rw w.self-is (record {
            end = held.end;
            low = omega (arith, held.low);
            high = omega (arith, within);
            half = record {
              long = rw w.renew.ensures.caps (length-set old.caps.items i given.tasks ∙ half.long);
              until_long = rw w.renew.ensures.untils (length-set old.untils.items i given.until ∙ half.until_long);
              order = omega (arith, w.renew.ensures.second, half.order);
              done = λ k low there. elim (cases_eq k i) [
                | inl at ↦
                    let e : k ≡ i = at in
                    rw (e, w.renew.ensures.caps, w.renew.ensures.untils) (gives-set rooms holds job c.args.second _ i given.tasks given.until old.caps.items old.untils.items caps_in untils_in gives)
                | inr apart ↦ rw (w.renew.ensures.caps, w.renew.ensures.untils) (gives-other rooms holds job c.args.second _ i k given.tasks given.until old.caps.items old.untils.items apart (half.done k (omega arith) there))
              ];
              rest = λ k high there. rw (w.renew.ensures.caps, w.renew.ensures.untils, w.renew.ensures.second) (gives-other rooms holds job old.second _ i k given.tasks given.until old.caps.items old.untils.items (omega arith) (half.rest k (omega arith) there));
              small = rw w.renew.ensures.caps (small-set old.caps.items i given.tasks job.cpus_per_task (2 ^ 32) half.small w.given_from-given.ensures.small);
              few = half.few;
              total = w.renew.ensures.total;
              rows = rw w.renew.ensures.leasts half.rows;
              few_rows = rw w.renew.ensures.leasts half.few_rows;
              leasts = rw (w.renew.ensures.leasts, w.renew.ensures.untils) (leasts-later old.leasts.items old.untils.items i given.until untils_in passed half.leasts);
            };
            count = rw w.renew.ensures.leasts held.count;
            was = w.renew.ensures.second ∙ held.was;
            before = λ k below. rw w.renew.ensures.untils (get_or-set_other old.untils.items i k given.until 0 (omega (arith, below, held.low)) ∙ held.before k below);
            later = omega (arith, c.min-least.ensures, until_is, held.later, w.given_from-given.ensures.gives.later);
            least = λ k low below. rw (w.renew.ensures.untils, c.min-least.ensures, until_is) (elim (cases_eq k i) [
              | inl at ↦ let e : k ≡ i = at in rw (e, get_or-set_same old.untils.items i given.until 0 untils_in) (omega arith)
              | inr apart ↦ rw (get_or-set_other old.untils.items i k given.until 0 apart) (omega (arith, held.least k low (omega arith)))
            ]);
          })
      | else-index-second w ↦
          let until = c.index-in-loop-i.result.now in
          let until_is : until ≡ get_or old.untils.items i 0 = (rw w.self-is at c.index-in-loop-i.ensures) ∙ get_or_default_zero old.untils.items i until untils_in in
          let fresh : c.args.second < get_or old.untils.items i 0 = rw read at w.if-index-second.false in
          rw w.self-is (record {
            end = held.end;
            low = omega (arith, held.low);
            high = omega (arith, within);
            half = record {
              long = half.long;
              until_long = half.until_long;
              order = half.order;
              done = λ k low there. elim (cases_eq k i) [
                | inl at ↦
                    let e : k ≡ i = at in
                    rw e (gives-later rooms holds job old.second c.args.second _ _ _ half.order fresh (half.rest i (omega arith) inside))
                | inr apart ↦ half.done k (omega arith) there
              ];
              rest = λ k high there. half.rest k (omega arith) there;
              small = half.small;
              few = half.few;
              total = half.total;
              rows = half.rows;
              few_rows = half.few_rows;
              leasts = half.leasts;
            };
            count = held.count;
            was = held.was;
            before = held.before;
            later = omega (arith, c.min-least.ensures, until_is, held.later, fresh);
            least = λ k low below. rw (c.min-least.ensures, until_is) (elim (cases_eq k i) [
              | inl at ↦ let e : k ≡ i = at in rw e (omega arith)
              | inr apart ↦ omega (arith, held.least k low (omega arith))
            ]);
          })
    ]

pub returns-clause-halfway : goal.returns-clause-halfway
returns-clause-halfway c =
    let held = c.loop-i.invariant in
    let half = held.half in
    let old = c.loop-i.self in
    let row = c.args.row in
    let least = c.loop-i.least in
    let long : length c.as_slice-nodes.result.now ≡ length c.args.job.now.nodes = ap length c.as_slice-nodes.ensures.nodes in
    let there : row < length old.leasts.items = omega (arith, held.count, c.requires.there) in
    let all : (k : ℕ) → row * 8 ≤ k → k < row * 8 + 8 → k < length old.untils.items → least ≤ get_or old.untils.items k 0 =
    λ k low below inside. held.least k low (omega (arith, below, inside, half.until_long, held.end, long, c.loop-i-test.false)) in
    record {
      long = half.long;
      until_long = half.until_long;
      order = half.order;
      done = λ k below inside. half.done k (omega (arith, below, inside, held.end, long, c.loop-i-test.false)) inside;
      rest = λ k low inside. half.rest k (omega (arith, low, held.high)) inside;
      small = half.small;
      few = half.few;
      total = half.total;
      rows = omega (arith, half.rows, length-set old.leasts.items row least);
      few_rows = omega (arith, half.few_rows, length-set old.leasts.items row least);
      leasts = leasts-set old.leasts.items old.untils.items row least there half.leasts all;
    }

pub returns-clause-later : goal.returns-clause-later
returns-clause-later c =
    let held = c.loop-i.invariant in
    let old = c.loop-i.self in
    rw (get_or-set_same old.leasts.items c.args.row c.loop-i.least 0 (omega (arith, held.count, c.requires.there))) held.later

pub returns-clause-before : goal.returns-clause-before
returns-clause-before c = c.loop-i.invariant.before

pub returns-clause-count : goal.returns-clause-count
returns-clause-count c = length-set c.loop-i.self.leasts.items c.args.row c.loop-i.least ∙ c.loop-i.invariant.count

pub returns-clause-second : goal.returns-clause-second
returns-clause-second c = c.loop-i.invariant.was
