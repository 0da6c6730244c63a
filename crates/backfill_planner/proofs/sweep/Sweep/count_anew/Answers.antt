use Rattle.std.proofs.Common.{◌≡◌, ◌+◌, ◌*◌, ◌≤◌, ◌<◌, length, get_or, arith, refl, ◌∙◌, inl, inr}
use Rattle.std.proofs.lemmas.Bool.{cases_lt}
use Rattle.std.proofs.lemmas.Grind.{get_or_default_zero}
use Rattle.backfill_planner.proofs.Sweeping.{swept-halfway, halfway-row, halfway-swept}
use Rattle.backfill_planner.proofs.sweep.Sweep.count_anew.Goals as goal
use Rattle.backfill_planner.proofs.sweep.Sweep.count_anew.Goals.{then-index-second, else-index-second}

pub loop-row-init : goal.loop-row-init
loop-row-init c = record {
  half = swept-halfway c.args.rooms.now c.args.profile.now.holds c.args.job.now c.args.self.now c.args.second c.requires.swept c.requires.order;
  count = refl;
  was = refl;
  later = omega (arith, c.requires.second);
  least = λ i below inside. absurd (omega (arith, below));
}

pub count_row-requires-clause-there : goal.count_row-requires-clause-there
count_row-requires-clause-there c = omega (arith, c.loop-row-test.true, c.loop-row.invariant.count)

pub count_row-requires-clause-few : goal.count_row-requires-clause-few
count_row-requires-clause-few c = omega (arith, c.loop-row-test.true, c.loop-row.invariant.count, c.loop-row.invariant.half.few_rows)

pub count_row-requires-clause-halfway : goal.count_row-requires-clause-halfway
count_row-requires-clause-halfway c = c.loop-row.invariant.half

pub loop-row-preserved : goal.loop-row-preserved
loop-row-preserved c =
    let rooms = c.args.rooms.now in
    let holds = c.args.profile.now.holds in
    let job = c.args.job.now in
    let row = c.loop-row.row in
    let old = c.loop-row.self in
    let held = c.loop-row.invariant in
    let there : row < length old.leasts.items = omega (arith, c.loop-row-test.true, held.count) in
    let next : row * 8 + 8 ≡ (row + 1) * 8 = omega arith in
    elim c.if-index-second.branch [
      | then-index-second w ↦
          let new = w.count_row.new.self in
          let half = w.count_row.ensures.halfway in
          let last = c.index-in-loop-row.result.now in
          let last_is : last ≡ get_or new.leasts.items row 0 = (rw w.self-is at c.index-in-loop-row.ensures) ∙ get_or_default_zero new.leasts.items row last (omega (arith, there, w.count_row.ensures.count)) in
          rw w.self-is (record {
            half = rw next at half;
            count = w.count_row.ensures.count ∙ held.count;
            was = w.count_row.ensures.second ∙ held.was;
            later = omega (arith, c.min-least.ensures, last_is, held.later, w.count_row.ensures.later);
            least = λ i below inside. elim (cases_lt i (row * 8)) [
              | inl passed ↦ omega (arith, c.min-least.ensures, held.least i passed inside, w.count_row.ensures.before i passed)
              | inr here ↦ omega (arith, c.min-least.ensures, last_is, half.leasts row i (omega (arith, here)) (omega (arith, below)) (omega (arith, inside, half.until_long)))
            ];
          })
      | else-index-second w ↦
          let read : c.index.result.now ≡ get_or old.leasts.items row 0 = c.index.ensures ∙ get_or_default_zero old.leasts.items row c.index.result.now there in
          let fresh : c.args.second < get_or old.leasts.items row 0 = rw read at w.if-index-second.false in
          let half = halfway-row rooms holds job old c.args.second row held.half fresh in
          let last = c.index-in-loop-row.result.now in
          let last_is : last ≡ get_or old.leasts.items row 0 = (rw w.self-is at c.index-in-loop-row.ensures) ∙ get_or_default_zero old.leasts.items row last there in
          rw w.self-is (record {
            half = rw next at half;
            count = held.count;
            was = held.was;
            later = omega (arith, c.min-least.ensures, last_is, held.later, fresh);
            least = λ i below inside. elim (cases_lt i (row * 8)) [
              | inl passed ↦ omega (arith, c.min-least.ensures, held.least i passed inside)
              | inr here ↦ omega (arith, c.min-least.ensures, last_is, half.leasts row i (omega (arith, here)) (omega (arith, below)) (omega (arith, inside, half.until_long)))
            ];
          })
    ]

pub returns-clause-swept : goal.returns-clause-swept
returns-clause-swept c =
    let held = c.loop-row.invariant in
    let all : length c.args.job.now.nodes ≤ c.loop-row.row * 8 = omega (arith, held.half.rows, held.count, c.loop-row-test.false) in
    halfway-swept c.args.rooms.now c.args.profile.now.holds c.args.job.now c.loop-row.self c.args.second (c.loop-row.row * 8) c.loop-row.least held.half all held.later
    (λ i inside. held.least i (omega (arith, inside, all)) inside)
