use Rattle.std.proofs.Common.{rules, ◌≡◌, ◌≤◌, ◌<◌, false, true, length, arith, ap, sym, ◌∙◌, get_or, inl, inr}
use Rattle.std.proofs.lemmas.Bool.{cases_lt, eqb-true, eq-eqb}
use Rattle.plan_keeper.specs.Steady.{is_ahead}
use Rattle.plan_keeper.proofs.Walking.{walk-past, walk-both, walk-none, walk-other, walk-end, walk-more}
use Rattle.plan_keeper.proofs.same_times.are_same_behind.Goals as goal
use Rattle.plan_keeper.proofs.same_times.are_same_behind.Goals.{then-place-new-via-then-place-new, then-place-new-via-else-place-new+then-not-is_same_time, then-is_ahead+else-place-new+else-not-is_same_time, else-is_ahead}

pub returns-then-place-new : goal.returns-then-place-new
returns-then-place-new c =
    let counts = is_ahead c.args.now c.args.nodes.now in
    let old = c.args.old.now in
    let new = c.args.new.now in
    let time = c.time-item.result in
    let ahead : counts time ≡ true = sym c.is_ahead.ensures ∙ c.if-is_ahead.true in
    let next = c.next_ahead-place.result in (
      λ wrong. absurd cc,
      λ same. elim c.then-place-new.branch [
        | then-place-new-via-then-place-new w ↦
            absurd (walk-none counts old new c.loop-time.time-index c.loop-time.place next time c.loop-time.invariant.same c.loop-time-test.true c.time-item.is ahead c.next_ahead-place.ensures.passed (omega (arith, w.if-place-new.true)) same)
        | then-place-new-via-else-place-new+then-not-is_same_time w ↦
            let inside : next < length new = omega (arith, w.if-place-new.false, c.next_ahead-place.ensures.within) in
            let other = w.index-new-place.result in
            let counted : counts other ≡ true = ap (λ one. counts one) w.index-new-place.is ∙ c.next_ahead-place.ensures.ahead other inside in
            absurd (walk-other counts old new c.loop-time.time-index c.loop-time.place next time other c.loop-time.invariant.same c.loop-time-test.true c.time-item.is ahead c.next_ahead-place.ensures.passed inside w.index-new-place.is counted
            (λ is. let told = w.is_same_time.ensures.1 is in absurd (search (rules, told))) same)
      ],
    )

pub loop-time-preserved : goal.loop-time-preserved
loop-time-preserved c =
    let counts = is_ahead c.args.now c.args.nodes.now in
    let old = c.args.old.now in
    let new = c.args.new.now in
    let time = c.time-item.result in
    elim c.if-is_ahead.branch [
      | then-is_ahead+else-place-new+else-not-is_same_time w ↦
          let ahead : counts time ≡ true = sym c.is_ahead.ensures ∙ w.if-is_ahead.true in
          let next = w.next_ahead-place.result in
          let inside : next < length new = omega (arith, w.if-place-new.false, w.next_ahead-place.ensures.within) in
          let told : w.is_same_time.result ≡ true = search rules in
          let is : w.index-new-place.result ≡ time = w.is_same_time.ensures.0 told in
          let there : time ≡ get_or new next time = sym is ∙ w.index-new-place.is ∙ ap (λ d. get_or new next d) is in
          rw w.place-is (record {
            within = omega (arith, inside);
            same = walk-both counts old new c.loop-time.time-index c.loop-time.place next time c.loop-time.invariant.same c.loop-time-test.true c.time-item.is ahead w.next_ahead-place.ensures.passed inside there;
          })
      | else-is_ahead w ↦
          let behind : counts time ≡ false = sym c.is_ahead.ensures ∙ w.if-is_ahead.false in
          rw w.place-is (record {
            within = c.loop-time.invariant.within;
            same = walk-past counts old new c.loop-time.time-index c.loop-time.place time c.loop-time.invariant.same c.loop-time-test.true c.time-item.is behind;
          })
    ]

pub returns : goal.returns
returns c =
    let counts = is_ahead c.args.now c.args.nodes.now in
    let old = c.args.old.now in
    let new = c.args.new.now in
    let next = c.next_ahead.result in
    let end : length old ≤ c.loop-time.time-index = omega (arith, c.loop-time-test.false) in (
      λ all.
          let past : next ≡ length new = eqb-true next (length new) all in
          walk-end counts old new c.loop-time.time-index c.loop-time.place next c.loop-time.invariant.same end c.next_ahead.ensures.passed (omega (arith, past)),
      λ same. elim (cases_lt next (length new)) [
        | inr past ↦ eq-eqb next (length new) (omega (arith, past, c.next_ahead.ensures.within))
        | inl inside ↦
            absurd (walk-more counts old new c.loop-time.time-index c.loop-time.place next c.loop-time.invariant.same end c.next_ahead.ensures.passed inside (λ d. c.next_ahead.ensures.ahead d inside) same)
      ],
    )
