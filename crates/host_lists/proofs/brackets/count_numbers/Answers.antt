use Rattle.std.proofs.Common.{ℕ, List, ◌^◌, ◌<◌, ◌≤◌, ◌+◌, ◌-◌, ◌++◌, map, fold, length, ap, subst, arith}
use Rattle.std.specs.List.{range_with_len}
use Rattle.host_lists.specs.Hosts.{Numbers, padded, with_name, range_names}
use Rattle.host_lists.specs.Counting.{Counts}
use Rattle.host_lists.proofs.CountLemmas.{below_power, are_keys, fold-piece, fold-piece-le, fold-all}
use Rattle.host_lists.proofs.brackets.count_numbers.Goals as goal

pub add-requires-clause-some : goal.add-requires-clause-some
add-requires-clause-some c =
    let small : c.loop-number.number < 10 ^ 9 = omega (arith, c.numbers.invariant.1, c.loop-number-test.true) in
    let below = below_power c.loop-number.number c.numbers.inside.width c.digits_of-digits.result small c.digits_of-digits.ensures.value in
    omega (arith, below, c.pow.ensures, c.min-end.ensures, c.loop-number-test.true)

pub add-requires-clause-keys : goal.add-requires-clause-keys
add-requires-clause-keys c =
    let end : c.min-end.result ≤ 10 ^ c.digits_of-digits.result = omega (arith, c.pow.ensures, c.min-end.ensures) in
    are_keys c.numbers.inside.width c.loop-number.number c.min-end.result c.digits_of-digits.result c.digits_of-digits.ensures.value end (omega (arith, c.numbers.invariant.1, c.min-end.ensures))

pub returns-then-not-add-clause-full : goal.returns-then-not-add-clause-full
returns-then-not-add-clause-full c =
    let n : Numbers = record { first = c.numbers.inside.first; last = c.numbers.inside.last; width = c.numbers.inside.width } in
    let small : c.loop-number.number < 10 ^ 9 = omega (arith, c.numbers.invariant.1, c.loop-number-test.true) in
    let below = below_power c.loop-number.number c.numbers.inside.width c.digits_of-digits.result small c.digits_of-digits.ensures.value in
    let power : c.min-end.result ≤ 10 ^ c.digits_of-digits.result = omega (arith, c.pow.ensures, c.min-end.ensures) in
    let next : c.loop-number.number ≤ c.min-end.result = omega (arith, below, c.pow.ensures, c.min-end.ensures, c.loop-number-test.true) in
    let last : c.min-end.result ≤ n.last + 1 = omega (arith, c.min-end.ensures) in
    subst (λ (x : Numbers). (prefix : List ℕ) → (names : List (List ℕ)) → Counts prefix c.args.counted.now names → 1024 < length (fold with_name names (range_names prefix x))) c.numbers.view_is (λ prefix names counts.
    let now : List (List ℕ) = fold with_name names (map (λ k. prefix ++ padded n.width k) (range_with_len n.first (c.loop-number.number - n.first))) in
    let full = c.if-not-add.ensures.full prefix now (c.loop-number.invariant.counts prefix names counts) in
    let same = fold-piece prefix n.width n.first c.loop-number.number c.min-end.result c.digits_of-digits.result names c.loop-number.invariant.least next c.digits_of-digits.ensures.value power (omega (arith, c.numbers.invariant.1, last)) in
    let most = fold-piece-le prefix n c.min-end.result names (omega (arith, c.loop-number.invariant.least, next)) last in
    omega (arith, full, ap length same, most))

pub loop-number-smaller : goal.loop-number-smaller
loop-number-smaller c =
    let small : c.loop-number.number < 10 ^ 9 = omega (arith, c.numbers.invariant.1, c.loop-number-test.true) in
    let below = below_power c.loop-number.number c.numbers.inside.width c.digits_of-digits.result small c.digits_of-digits.ensures.value in
    omega (arith, below, c.pow.ensures, c.min-end.ensures, c.loop-number-test.true)

pub loop-number-preserved : goal.loop-number-preserved
loop-number-preserved c =
    let small : c.loop-number.number < 10 ^ 9 = omega (arith, c.numbers.invariant.1, c.loop-number-test.true) in
    let below = below_power c.loop-number.number c.numbers.inside.width c.digits_of-digits.result small c.digits_of-digits.ensures.value in
    let power : c.min-end.result ≤ 10 ^ c.digits_of-digits.result = omega (arith, c.pow.ensures, c.min-end.ensures) in
    let next : c.loop-number.number ≤ c.min-end.result = omega (arith, below, c.pow.ensures, c.min-end.ensures, c.loop-number-test.true) in
    record {
      least = omega (arith, next, c.loop-number.invariant.least);
      most = omega (arith, c.min-end.ensures);
      counts = λ prefix names counts.
          let now : List (List ℕ) = fold with_name names (map (λ k. prefix ++ padded c.numbers.inside.width k) (range_with_len c.numbers.inside.first (c.loop-number.number - c.numbers.inside.first))) in
          let same = fold-piece prefix c.numbers.inside.width c.numbers.inside.first c.loop-number.number c.min-end.result c.digits_of-digits.result names c.loop-number.invariant.least next c.digits_of-digits.ensures.value power (omega (arith, c.numbers.invariant.1, c.min-end.ensures)) in
          subst (Counts prefix c.add.new.self) same (c.if-not-add.ensures.added prefix now (c.loop-number.invariant.counts prefix names counts));
    }

pub returns-clause-added : goal.returns-clause-added
returns-clause-added c =
    let n : Numbers = record { first = c.numbers.inside.first; last = c.numbers.inside.last; width = c.numbers.inside.width } in
    subst (λ (x : Numbers). (prefix : List ℕ) → (names : List (List ℕ)) → Counts prefix c.args.counted.now names → Counts prefix c.loop-number.counted (fold with_name names (range_names prefix x))) c.numbers.view_is (λ prefix names counts.
    subst (λ (more : List (List ℕ)). Counts prefix c.loop-number.counted more) (fold-all prefix n c.loop-number.number names (omega (arith, c.loop-number.invariant.most, c.loop-number-test.false))) (c.loop-number.invariant.counts prefix names counts))
