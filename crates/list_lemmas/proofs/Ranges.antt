-- Lists of numbers from one to before another.
use Rattle.std.proofs.Common.{[], arith, cond, eqb, refl, suc, sum_by, zero, ℕ, ◌+◌, ◌<◌, ◌≡◌, ◌≤◌}
use Rattle.std.proofs.lemmas.Bool.Decides.{nat_tests}
use Rattle.std.proofs.lemmas.List.Sums.{sum_by-cons}
use Rattle.std.specs.List.{range_with_len}

pub range-before : (x low count : ℕ) → x < low → sum_by (λ number. cond (eqb x number) 1 0) (range_with_len low count) ≡ 0
range-before x low zero before = refl
range-before x low (suc count) before =
    grind (
      arith,
      nat_tests,
      sum_by-cons (λ number. cond (eqb x number) 1 0) low (range_with_len (low + 1) count),
      range-before x (low + 1) count,
    )

pub range-within : (x low count : ℕ) → low ≤ x → x < low + count
    → sum_by (λ number. cond (eqb x number) 1 0) (range_with_len low count) ≡ 1
range-within x low zero above below = absurd (omega (arith, above, below))
range-within x low (suc count) above below =
    let first = sum_by-cons (λ number. cond (eqb x number) 1 0) low (range_with_len (low + 1) count) in
    grind (arith, nat_tests, first, range-before x (low + 1) count, range-within x (low + 1) count)
