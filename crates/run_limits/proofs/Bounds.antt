-- How large the numbers of a fraction are.
use Rattle.std.proofs.Common.{ℕ, ◌*◌, ◌<◌, ◌≤◌, ◌^◌, arith}

pub num-small : (shares usage : ℕ) → shares ≤ 65535 → usage < 2 ^ 44 → shares * usage < 2 ^ 60
num-small shares usage few low =
    let first : shares * usage ≤ 65535 * usage = grind arith in
    omega (arith, first)

pub den-small : (shares usage : ℕ) → shares < 2 ^ 24 → usage < 2 ^ 44 → shares * usage < 2 ^ 68
den-small shares usage few low =
    let first : shares * usage ≤ (2 ^ 24) * usage = grind arith in
    omega (arith, first)

pub den-positive : (shares usage : ℕ) → 0 < shares → 0 < usage → 0 < shares * usage
den-positive shares usage some any = grind arith
