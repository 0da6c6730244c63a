-- Products and quotients that fit.
use Rattle.std.proofs.Common.{ℕ, ◌*◌, ◌/◌, ◌^◌, ◌<◌, ◌≤◌, arith}
use Rattle.std.proofs.Math.Nat.{mul-le-mul_left}
use Rattle.std.proofs.lemmas.Nat.{div_below}

-- the rows of all nodes
pub rows_fit : (nodes height : ℕ) → nodes < 65536 → height ≤ 400 → nodes * height ≤ 26_214_000
rows_fit nodes height few low = omega (arith, mul-le-mul_left nodes low)

-- the height of a row times a lane's place
pub lanes_fit : (lane height : ℕ) → lane ≤ 2 ^ 32 → height < 65536 → lane * height < 2 ^ 60
lanes_fit lane height few low =
    let most : height ≤ 65535 = omega arith in
    omega (arith, mul-le-mul_left lane most)

pub quotient_fits : (n k : ℕ) → 0 < k → n < 2 ^ 60 → n / k < 2 ^ 60
quotient_fits n k some small = div_below n k (2 ^ 60) some (omega arith)

-- the share of a length that is 10,600 tenths long
pub share_fits : (behind seconds : ℕ) → 0 < seconds → behind ≤ seconds → behind * 10_600 / seconds < 10_601
share_fits behind seconds some within = div_below (behind * 10_600) seconds 10_601 some (omega arith)
