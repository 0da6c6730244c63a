-- Fractions, and shares of a weight.
use Rattle.std.specs.Prelude.{ℕ, ◌*◌, ◌/◌, ◌==◌, if◌then◌else◌}
use Rattle.std.specs.Ordering.{nat_cmp}
use Rattle.std.specs.declared.cmp.Ordering.{Ordering}
use Rattle.plain_data.specs.declared.ratios.Ratio.{Ratio}

-- the order of two fractions: that of their numerators over a common denominator
abbrev pub ratio_cmp : Ratio → Ratio → Ordering
ratio_cmp a b = nat_cmp (a.num * b.den) (b.num * a.den)

-- the share of the weight that the fraction num / den is, rounded down, and nothing of no denominator
abbrev pub share_of : ℕ → ℕ → ℕ → ℕ
share_of weight num den = if den == 0 then 0 else weight * num / den
