-- The Level FS of an association, and how two compare.
use Rattle.std.specs.declared.cmp.Ordering.{Ordering}
use Rattle.std.specs.declared.cmp.Ordering.TheVariants.{Less, Equal, Greater}
use Rattle.plain_data.specs.declared.ratios.Ratio.{Ratio}
use Rattle.plain_data.specs.Ratios.{ratio_cmp}

-- nothing of no shares, everything of no usage, else a fraction
pub data Level : Type 0 where
  Least : Level
  Fraction : (ratio : Ratio) → Level
  Top : Level

-- the least is below every fraction and the top above
abbrev pub level_cmp : Level → Level → Ordering
level_cmp Least Least = Equal
level_cmp Least other = Less
level_cmp (Fraction one) Least = Greater
level_cmp (Fraction one) (Fraction other) = ratio_cmp one other
level_cmp (Fraction one) Top = Less
level_cmp Top Top = Equal
level_cmp Top other = Greater
