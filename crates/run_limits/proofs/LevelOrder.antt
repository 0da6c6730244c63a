-- The order of levels, and what the code's levels and paths stand for.
use Rattle.std.proofs.Common.{◌≡◌, ◌*◌, Bool, List, [], ◌∷◌, length, map, refl, sym, ap, ◌∙◌}
use Rattle.std.specs.Prelude.{◌&&◌, ◌||◌, ◌-◌, count_by, if◌then◌else◌}
use Rattle.std.specs.Cmp.{IsTotalOrder}
use Rattle.std.specs.List.{list_any}
use Rattle.std.specs.Ordering.{ordering_then, ordering_reverse, is_gt}
use Rattle.std.specs.declared.cmp.Ordering.{Ordering}
use Rattle.std.specs.declared.cmp.Ordering.TheVariants.{Less, Equal}
use Rattle.std.proofs.lemmas.Cmp.{nat_cmp_total}
use Rattle.std.proofs.lemmas.List.{length-map}
use Rattle.std.proofs.lemmas.List.Sums.{sum_by-cons}
use Rattle.run_limits.specs.declared.level.LevelFs.{LevelFs}
use Rattle.run_limits.specs.declared.level.LevelFs.TheVariants.{Least, Fraction, Top}
use Rattle.run_limits.specs.Levels.{level_cmp}
use Rattle.run_limits.specs.Ranks.{parting, is_prefix, precedes, rank_among}
use Rattle.run_limits.specs.Paths.{seen}
use Rattle.run_limits.proofs.Fractions.{fraction-congr, fraction-trans}
use Rattle.run_limits.proofs.Parts.{parts}
use Rattle.run_limits.proofs.Counting.{is_proper, precedes_by}

-- how two of the code's levels compare
abbrev pub fs_cmp : LevelFs → LevelFs → Ordering
fs_cmp one other = level_cmp (seen one) (seen other)

antisymm : (x y : LevelFs) → fs_cmp x y ≡ ordering_reverse (fs_cmp y x)
antisymm Least Least = refl
antisymm Least (Fraction b) = refl
antisymm Least Top = refl
antisymm (Fraction a) Least = refl
antisymm (Fraction a) (Fraction b) = nat_cmp_total.antisymm (a.ratio.num * b.ratio.den) (b.ratio.num * a.ratio.den)
antisymm (Fraction a) Top = refl
antisymm Top Least = refl
antisymm Top (Fraction b) = refl
antisymm Top Top = refl

congr : (x y z : LevelFs) → fs_cmp x y ≡ Equal → fs_cmp x z ≡ fs_cmp y z
congr Least Least z e = refl
congr Least (Fraction b) z e = absurd (cc)
congr Least Top z e = absurd (cc)
congr (Fraction a) Least z e = absurd (cc)
congr (Fraction a) (Fraction b) Least e = refl
congr (Fraction a) (Fraction b) (Fraction d) e =
    fraction-congr a.ratio.num a.ratio.den b.ratio.num b.ratio.den d.ratio.num d.ratio.den a.positive b.positive e
congr (Fraction a) (Fraction b) Top e = refl
congr (Fraction a) Top z e = absurd (cc)
congr Top Least z e = absurd (cc)
congr Top (Fraction b) z e = absurd (cc)
congr Top Top z e = refl

trans : (x y z : LevelFs) → fs_cmp x y ≡ Less → fs_cmp y z ≡ Less → fs_cmp x z ≡ Less
trans Least y Least first second = absurd (lowest y second)
  where
    lowest : (y : LevelFs) → fs_cmp y Least ≡ Less → ⊥
    lowest Least e = cc
    lowest (Fraction b) e = cc
    lowest Top e = cc
trans Least y (Fraction d) first second = refl
trans Least y Top first second = refl
trans (Fraction a) Least z first second = absurd (cc)
trans (Fraction a) (Fraction b) Least first second = absurd (cc)
trans (Fraction a) (Fraction b) (Fraction d) first second =
    fraction-trans a.ratio.num a.ratio.den b.ratio.num b.ratio.den d.ratio.num d.ratio.den a.positive b.positive d.positive first second
trans (Fraction a) (Fraction b) Top first second = refl
trans (Fraction a) Top Least first second = absurd (cc)
trans (Fraction a) Top (Fraction d) first second = absurd (cc)
trans (Fraction a) Top Top first second = absurd (cc)
trans Top Least z first second = absurd (cc)
trans Top (Fraction b) z first second = absurd (cc)
trans Top Top z first second = absurd (cc)

pub fs_cmp-total : IsTotalOrder fs_cmp
fs_cmp-total = record { antisymm = antisymm; trans = trans; congr = congr }

pub parting-map : (one other : List LevelFs) → parting (map seen one) (map seen other) ≡ parts fs_cmp one other
parting-map [] other = refl
parting-map (x ∷ one) [] = refl
parting-map (x ∷ one) (y ∷ other) = ap (ordering_then (fs_cmp x y)) (parting-map one other)

is_prefix-map : (one other : List LevelFs) → is_prefix (map seen one) (map seen other) ≡ is_proper fs_cmp fs_cmp-total one other
is_prefix-map one other = rw (parting-map one other, length-map one seen, length-map other seen) refl

third-map : (one other : List LevelFs) (all : List (List LevelFs))
    → list_any (λ third. is_prefix (map seen one) third && is_gt (parting third (map seen other))) (map (map seen) all)
    ≡ list_any (λ third. is_proper fs_cmp fs_cmp-total one third && is_gt (parts fs_cmp third other)) all
third-map one other [] = refl
third-map one other (third ∷ all) = rw (is_prefix-map one third, parting-map third other, third-map one other all) refl

precedes-map : (all : List (List LevelFs)) (one other : List LevelFs)
    → precedes (map (map seen) all) (map seen one) (map seen other) ≡ precedes_by fs_cmp fs_cmp-total all one other
precedes-map all one other = joined _ _ _ _ _ _ (parting-map one other) (is_prefix-map one other) (third-map one other all)
  where
    joined : (a a' : Ordering) (b b' d d' : Bool) → a ≡ a' → b ≡ b' → d ≡ d' → (is_gt a || (b && d)) ≡ (is_gt a' || (b' && d'))
    joined a a' b b' d d' first second third = cc

-- the rank of a path, counted among the code's paths
pub rank_among-map : (all : List (List LevelFs)) (other : List LevelFs)
    → rank_among (map (map seen) all) (map seen other) ≡ length all - count_by (λ one. precedes_by fs_cmp fs_cmp-total all one other) all
unfolding rank_among
rank_among-map all other = rw (length-map all (map seen), counted all) refl
  where
    counted : (some : List (List LevelFs)) → count_by (λ one. precedes (map (map seen) all) one (map seen other)) (map (map seen) some)
        ≡ count_by (λ one. precedes_by fs_cmp fs_cmp-total all one other) some
    counted [] = refl
    counted (one ∷ some) =
        sum_by-cons (λ path. if precedes (map (map seen) all) path (map seen other) then 1 else 0) (map seen one) (map (map seen) some)
        ∙ rw (precedes-map all one other, counted some) refl
        ∙ sym (sum_by-cons (λ path. if precedes_by fs_cmp fs_cmp-total all path other then 1 else 0) one some)
