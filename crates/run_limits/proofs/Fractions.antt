-- Fractions compared over a common denominator.
use Rattle.std.proofs.Common.{◌≡◌, ℕ, ◌*◌, ◌<◌, refl, sym, ap, ◌∙◌, inl, inr, arith}
use Rattle.std.specs.Ordering.{nat_cmp}
use Rattle.std.specs.declared.cmp.Ordering.TheVariants.{Less, Equal, Greater}
use Rattle.std.proofs.lemmas.Bool.{cases_order, lt-ltb, le-ltb, eq-eqb, ne_eqb}

less : (x y : ℕ) → x < y → nat_cmp x y ≡ Less
less x y lt = rw (lt-ltb x y lt) refl

equal : (x y : ℕ) → x ≡ y → nat_cmp x y ≡ Equal
equal x y e = rw (le-ltb x y (omega (arith, e)), eq-eqb x y e) refl

greater : (x y : ℕ) → y < x → nat_cmp x y ≡ Greater
greater x y lt = rw (le-ltb x y (omega (arith, lt)), ne_eqb x y (λ e. absurd (omega (arith, e, lt)))) refl

less-lt : (x y : ℕ) → nat_cmp x y ≡ Less → x < y
less-lt x y e = elim (cases_order x y) [
  | inl same ↦ absurd (cc (equal x y same, e))
  | inr apart ↦ elim apart [ inl lt ↦ lt | inr gt ↦ absurd (cc (greater x y gt, e)) ]
]

equal-eq : (x y : ℕ) → nat_cmp x y ≡ Equal → x ≡ y
equal-eq x y e = elim (cases_order x y) [
  | inl same ↦ same
  | inr apart ↦ elim apart [ inl lt ↦ absurd (cc (less x y lt, e)) | inr gt ↦ absurd (cc (greater x y gt, e)) ]
]

mul-lt : (x y k : ℕ) → 0 < k → x < y → x * k < y * k
mul-lt x y k pos lt = grind arith

scaled : (x y k : ℕ) → 0 < k → nat_cmp (x * k) (y * k) ≡ nat_cmp x y
scaled x y k pos = elim (cases_order x y) [
  | inl same ↦ equal _ _ (ap (λ n. n * k) same) ∙ sym (equal x y same)
  | inr apart ↦ elim apart [
    | inl lt ↦ less _ _ (mul-lt x y k pos lt) ∙ sym (less x y lt)
    | inr gt ↦ greater _ _ (mul-lt y x k pos gt) ∙ sym (greater x y gt)
  ]
]

pub fraction-congr : (an ad bn bd cn cd : ℕ) → 0 < ad → 0 < bd → nat_cmp (an * bd) (bn * ad) ≡ Equal
    → nat_cmp (an * cd) (cn * ad) ≡ nat_cmp (bn * cd) (cn * bd)
fraction-congr an ad bn bd cn cd a_pos b_pos e =
    let same : an * bd ≡ bn * ad = equal-eq (an * bd) (bn * ad) e in
    let left : an * cd * bd ≡ bn * cd * ad = omega (arith, ap (λ n. n * cd) same) in
    let right : cn * ad * bd ≡ cn * bd * ad = omega arith in
    sym (scaled (an * cd) (cn * ad) bd b_pos) ∙ rw (left, right) (scaled (bn * cd) (cn * bd) ad a_pos)

pub fraction-trans : (an ad bn bd cn cd : ℕ) → 0 < ad → 0 < bd → 0 < cd → nat_cmp (an * bd) (bn * ad) ≡ Less
    → nat_cmp (bn * cd) (cn * bd) ≡ Less → nat_cmp (an * cd) (cn * ad) ≡ Less
fraction-trans an ad bn bd cn cd a_pos b_pos c_pos first second =
    let low = mul-lt (an * bd) (bn * ad) cd c_pos (less-lt (an * bd) (bn * ad) first) in
    let high = mul-lt (bn * cd) (cn * bd) ad a_pos (less-lt (bn * cd) (cn * bd) second) in
    sym (scaled (an * cd) (cn * ad) bd b_pos) ∙ less (an * cd * bd) (cn * ad * bd) (omega (arith, low, high))
