-- The least over a window.
use Rattle.std.proofs.Common.{◌≡◌, ℕ, ◌+◌, ◌-◌, ◌≤◌, ◌<◌, zero, suc, arith, refl, inl, inr}
use Rattle.std.proofs.lemmas.Bool.{cases_lt, cases_eq}
use Rattle.resource_profile.specs.Free.{least_after, least_over}

least_after-le : (free : ℕ → ℕ) (from more moment : ℕ) → from ≤ moment → moment ≤ from + more → least_after free from more ≤ free moment
unfolding least_after
least_after-le free from zero moment low high =
    let e : moment ≡ from = omega arith in rw e (omega arith)
least_after-le free from (suc more) moment low high = elim (cases_eq moment from) [
  | inl e ↦ let same : moment ≡ from = e in rw same (omega arith)
  | inr apart ↦ let rest = least_after-le free (from + 1) more moment (omega arith) (omega arith) in omega (arith, rest)
]

least_after-reached : (free : ℕ → ℕ) (from more : ℕ) → (moment : ℕ) × (from ≤ moment) × (moment ≤ from + more) × (free moment ≡ least_after free from more)
unfolding least_after
least_after-reached free from zero = (from, omega arith, omega arith, refl)
least_after-reached free from (suc more) =
    let rest = least_after-reached free (from + 1) more in
    elim (cases_lt (least_after free (from + 1) more) (free from)) [
      | inl below ↦ (rest.0, omega (arith, rest.1), omega (arith, rest.2), omega (arith, rest.3, below))
      | inr above ↦ (from, omega arith, omega arith, omega (arith, above))
    ]

-- it is at most what is free at any second of the window
pub least_over-le : (free : ℕ → ℕ) (from until moment : ℕ) → from ≤ moment → moment < until → least_over free from until ≤ free moment
least_over-le free from until moment low high = least_after-le free from (until - from - 1) moment low (omega arith)

-- and so much is free at some second
pub least_over-reached : (free : ℕ → ℕ) (from until : ℕ) → from < until → (moment : ℕ) × (from ≤ moment) × (moment < until) × (free moment ≡ least_over free from until)
least_over-reached free from until window =
    let at = least_after-reached free from (until - from - 1) in
    (at.0, at.1, omega (arith, at.2), at.3)

-- so a number that is at most what is free at each second, and is free at one, is the least
pub least_over-is : (free : ℕ → ℕ) (from until least moment : ℕ) → ((other : ℕ) → from ≤ other → other < until → least ≤ free other) → from ≤ moment → moment < until → free moment ≡ least → least ≡ least_over free from until
least_over-is free from until least moment lower low high reached =
    let at = least_over-reached free from until (omega arith) in
    omega (arith, reached, least_over-le free from until moment low high, lower at.0 at.1 at.2, at.3)

-- what is free matters, and not how it is said
pub least_over-same : (free other : ℕ → ℕ) (from until : ℕ) → from < until → ((moment : ℕ) → free moment ≡ other moment) → least_over free from until ≡ least_over other from until
least_over-same free other from until window same =
    let at = least_over-reached free from until window in
    least_over-is other from until (least_over free from until) at.0
    (λ moment low high. omega (arith, least_over-le free from until moment low high, same moment))
    at.1 at.2 (omega (arith, at.3, same at.0))
