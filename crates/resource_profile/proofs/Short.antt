-- A window that meets a level that says too little.
use Rattle.std.proofs.Common.{◌≡◌, ◌⊎◌, ℕ, ◌+◌, ◌-◌, ◌≤◌, ◌<◌, List, length, get_or, arith, ap, ◌∙◌, inl, inr}
use Rattle.std.proofs.lemmas.Bool.{cases_lt}
use Rattle.resource_profile.specs.declared.levels.Amount.{Amount}
use Rattle.resource_profile.specs.declared.levels.Level.{Level}
use Rattle.resource_profile.specs.Free.{least_over}
use Rattle.resource_profile.specs.Levels.{IsLevelled}
use Rattle.resource_profile.specs.Windows.{IsFull, IsShort}
use Rattle.resource_profile.proofs.Least.{least_over-le}

abbrev IsLess : Amount → Amount → Type 0
IsLess free amount = (free.cpus < amount.cpus) ⊎ (free.mem < amount.mem)

-- what is free at a moment of the window is too little
less-here : (free : ℕ → Amount) (said amount : Amount) (begin end moment : ℕ) → begin ≤ moment → moment < end → said ≡ free moment → IsLess said amount
    → (least_over (λ m. (free m).cpus) begin end < amount.cpus) ⊎ (least_over (λ m. (free m).mem) begin end < amount.mem)
less-here free said amount begin end moment low high is less = elim less [
  | inl cpus ↦
      let few : said.cpus < amount.cpus = cpus in
      inl (omega (arith, least_over-le (λ m. (free m).cpus) begin end moment low high, ap (λ (a : Amount). a.cpus) is, few))
  | inr mem ↦
      let few : said.mem < amount.mem = mem in
      inr (omega (arith, least_over-le (λ m. (free m).mem) begin end moment low high, ap (λ (a : Amount). a.mem) is, few))
]

-- the level before the place says it, and ends at the bound
pub short-window : (free : ℕ → Amount) (levels : List Level) (amount : Amount) (from until place bound : ℕ) (read : Level) → IsLevelled free levels → 0 < place → place ≤ length levels → read ≡ get_or levels (place - 1) read → read.from < until
    → ((d : Level) → place < length levels → bound ≡ (get_or levels place d).from) → from < bound → IsLess read.free amount → IsShort free amount from until bound
short-window free levels amount from until place bound read levelled some within is early ends later less =
    let at = place - 1 in
    let e : at + 1 ≡ place = omega (arith, some) in
    let inside : at < length levels = omega (arith, some, within) in
    let from_is : read.from ≡ (get_or levels at read).from = ap (λ (l : Level). l.from) is in
    let free_is : read.free ≡ (get_or levels at read).free = ap (λ (l : Level). l.free) is in
    record {
      later = later;
      less = λ begin end low high end_low window. elim (cases_lt begin read.from) [
        | inl before ↦
            let says = levelled.said at read.from read inside (omega (arith, from_is)) (λ next. omega (arith, from_is, levelled.shape.rising at (at + 1) read (omega arith) next)) in
            less-here free read.free amount begin end read.from (omega (arith, before)) (omega (arith, early, end_low)) (free_is ∙ says) less
        | inr begun ↦
            let says = levelled.said at begin read inside (omega (arith, from_is, begun)) (rw e (λ next. omega (arith, ends read next, high))) in
            less-here free read.free amount begin end begin (omega arith) window (free_is ∙ says) less
      ];
    }

-- a window that crosses moments at which no processor is free
pub full-window : (free : ℕ → Amount) (from until first last : ℕ) → IsFull free first last → from < last → first < until → first < last → IsShort free (record { cpus = 1; mem = 0 }) from until last
full-window free from until first last full later early order = record {
  later = later;
  less = λ begin end low high end_low window. elim (cases_lt begin first) [
    | inl before ↦ inl (omega (arith, least_over-le (λ m. (free m).cpus) begin end first (omega (arith, before)) (omega (arith, early, end_low)), full first (omega arith) order))
    | inr begun ↦ inl (omega (arith, least_over-le (λ m. (free m).cpus) begin end begin (omega arith) window, full begin (omega (arith, begun)) high))
  ];
}
