-- The use by hour, job by job.
use Rattle.std.proofs.Common.{◌≡◌, ℕ, zero, ◌+◌, ◌-◌, ◌/◌, ◌<◌, ◌≤◌, ◌^◌, min, max, List, [], ◌∷◌, ◌++◌, length, get_or, set, replicate, take, sum_by, refl, ap, ◌∙◌, arith, inl, inr}
use Rattle.std.proofs.Math.ListN.{length-set}
use Rattle.std.proofs.Math.Nat.{mul-zero}
use Rattle.std.proofs.lemmas.Bool.{cases_lt}
use Rattle.std.proofs.lemmas.List.{get_or-set_same, get_or-set_other}
use Rattle.std.proofs.lemmas.List.{take_more}
use Rattle.std.proofs.lemmas.List.Sums.{sum_by_push}
use Rattle.replay_report.specs.Hours.{CountsHours, hour_at, used_in}
use Rattle.replay_report.specs.Numbers.{stopped}
use Rattle.replay_report.specs.Spans.{used_between}
use Rattle.replay_report.specs.declared.spans.Span.{Span}

none_within : (from until start end : ℕ) → (until ≤ start) → min end until - max start from ≡ 0
none_within from until start end before = omega arith

none_behind : (from until start end : ℕ) → (end ≤ from) → min end until - max start from ≡ 0
none_behind from until start end behind = omega arith

used_nothing : (from until : ℕ) (span : Span) → min span.end until - max span.start from ≡ 0 → used_between from until span ≡ 0
used_nothing from until span none = rw (none, mul-zero) refl

-- an hour in which a job hasn't started
pub used_before : (first hour : ℕ) (span : Span) → hour < (span.start - first) / 3600 → used_in first hour span ≡ 0
unfolding used_in
used_before first hour span early =
    used_nothing (hour_at first hour) (hour_at first (hour + 1)) span
    (none_within (hour_at first hour) (hour_at first (hour + 1)) span.start span.end (omega arith))

-- an hour before which it has ended
pub used_behind : (first hour : ℕ) (span : Span) → span.end < 2 ^ 64 → (span.end - first) / 3600 < hour → used_in first hour span ≡ 0
unfolding used_in
used_behind first hour span fits late =
    used_nothing (hour_at first hour) (hour_at first (hour + 1)) span
    (none_behind (hour_at first hour) (hour_at first (hour + 1)) span.start span.end (omega arith))

-- the hours as a job has been added to those below one
pub record IsAdding (first : ℕ) (span : Span) (low hour : ℕ) (old now : List ℕ) : Type 0 where
  pub len : length now ≡ length old
  pub before : (k : ℕ) → k < low → get_or now k 0 ≡ get_or old k 0
  pub done : (k : ℕ) → low ≤ k → k < hour → get_or now k 0 ≡ stopped (get_or old k 0 + used_in first k span)
  pub behind : (k : ℕ) → hour ≤ k → get_or now k 0 ≡ get_or old k 0

pub adding_none : (first : ℕ) (span : Span) (low : ℕ) (old : List ℕ) → IsAdding first span low low old old
adding_none first span low old = record {
  len = refl;
  before = λ k small. refl;
  done = λ k from below. absurd (omega arith);
  behind = λ k from. refl;
}

-- one hour more
pub adding_more : (first : ℕ) (span : Span) (low hour : ℕ) (old now next : List ℕ) (value : ℕ)
    → low ≤ hour → hour < length now → value ≡ stopped (get_or now hour 0 + used_in first hour span) → next ≡ set now hour value
    → IsAdding first span low hour old now → IsAdding first span low (hour + 1) old next
adding_more first span low hour old now next value from within value_is next_is adding = record {
  len = ap length next_is ∙ length-set now hour value ∙ adding.len;
  before = λ k small.
      let other : k ≡ hour → ⊥ = λ e. absurd (omega arith) in
      ap (λ xs. get_or xs k 0) next_is ∙ get_or-set_other now hour k value 0 other ∙ adding.before k small;
  done = λ k least below. elim (cases_lt k hour) [
    | inl small ↦
        let other : k ≡ hour → ⊥ = λ e. absurd (omega arith) in
        ap (λ xs. get_or xs k 0) next_is ∙ get_or-set_other now hour k value 0 other ∙ adding.done k least small
    | inr great ↦
        let same : k ≡ hour = omega arith in
        rw (next_is, same, get_or-set_same now hour value 0 within, value_is, adding.behind hour (omega arith)) refl
  ];
  behind = λ k behind.
      let other : k ≡ hour → ⊥ = λ e. absurd (omega arith) in
      ap (λ xs. get_or xs k 0) next_is ∙ get_or-set_other now hour k value 0 other ∙ adding.behind k (omega arith);
}

added : (now old s u whole : ℕ) → now ≡ stopped (old + u) → old ≡ stopped s → whole ≡ s + u → now ≡ stopped whole
added now old s u whole now_is old_is whole_is = omega arith

kept : (now old s u whole : ℕ) → now ≡ old → old ≡ stopped s → whole ≡ s + u → u ≡ 0 → now ≡ stopped whole
kept now old s u whole now_is old_is whole_is none = omega arith

-- all hours, behind the last one in which the job ran
pub adding_all : (first : ℕ) (span : Span) (low high hour : ℕ) (old now : List ℕ) (before : List Span)
    → low ≡ (span.start - first) / 3600 → high ≡ (span.end - first) / 3600 → min (stopped (high + 1)) (length old) ≤ hour
    → span.end < 2 ^ 64 → IsAdding first span low hour old now
    → CountsHours first before old → CountsHours first (before ++ span ∷ []) now
adding_all first span low high hour old now before low_is high_is all fits adding counts = λ k within.
    let there : k < length old = omega (arith, adding.len) in
    let whole = sum_by_push (used_in first k) before span in
    elim (cases_lt k low) [
      | inl small ↦ kept _ _ _ _ _ (adding.before k small) (counts k there) whole (used_before first k span (rw low_is at small))
      | inr from ↦ elim (cases_lt k hour) [
        | inl below ↦ added _ _ _ _ _ (adding.done k from below) (counts k there) whole
        | inr behind ↦ kept _ _ _ _ _ (adding.behind k behind) (counts k there) whole
            (used_behind first k span fits (let late : high < k = omega arith in rw high_is at late))
      ]
    ]

pub counts_more : (first : ℕ) (spans : List Span) (i : ℕ) (span : Span) (hours : List ℕ) → i < length spans
    → CountsHours first (take i spans ++ get_or spans i span ∷ []) hours → CountsHours first (take (i + 1) spans) hours
counts_more first spans i span hours within counts = rw (take_more spans i span within) counts
