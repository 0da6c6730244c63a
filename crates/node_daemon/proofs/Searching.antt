-- A binary search among starts in order finds those that stand there, and no others.
use Rattle.std.proofs.Common.{ℕ, ◌≡◌, ◌≤◌, Ordering, Less, Equal, Greater, true, false, List, length, get_or, Result, Ok, Err, is_ok, sym, arith, inl, inr}
use Rattle.std.specs.List.Sorted.{IsBinarySearchResult, IsNonDecreasingBy, IsSearchInRange}
use Rattle.std.specs.Ordering.{nat_cmp, ordering_index, ordering_then}
use Rattle.std.proofs.lemmas.Bool.{cases_lt}
use Rattle.std.proofs.lemmas.Bool.Decides.{nat_tests}
use Rattle.std.proofs.lemmas.List.Folds.{list_any_at, list_any_none}
use Rattle.request_data.specs.declared.report.Start.{Start}
use Rattle.reply_data.specs.Starts.{is_before, InOrder}
use Rattle.node_daemon.specs.Daemon.{is_among, is_same}

-- the order of the starts
abbrev by_job : Start → Start → Ordering
by_job one other = ordering_then (nat_cmp one.id other.id) (nat_cmp one.number other.number)

rises : (one other start : Start) → is_before one other ≡ true
    → ordering_index (by_job one start) ≤ ordering_index (by_job other start)
rises one other start before = grind (arith, nat_tests)

same : (one other : Start) → by_job one other ≡ Equal → is_same one other ≡ true
same one other e = grind (arith, nat_tests)

lower : (one other : Start) → by_job one other ≡ Less → is_same one other ≡ false
lower one other e = grind (arith, nat_tests)

higher : (one other : Start) → by_job one other ≡ Greater → is_same one other ≡ false
higher one other e = grind (arith, nat_tests)

-- the comparisons with a start rise along starts in order
searchable : (starts : List Start) (start : Start) → InOrder starts
    → IsNonDecreasingBy (λ one. ordering_index (by_job one start)) starts
searchable starts start order i j d up within =
    elim (cases_lt i j) [
      | inl before ↦ rises (get_or starts i d) (get_or starts j d) start (order i j d before within)
      | inr behind ↦ let there : i ≡ j = omega arith in rw there (omega arith)
    ]

pub searched : (starts : List Start) (start : Start) (found : Result ℕ ℕ) → InOrder starts
    → IsSearchInRange found (length starts) → IsBinarySearchResult (λ one. by_job one start) starts found
    → is_ok found ≡ is_among starts start
searched starts start (Ok at) order within equal =
    sym (list_any_at (λ one. is_same one start) starts at start within
    (same (get_or starts at start) start (equal start)))
searched starts start (Err at) order within parted =
    let parts = parted (searchable starts start order) in
    sym (list_any_none (λ one. is_same one start) starts (λ k d below. elim (cases_lt k at) [
      | inl before ↦ lower (get_or starts k d) start (parts.0 k d (omega arith) before)
      | inr behind ↦ higher (get_or starts k d) start (parts.1 k d behind below)
    ]))
