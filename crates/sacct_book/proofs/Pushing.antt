-- What one more entry adds to what was used.
use Rattle.std.proofs.Common.{◌≡◌, ℕ, suc, ◌+◌, ◌*◌, ◌<◌, List, [], ◌∷◌, ◌++◌, length, take, sum_by, get_or, ap, ◌∙◌, arith, length-append}
use Rattle.std.specs.List.{range_with_len}
use Rattle.std.proofs.lemmas.List.{take-append-le, take_all}
use Rattle.std.proofs.lemmas.List.Sums.{sum_by-cons}
use Rattle.ctl_state.specs.State.{State}
use Rattle.ctl_desk.specs.declared.entry.Entry.{Entry}
use Rattle.ctl_desk.specs.History.{History, after_all}
use Rattle.sacct_book.specs.declared.window.Window.{Window}
use Rattle.sacct_book.specs.Running.{cpus_run_by}
use Rattle.sacct_book.specs.Windows.{seconds_in}
use Rattle.sacct_book.specs.Used.{moments, used_after, used_at}
use Rattle.sacct_book.proofs.Ranges.{moments-last, moments-now, moments-same, range-more, range-same}

-- before the first entry
pub used_at-none : (opening : State) (place : ℕ) (window : Window) (now : ℕ)
    → used_at (record { opening = opening; entries = [] }) place window now
    ≡ cpus_run_by opening.jobs place * seconds_in window opening.moment now
unfolding used_at
used_at-none opening place window now =
    omega (arith, sum_by-cons (used_after (record { opening = opening; entries = [] }) place window now) 0 [])

pub used_at-push : (opening : State) (es : List Entry) (e : Entry) (place : ℕ) (window : Window) (now : ℕ)
    → used_at (record { opening = opening; entries = es ++ e ∷ [] }) place window now
    ≡ used_at (record { opening = opening; entries = es }) place window e.moment
    + cpus_run_by (after_all opening (es ++ e ∷ [])).jobs place * seconds_in window e.moment now
unfolding used_at
used_at-push opening es e place window now =
    let h : History = record { opening = opening; entries = es } in
    let h' : History = record { opening = opening; entries = es ++ e ∷ [] } in
    let moment : Entry → ℕ = λ (one : Entry). one.moment in
    let used : List Entry → ℕ → ℕ → ℕ =
    λ entries from until. cpus_run_by (after_all opening entries).jobs place * seconds_in window from until in
    let all : length (es ++ e ∷ []) + 1 ≡ suc (length es + 1) = omega (arith, length-append es (e ∷ [])) in
    let whole : take (suc (length es)) (es ++ e ∷ []) ≡ es ++ e ∷ [] =
    take_all (suc (length es)) (es ++ e ∷ []) (omega (arith, length-append es (e ∷ []))) in
    let next : suc (length es) + 1 ≡ suc (suc (length es)) = omega arith in
    let last : used_after h' place window now (suc (length es))
    ≡ cpus_run_by (after_all opening (es ++ e ∷ [])).jobs place * seconds_in window e.moment now =
    ap (λ l. used l (get_or (moments h' now) (suc (length es)) 0) (get_or (moments h' now) (suc (length es) + 1) 0)) whole
    ∙ ap (λ from. used (es ++ e ∷ []) from (get_or (moments h' now) (suc (length es) + 1) 0))
    (moments-last moment opening.moment es e now)
    ∙ ap (λ i. used (es ++ e ∷ []) e.moment (get_or (moments h' now) i 0)) next
    ∙ ap (used (es ++ e ∷ []) e.moment) (moments-now moment opening.moment es e now) in
    let same : (k : ℕ) → k < 0 + (length es + 1)
    → used_after h' place window now k ≡ used_after h place window e.moment k =
    λ k below.
    ap (λ l. used l (get_or (moments h' now) k 0) (get_or (moments h' now) (k + 1) 0))
    (take-append-le k es (e ∷ []) (omega (arith, below)))
    ∙ ap (λ from. used (take k es) from (get_or (moments h' now) (k + 1) 0))
    (moments-same moment opening.moment es e now k (omega (arith, below)))
    ∙ ap (used (take k es) (get_or (moments h e.moment) k 0))
    (moments-same moment opening.moment es e now (k + 1) (omega (arith, below))) in
    let end : 0 + (length es + 1) ≡ suc (length es) = omega arith in
    omega (
      arith,
      ap (λ n. sum_by (used_after h' place window now) (range_with_len 0 n)) all,
      range-more (used_after h' place window now) 0 (length es + 1),
      ap (used_after h' place window now) end,
      last,
      range-same (used_after h' place window now) (used_after h place window e.moment) 0 (length es + 1) same,
    )
