-- How many seconds of a stretch of time lie in a window.
use Rattle.std.proofs.Common.{◌≡◌, ℕ, zero, suc, ◌+◌, ◌-◌, ◌≤◌, max, min, cond, arith}
use Rattle.std.specs.Prelude.{count_by}
use Rattle.std.specs.List.{range_with_len}
use Rattle.std.proofs.lemmas.Bool.Decides.{nat_tests}
use Rattle.std.proofs.lemmas.List.Sums.{sum_by-cons}
use Rattle.sacct_book.specs.declared.window.Window.{Window}
use Rattle.sacct_book.specs.Windows.{is_in, seconds_in}

counted : (window : Window) (from seconds : ℕ)
    → count_by (is_in window) (range_with_len from seconds)
    ≡ min (from + seconds) window.until - max from window.from
counted window from zero = omega arith
counted window from (suc seconds) =
    grind (
      arith,
      nat_tests,
      counted window (from + 1) seconds,
      sum_by-cons (λ second. cond (is_in window second) 1 0) from (range_with_len (from + 1) seconds),
    )

-- they begin and end with the later beginning and the earlier end
pub seconds_in-overlap : (window : Window) (from until : ℕ)
    → seconds_in window from until ≡ min until window.until - max from window.from
unfolding seconds_in
seconds_in-overlap window from until = omega (arith, counted window from (until - from))

-- the seconds until a moment and those from it on
pub seconds_in-split : (window : Window) (since moment now : ℕ) → since ≤ moment → moment ≤ now
    → seconds_in window since now ≡ seconds_in window since moment + seconds_in window moment now
seconds_in-split window since moment now before after =
    omega (
      arith,
      seconds_in-overlap window since now,
      seconds_in-overlap window since moment,
      seconds_in-overlap window moment now,
    )

-- there are no more of them than seconds
pub seconds_in-few : (window : Window) (from until : ℕ) → seconds_in window from until ≤ until - from
seconds_in-few window from until = omega (arith, seconds_in-overlap window from until)
