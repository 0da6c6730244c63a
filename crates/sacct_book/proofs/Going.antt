-- Timelines that go on.
use Rattle.std.proofs.Common.{◌≡◌, ℕ, ◌+◌, ◌*◌, ◌≤◌, List, sum_by, refl, ap, ◌∙◌, arith}
use Rattle.std.proofs.Math.Nat.{mul-add}
use Rattle.sacct_book.specs.declared.window.Window.{Window}
use Rattle.sacct_book.specs.declared.timeline.Stretch.{Stretch}
use Rattle.sacct_book.specs.Times.{GoesOn, Times, share_of, used_in}
use Rattle.sacct_book.specs.Windows.{seconds_in}
use Rattle.sacct_book.proofs.Overlap.{seconds_in-split}

-- what is held goes on
pub goes_on-same : (times : Times) (held moment : ℕ) → times.cpus ≡ held → times.since ≤ moment
    → GoesOn moment held times times
unfolding used_in
goes_on-same times held moment same before = record {
  cpus = same;
  since = before;
  used = λ window now after.
      let split = ap (λ n. times.cpus * n) (seconds_in-split window times.since moment now before after)
      ∙ mul-add times.cpus (seconds_in window times.since moment) (seconds_in window moment now) in
      rw (← same) (omega (arith, split));
}

-- a stretch ends, and another begins
pub goes_on-other : (times : Times) (past : List Stretch) (held moment : ℕ)
    → ((window : Window) → sum_by (share_of window) past
    ≡ sum_by (share_of window) times.past + times.cpus * seconds_in window times.since moment)
    → GoesOn moment held times (record { past = past; cpus = held; since = moment })
unfolding used_in
goes_on-other times past held moment over = record {
  cpus = refl;
  since = omega arith;
  used = λ window now after. omega (arith, over window);
}
