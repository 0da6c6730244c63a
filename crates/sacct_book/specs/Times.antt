-- What the running jobs of an association held from moment to moment, and what of it lies in a window of time.
use Rattle.std.specs.Prelude.{◌≡◌, ℕ, ◌+◌, ◌*◌, ◌≤◌, ◌<◌, List, [], sum_by, vec_len, vec_capacity}
use Rattle.sacct_book.specs.declared.window.Window.{Window}
use Rattle.sacct_book.specs.declared.timeline.Stretch.{Stretch}
use Rattle.sacct_book.specs.declared.timeline.Timeline.{Timeline}
use Rattle.sacct_book.specs.Windows.{seconds_in}

-- A timeline: the stretches of time that are over, and how many processors are held since when in the one that isn't.
pub record Times : Type 0 where
  pub past : List Stretch
  pub cpus : ℕ
  pub since : ℕ

abbrev pub times_of : Timeline → Times
times_of timeline = record { past = timeline.past.items; cpus = timeline.cpus; since = timeline.since }

-- one that begins
abbrev pub begun : ℕ → ℕ → Times
begun moment cpus = record { past = []; cpus = cpus; since = moment }

-- what was held in a stretch, for each of its seconds in the window
abbrev pub share_of : Window → Stretch → ℕ
share_of window stretch = stretch.cpus * seconds_in window stretch.from stretch.until

-- what was held in the window until a moment, for each of its seconds
unfoldable pub used_in : Times → Window → ℕ → ℕ
used_in times window now = sum_by (share_of window) times.past + times.cpus * seconds_in window times.since now

-- From a moment on so many processors are held; until then it is as it was.
pub record GoesOn (moment held : ℕ) (times times' : Times) : Type 0 where
  pub cpus : times'.cpus ≡ held
  pub since : times'.since ≤ moment
  pub used : (window : Window) (now : ℕ) → moment ≤ now
      → used_in times' window now ≡ used_in times window moment + held * seconds_in window moment now

-- there is room for one more stretch
abbrev pub HasRoom : Timeline → Type 0
HasRoom timeline = vec_len timeline.past < vec_capacity timeline.past
