-- What users have used, as the history tells it: in seconds of one processor.
use Rattle.std.specs.Prelude.{ℕ, ◌+◌, ◌*◌, unwrap_or, List, [], ◌∷◌, ◌++◌, length, map, sum_by, slice_index, option_map}
use Rattle.std.specs.List.{range_with_len}
use Rattle.run_limits.specs.Accounts.{place_in}
use Rattle.ctl_desk.specs.declared.entry.Entry.{Entry}
use Rattle.ctl_desk.specs.Desk.{state_at}
use Rattle.ctl_desk.specs.History.{History}
use Rattle.sacct_book.specs.declared.window.Window.{Window}
use Rattle.sacct_book.specs.Running.{cpus_run_by}
use Rattle.sacct_book.specs.Windows.{seconds_in}

-- the opening's moment, the entries' moments, and now
abbrev pub moments : History → ℕ → List ℕ
moments h now = h.opening.moment ∷ map (λ (e : Entry). e.moment) h.entries ++ now ∷ []

-- what the association at a place uses in the window from the moment of the last of so many entries to the next moment
abbrev pub used_after : History → ℕ → Window → ℕ → ℕ → ℕ
used_after h place window now count =
    cpus_run_by (state_at h.opening h.entries count).jobs place
    * seconds_in window (slice_index (moments h now) count) (slice_index (moments h now) (count + 1))

-- what it has used in the window until now: from each moment to the next
unfoldable pub used_at : History → ℕ → Window → ℕ → ℕ
used_at h place window now = sum_by (used_after h place window now) (range_with_len 0 (length h.entries + 1))

-- what a user has used of an account: nothing where he has no association of it
unfoldable pub used : History → List ℕ → List ℕ → Window → ℕ → ℕ
used h user account window now =
    unwrap_or (option_map (λ place. used_at h place window now) (place_in h.opening.assocs user account)) 0
