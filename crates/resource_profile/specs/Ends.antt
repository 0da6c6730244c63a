-- The ends of the holds: each moment at which some end, once, and how many do.
use Rattle.std.specs.Prelude.{◌≡◌, ℕ, ◌≤◌, ◌<◌, nat_eq, if◌then◌else◌, List, length, sum_by, slice_index_or, All, Any}
use Rattle.resource_profile.specs.declared.ends.End.{End}

-- the ends rise, and some hold ends at each
pub record HasEnds (ends : List End) : Type 0 where
  pub rising : (i j : ℕ) (d : End) → i < j → j < length ends
      → (slice_index_or ends i d).moment < (slice_index_or ends j d).moment
  pub some : All (λ (end : End). 1 ≤ end.count) ends

-- how many holds end at the moment
abbrev pub ends_at : List End → ℕ → ℕ
ends_at ends moment = sum_by (λ (end : End). if nat_eq end.moment moment then end.count else 0) ends

-- the least of the ends that are later than `after`
pub record IsNextOf (ends : List End) (after moment : ℕ) : Type 0 where
  pub later : after < moment
  pub has : Any (λ (end : End). end.moment ≡ moment) ends
  pub least : All (λ (end : End). after < end.moment → moment ≤ end.moment) ends
