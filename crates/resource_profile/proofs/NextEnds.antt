-- The next of the ends is the next end of a hold.
use Rattle.std.proofs.Common.{◌≡◌, ℕ, ◌≤◌, List, All, get_or, ap, ◌∙◌}
use Rattle.std.proofs.lemmas.List.{get_or_default}
use Rattle.resource_profile.specs.declared.Hold.{Hold}
use Rattle.resource_profile.specs.declared.ends.End.{End}
use Rattle.resource_profile.specs.Profiles.{IsNextEnd}
use Rattle.resource_profile.specs.Ends.{HasEnds, IsNextOf, ends_at}
use Rattle.resource_profile.specs.Timelines.{holds_until}
use Rattle.resource_profile.proofs.Keeping.{end-of-hold, hold-of-end}

pub next-some : (holds : List Hold) (ends : List End) (after moment : ℕ) → HasEnds ends → ((moment : ℕ) → holds_until holds moment ≡ ends_at ends moment) → IsNextOf ends after moment → IsNextEnd holds after moment
next-some holds ends after moment has same is =
    let (place, end, inside, there, at_it) = is.has in
    let one = hold-of-end holds ends has same place end inside in
    let none : Hold = record { node = 0; from = 0; until = 0; cpus = 0; mem = 0 } in
    let hold = get_or holds one.place none in
    let until : hold.until ≡ moment = one.is none ∙ ap (λ (other : End). other.moment) there ∙ at_it in
    let no_end : End = record { moment = 0; count = 0 } in
    record {
      later = is.later;
      ends = (one.place, hold, one.inside, get_or_default holds one.place hold none one.inside, until);
      least = λ k d inside later.
          let found = end-of-hold holds ends same k d inside in
          rw (found.is no_end) at (is.least found.place no_end found.inside) later;
    }

pub next-none : (holds : List Hold) (ends : List End) (after : ℕ) → ((moment : ℕ) → holds_until holds moment ≡ ends_at ends moment) → All (λ (end : End). end.moment ≤ after) ends → All (λ (hold : Hold). hold.until ≤ after) holds
next-none holds ends after same none k d inside =
    let no_end : End = record { moment = 0; count = 0 } in
    let found = end-of-hold holds ends same k d inside in
    rw (found.is no_end) at (none found.place no_end found.inside)
