-- What of a node is free in two profiles.
use Rattle.std.specs.Prelude.{◌≡◌, ℕ, ◌≤◌, ◌<◌}
use Rattle.resource_profile.specs.Profiles.{ProfileView}
use Rattle.resource_profile.specs.Free.{free_cpus, free_mem}

-- as much of the node is free in both at each second from `now` on and before `until`
pub record IsAsFree (old new : ProfileView) (now node until : ℕ) : Type 0 where
  pub cpus : (second : ℕ) → now ≤ second → second < until
      → free_cpus new.rooms new.holds node second ≡ free_cpus old.rooms old.holds node second
  pub mem : (second : ℕ) → now ≤ second → second < until
      → free_mem new.rooms new.holds node second ≡ free_mem old.rooms old.holds node second

-- no more of the node is free in the new one at each second from `now` on and before `until`
pub record HasNoMore (old new : ProfileView) (now node until : ℕ) : Type 0 where
  pub cpus : (second : ℕ) → now ≤ second → second < until
      → free_cpus new.rooms new.holds node second ≤ free_cpus old.rooms old.holds node second
  pub mem : (second : ℕ) → now ≤ second → second < until
      → free_mem new.rooms new.holds node second ≤ free_mem old.rooms old.holds node second
