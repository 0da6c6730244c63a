-- What contracts see of a profile.
use Rattle.std.specs.Prelude.{◌≡◌, ℕ, ◌≤◌, ◌<◌, List, length, All, Any}
use Rattle.resource_profile.specs.declared.NodeRoom.{NodeRoom}
use Rattle.resource_profile.specs.declared.Hold.{Hold}
use Rattle.resource_profile.specs.Free.{room_at, held_cpus, held_mem, free_cpus, free_mem, least_over}

-- the rooms, the holds in some order, and how many holds can be added without taking memory
pub record ProfileView : Type 0 where
  pub rooms : List NodeRoom
  pub holds : List Hold
  pub spare : ℕ

-- each hold is on a node that there is, and begins before its end; at no second do the holds of a node pass its room
pub record AreWithin (rooms : List NodeRoom) (holds : List Hold) : Type 0 where
  pub nodes : All (λ (hold : Hold). hold.node < length rooms) holds
  pub windows : All (λ (hold : Hold). hold.from < hold.until) holds
  pub cpus : (node moment : ℕ) → held_cpus holds node moment ≤ (room_at rooms node).cpus
  pub mem : (node moment : ℕ) → held_mem holds node moment ≤ (room_at rooms node).mem

-- the node is there, the window isn't empty, and so much is free over it
pub record HasFree (rooms : List NodeRoom) (holds : List Hold) (hold : Hold) : Type 0 where
  pub node : hold.node < length rooms
  pub window : hold.from < hold.until
  pub cpus : hold.cpus ≤ least_over (λ moment. free_cpus rooms holds hold.node moment) hold.from hold.until
  pub mem : hold.mem ≤ least_over (λ moment. free_mem rooms holds hold.node moment) hold.from hold.until

-- the least end of a hold that is later than `after`
pub record IsNextEnd (holds : List Hold) (after end : ℕ) : Type 0 where
  pub later : after < end
  pub ends : Any (λ (hold : Hold). hold.until ≡ end) holds
  pub least : All (λ (hold : Hold). after < hold.until → end ≤ hold.until) holds
