-- What contracts see of a base.
use Rattle.std.specs.Prelude.{ℕ, List}
use Rattle.resource_profile.specs.declared.NodeRoom.{NodeRoom}
use Rattle.resource_profile.specs.declared.Hold.{Hold}

-- the nodes' rooms, the holds on them, and the last second at which a start is tried
pub record BaseView : Type 0 where
  pub rooms : List NodeRoom
  pub holds : List Hold
  pub horizon : ℕ
