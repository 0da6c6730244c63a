-- What the choice of nodes and the profile promise, as the proofs here take it. Of the proof alone.
use Rattle.std.specs.Prelude.{◌≡◌, ℕ, ◌≤◌, List, [], ◌∷◌, ◌++◌, take, Some, None}
use Rattle.resource_profile.specs.declared.NodeRoom.{NodeRoom}
use Rattle.resource_profile.specs.declared.Hold.{Hold}
use Rattle.resource_profile.specs.Profiles.{AreWithin, HasFree}
use Rattle.resource_profile.specs.declared.picking.Need.{Need}
use Rattle.resource_profile.specs.Sets.{capacity, Fits, IsChosen, AsksNoMore}
use Rattle.resource_profile.specs.Choosing.{chosen}

pub record LowerLaws : Type 0 where
  -- the chosen set is the first that fits
  pub some : (caps : List ℕ) (need : Need) (set : List ℕ) → chosen caps need ≡ Some set → IsChosen caps need set
  -- where none is chosen none fits
  pub none : (caps : List ℕ) (need : Need) (set : List ℕ) → chosen caps need ≡ None → ¬ Fits caps need set
  -- one fits where less is asked and more is given
  pub lesser : (caps wider : List ℕ) (need lesser : Need) (set : List ℕ)
      → ((place : ℕ) → capacity caps place ≤ capacity wider place) → AsksNoMore lesser need
      → Fits caps need set → Fits wider lesser (take lesser.tasks set)
  -- what is free can be held
  pub free : (rooms : List NodeRoom) (holds : List Hold) (hold : Hold)
      → AreWithin rooms holds → HasFree rooms holds hold → AreWithin rooms (holds ++ hold ∷ [])
