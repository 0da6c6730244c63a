-- What the choice of nodes promises, as the proofs here take it. Of the proof alone.
use Rattle.std.specs.Prelude.{◌≡◌, ℕ, List, Some, None}
use Rattle.resource_profile.specs.declared.picking.Need.{Need}
use Rattle.resource_profile.specs.Sets.{Fits}
use Rattle.resource_profile.specs.Choosing.{chosen}

pub record PickLaws : Type 0 where
  pub some : (caps : List ℕ) (need : Need) (set : List ℕ) → chosen caps need ≡ Some set → Fits caps need set
  pub none : (caps : List ℕ) (need : Need) (set : List ℕ) → chosen caps need ≡ None → ¬ Fits caps need set
