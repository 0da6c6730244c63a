-- A step of the controller that leaves a node's side as it is: another state, which takes nothing from the node while
-- it is up, and hears no report of it. The node may be at another place then, may be there no longer, or come back.
use Rattle.std.specs.Prelude.{◌≡◌, ◌⊎◌, ℕ, true, List, Some, None}
use Rattle.node_state.specs.Nodes.{place_named}
use Rattle.ctl_state.specs.Planning.{is_at}
use Rattle.ctl_state.specs.Soundness.{is_up_at}
use Rattle.ctl_state.specs.State.{State}
use Rattle.ctl_node_side.specs.Reporting.{heard_of}
use Rattle.daemon_world.specs.Claims.{Claim, IsHeldAt}
use Rattle.daemon_world.specs.Together.{IsNoneGone, is_emptied, kept_of}

-- the node was up, and what was held at its place still is, at the place where it is now
pub record WasUp (s s' : State) (node : List ℕ) (now : ℕ) : Type 0 where
  pub place : ℕ
  pub there : place_named node s.nodes ≡ Some place
  pub up : is_up_at s.nodes place ≡ true
  pub held : (claim : Claim) → IsHeldAt s.jobs place claim → IsHeldAt s'.jobs now claim

-- it was there, and told that nothing runs since it was set down
pub record WasEmptied (s : State) (node : List ℕ) : Type 0 where
  pub place : ℕ
  pub there : place_named node s.nodes ≡ Some place
  pub emptied : is_at is_emptied s.nodes place ≡ true

-- what was held of the node still is; or nothing can run there, since it was never heard, or was emptied
abbrev pub StaysHeld : State → State → List ℕ → ℕ → Type 0
StaysHeld s s' node now = WasUp s s' node now ⊎ ((kept_of s node ≡ None) ⊎ WasEmptied s node)

pub record LeavesNode (s s' : State) (node : List ℕ) : Type 0 where
  pub apart : IsNoneGone s node → IsNoneGone s' node
  pub kept : kept_of s' node ≡ kept_of s node
  pub held : (now : ℕ) → place_named node s'.nodes ≡ Some now → is_up_at s'.nodes now ≡ true → StaysHeld s s' node now
  pub emptied : (now : ℕ) → place_named node s'.nodes ≡ Some now → is_at is_emptied s'.nodes now ≡ true
      → WasEmptied s node

-- Most steps leave the node its place: what was held there still is, or nothing can run there.
abbrev pub StaysAt : State → State → ℕ → Type 0
StaysAt s s' place =
    ((is_up_at s.nodes place ≡ true) × ((claim : Claim) → IsHeldAt s.jobs place claim → IsHeldAt s'.jobs place claim))
    ⊎ ((heard_of s.nodes place ≡ None) ⊎ (is_at is_emptied s.nodes place ≡ true))

pub record LeavesPlace (s s' : State) (node : List ℕ) : Type 0 where
  pub place : place_named node s'.nodes ≡ place_named node s.nodes
  pub dropped : s'.dropped ≡ s.dropped
  pub heard : (place : ℕ) → place_named node s.nodes ≡ Some place → heard_of s'.nodes place ≡ heard_of s.nodes place
  pub held : (place : ℕ) → place_named node s.nodes ≡ Some place → is_up_at s'.nodes place ≡ true → StaysAt s s' place
  pub emptied : (place : ℕ) → place_named node s.nodes ≡ Some place → is_at is_emptied s'.nodes place ≡ true
      → is_at is_emptied s.nodes place ≡ true
