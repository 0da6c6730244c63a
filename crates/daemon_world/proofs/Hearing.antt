-- What a report makes of the nodes: of the one that reports, and of the others.
use Rattle.std.proofs.Common.{ℕ, zero, suc, ◌≡◌, ◌<◌, Bool, true, false, ◌&&◌, ◌||◌, List, [], ◌∷◌, length, Some, slice_get, refl, ap, arith, inl, inr, ◌⊎◌}
use Rattle.std.proofs.lemmas.Bool.{and_parts, both_ways, or_cases}
use Rattle.request_data.specs.declared.report.Heard.{Heard}
use Rattle.node_state.specs.declared.record.DownBy.{DownBy}
use Rattle.node_state.specs.declared.record.DownBy.TheVariants as down
use Rattle.node_state.specs.declared.record.NodeChange.{NodeChange}
use Rattle.node_state.specs.declared.record.NodeChange.TheVariants.{Heard as HeardFrom}
use Rattle.node_state.specs.declared.record.NodeRecord.{NodeRecord}
use Rattle.node_state.specs.Nodes.{change_at, is_up, noted}
use Rattle.ctl_state.specs.Planning.{is_at}
use Rattle.ctl_state.specs.Soundness.{is_up_at}
use Rattle.ctl_nodes.specs.Updating.{is_set_down}
use Rattle.ctl_node_side.specs.Reporting.{heard_of}
use Rattle.daemon_world.specs.Together.{is_emptied}

-- the report is kept
pub heard_at : (heard : Heard) (empty : Bool) (nodes : List NodeRecord) (place : ℕ) → place < length nodes
    → heard_of (change_at place (HeardFrom heard empty) nodes) place ≡ Some heard
heard_at heard empty [] place below = absurd (omega (arith, below))
heard_at heard empty (node ∷ nodes) zero below = refl
heard_at heard empty (node ∷ nodes) (suc place) below = heard_at heard empty nodes place (omega (arith, below))

-- other nodes stay as they are
pub elsewhere : (change : NodeChange) (nodes : List NodeRecord) (place other : ℕ) → (place ≡ other → ⊥)
    → slice_get (change_at place change nodes) other ≡ slice_get nodes other
elsewhere change [] place other differ = refl
elsewhere change (node ∷ nodes) zero zero differ = absurd (differ refl)
elsewhere change (node ∷ nodes) zero (suc other) differ = refl
elsewhere change (node ∷ nodes) (suc place) zero differ = refl
elsewhere change (node ∷ nodes) (suc place) (suc other) differ =
    elsewhere change nodes place other (λ is. differ (ap suc is))

-- a node that is up was up, or came up by a report without running starts
up-noted : (node : NodeRecord) (empty : Bool) (by : DownBy) → is_up (noted node empty by).down ≡ true
    → (is_up node.down ≡ true) ⊎ (empty ≡ true)
up-noted node empty down.No up = inl up
up-noted node true down.Silent up = inr refl
up-noted node false down.Silent up = absurd (both_ways false refl up)
up-noted node empty down.Set up = inl up

pub came_up : (heard : Heard) (empty : Bool) (nodes : List NodeRecord) (place : ℕ)
    → is_up_at (change_at place (HeardFrom heard empty) nodes) place ≡ true
    → (is_up_at nodes place ≡ true) ⊎ (empty ≡ true)
came_up heard empty [] place up = inl up
came_up heard empty (node ∷ nodes) zero up = up-noted node empty node.down up
came_up heard empty (node ∷ nodes) (suc place) up = came_up heard empty nodes place up

-- one that was up is up
up-on : (node : NodeRecord) (empty : Bool) (by : DownBy) → node.down ≡ by → is_up by ≡ true
    → is_up (noted node empty by).down ≡ true
up-on node empty down.No is up = ap is_up is
up-on node empty down.Silent is up = absurd (both_ways false refl up)
up-on node empty down.Set is up = absurd (both_ways false refl up)

pub stays_up : (heard : Heard) (empty : Bool) (nodes : List NodeRecord) (place : ℕ) → is_up_at nodes place ≡ true
    → is_up_at (change_at place (HeardFrom heard empty) nodes) place ≡ true
stays_up heard empty [] place up = up
stays_up heard empty (node ∷ nodes) zero up = up-on node empty node.down refl up
stays_up heard empty (node ∷ nodes) (suc place) up = stays_up heard empty nodes place up

-- one that is set down and emptied was down, and was so before, or is by this report
emptied-noted : (node : NodeRecord) (empty : Bool) (by : DownBy) → node.down ≡ by
    → (is_set_down (noted node empty by).down && (noted node empty by).empty) ≡ true
    → (is_up node.down ≡ false) × ((is_emptied node ≡ true) ⊎ (empty ≡ true))
emptied-noted node empty down.No is told =
    let never : is_set_down node.down ≡ false = ap is_set_down is in
    absurd (both_ways (is_set_down node.down) never (and_parts (is_set_down node.down) node.empty told).0)
emptied-noted node true down.Silent is told = absurd (both_ways false refl (and_parts false node.empty told).0)
emptied-noted node false down.Silent is told = absurd (both_ways false refl (and_parts false node.empty told).0)
emptied-noted node empty down.Set is told =
    let each = and_parts (is_set_down node.down) (node.empty || empty) told in (
      ap is_up is,
      elim (or_cases node.empty empty each.1) [
        | inl before ↦ inl (rw (each.0, before) refl)
        | inr now ↦ inr now
      ],
    )

pub emptied_by : (heard : Heard) (empty : Bool) (nodes : List NodeRecord) (place : ℕ)
    → is_at is_emptied (change_at place (HeardFrom heard empty) nodes) place ≡ true
    → (is_up_at nodes place ≡ false) × ((is_at is_emptied nodes place ≡ true) ⊎ (empty ≡ true))
emptied_by heard empty [] place told = absurd (both_ways false refl told)
emptied_by heard empty (node ∷ nodes) zero told = emptied-noted node empty node.down refl told
emptied_by heard empty (node ∷ nodes) (suc place) told = emptied_by heard empty nodes place told
