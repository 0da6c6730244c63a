-- A node of which nothing was heard yet, put as its line says.
use Rattle.std.proofs.Common.{◌≡◌, Bool, true, false, Option, Some, None, refl, ap, ◌∙◌}
use Rattle.std.specs.Prelude.{◌≢◌, is_some}
use Rattle.plain_data.specs.declared.conf.NodeConf.{NodeConf}
use Rattle.request_data.specs.declared.report.Heard.{Heard}
use Rattle.node_state.specs.declared.record.DownBy.{DownBy}
use Rattle.node_state.specs.declared.record.DownBy.TheVariants.{No, Silent, Set}
use Rattle.node_state.specs.declared.record.NodeChange.TheVariants as change
use Rattle.node_state.specs.declared.record.NodeRecord.{NodeRecord}
use Rattle.node_state.specs.Nodes.{changed}
use Rattle.saved_data.specs.declared.parts.SavedNode.{SavedNode}
use Rattle.ctl_restore.specs.Fits.{IsEmptyOnce}
use Rattle.ctl_restore.specs.Restored.{standing_as}
use Rattle.ctl_restore.specs.Steps.{IsUnheard, down_as, drained_as, heard_as}

-- a node, by what is known of it
abbrev node_of : NodeConf → DownBy → Bool → Bool → Option Heard → NodeRecord
node_of conf by drain empty heard = record { conf = conf; down = by; drain = drain; empty = empty; heard = heard }

resumes : (conf : NodeConf) (by : DownBy) (drain : Bool) → by ≢ Silent
    → changed change.Resume (node_of conf by drain false None) ≡ node_of conf No false false None
resumes conf No drain other = refl
resumes conf Silent drain other = absurd (other refl)
resumes conf Set drain other = refl

hears : (conf : NodeConf) (heard : Option Heard)
    → heard_as heard false (node_of conf No false false None) ≡ node_of conf No false false heard
hears conf None = refl
hears conf (Some heard) = refl

goes-down : (line : SavedNode) (conf : NodeConf) (by : DownBy) (empty : Bool) (heard : Option Heard)
    → line.empty ≡ empty → line.heard ≡ heard → (empty ≡ true → (by ≡ Set) × (is_some heard ≡ true))
    → down_as line by (node_of conf No false false heard) ≡ node_of conf by false empty heard
goes-down line conf No true heard is so once = absurd (let no = (once refl).0 in cc)
goes-down line conf No false heard is so once = refl
goes-down line conf Silent true heard is so once = absurd (let no = (once refl).0 in cc)
goes-down line conf Silent false heard is so once = refl
goes-down line conf Set true None is so once = absurd (let no = (once refl).1 in cc)
goes-down line conf Set true (Some heard) is so once = rw (is, so) refl
goes-down line conf Set false heard is so once = rw is refl

drains : (conf : NodeConf) (by : DownBy) (drain empty : Bool) (heard : Option Heard)
    → drained_as drain (node_of conf by false empty heard) ≡ node_of conf by drain empty heard
drains conf by true empty heard = refl
drains conf by false empty heard = refl

pub stands : (line : SavedNode) (node : NodeRecord) → IsUnheard node → IsEmptyOnce line
    → drained_as line.drain (down_as line line.down (heard_as line.heard false (changed change.Resume node)))
    ≡ standing_as node (Some line)
stands line node unheard once =
    ap (λ node. drained_as line.drain (down_as line line.down (heard_as line.heard false (changed change.Resume node)))) plain
    ∙ ap (λ node. drained_as line.drain (down_as line line.down (heard_as line.heard false node))) (resumes node.conf node.down node.drain unheard.down)
    ∙ ap (λ node. drained_as line.drain (down_as line line.down node)) (hears node.conf line.heard)
    ∙ ap (drained_as line.drain) (goes-down line node.conf line.down line.empty line.heard refl refl once)
    ∙ drains node.conf line.down line.drain line.empty line.heard
  where
    plain : node ≡ node_of node.conf node.down node.drain false None
    plain = at node.empty node.heard unheard.empty unheard.heard where
      at : (empty : Bool) (heard : Option Heard) → empty ≡ false → heard ≡ None
          → node_of node.conf node.down node.drain empty heard ≡ node_of node.conf node.down node.drain false None
      at empty heard is so = rw (is, so) refl
