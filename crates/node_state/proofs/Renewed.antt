-- The nodes of another slurm.conf: names, and what is held.
use Rattle.std.proofs.Common.{◌≡◌, ◌≢◌, ℕ, ◌<◌, ◌≤◌, List, [], ◌∷◌, length, map, get_or, All, AllPairs, Option, Some, None, refl, sym, ap, ◌∙◌, arith}
use Rattle.std.proofs.lemmas.List.{length-map, get_or-map}
use Rattle.std.proofs.lemmas.List.Elements.{All-head, All-tail}
use Rattle.plain_data.specs.declared.conf.NodeConf.{NodeConf}
use Rattle.node_state.specs.declared.record.NodeRecord.{NodeRecord}
use Rattle.node_state.specs.declared.record.DroppedNode.{DroppedNode}
use Rattle.node_state.specs.declared.record.Held.{Held}
use Rattle.node_state.specs.Held.{AreWithin, IsWithin}
use Rattle.node_state.specs.Nodes.{AreNamedOnce, NodesView, opened}
use Rattle.node_state.specs.Renewing.{FitsHeld, come, dropped_named, held_by_name, node_named, renewed, renewed_from}

conf-come : (moment : ℕ) (line : NodeConf) (dropped : Option DroppedNode) → (come moment line dropped).conf ≡ line
conf-come moment line None = refl
conf-come moment line (Some one) = refl

conf-from : (dropped : List DroppedNode) (moment : ℕ) (line : NodeConf) (found : Option NodeRecord)
    → (renewed_from dropped moment line found).conf ≡ line
conf-from dropped moment line None = conf-come moment line (dropped_named line.name dropped)
conf-from dropped moment line (Some node) = refl

conf-renewed : (nodes : List NodeRecord) (dropped : List DroppedNode) (moment : ℕ) (line : NodeConf)
    → (renewed nodes dropped moment line).conf ≡ line
conf-renewed nodes dropped moment line = conf-from dropped moment line (node_named line.name nodes)

pub named_once-renewed : (nodes : List NodeRecord) (dropped : List DroppedNode) (moment : ℕ) (lines : List NodeConf)
    → length lines ≤ 1024 → AllPairs (λ (one other : NodeConf). one.name ≢ other.name) lines
    → AreNamedOnce (map (renewed nodes dropped moment) lines)
named_once-renewed nodes dropped moment lines few once =
    let make = renewed nodes dropped moment in
    record {
      few = rw (length-map lines make) few;
      once = λ i j d before inside.
          let within : j < length lines = rw (length-map lines make) at inside in
          let one : (get_or (map make lines) i d).conf ≡ get_or lines i d.conf =
          ap (λ (node : NodeRecord). node.conf) (get_or-map make lines i d.conf d (omega (arith, before, within)))
          ∙ conf-renewed nodes dropped moment (get_or lines i d.conf) in
          let other : (get_or (map make lines) j d).conf ≡ get_or lines j d.conf =
          ap (λ (node : NodeRecord). node.conf) (get_or-map make lines j d.conf d within)
          ∙ conf-renewed nodes dropped moment (get_or lines j d.conf) in
          λ same. once i j d.conf before within
          (sym (ap (λ (conf : NodeConf). conf.name) one) ∙ same ∙ ap (λ (conf : NodeConf). conf.name) other);
    }

within-conf : (node : NodeRecord) (line : NodeConf) (held : Held) → node.conf ≡ line → IsWithin (opened line) held
    → IsWithin node held
within-conf node line held is within = record { cpus = rw is within.cpus; mem = rw is within.mem }

pub within-renewed : (all : NodesView) (dropped : List DroppedNode) (moment : ℕ) (lines : List NodeConf)
    → All (FitsHeld all) lines
    → AreWithin (map (renewed all.records dropped moment) lines)
    (map (λ (line : NodeConf). held_by_name all line.name) lines)
within-renewed all dropped moment [] fits = tt
within-renewed all dropped moment (line ∷ lines) fits = (
  within-conf (renewed all.records dropped moment line) line (held_by_name all line.name)
      (conf-renewed all.records dropped moment line) (All-head (FitsHeld all) line lines fits),
  within-renewed all dropped moment lines (All-tail (FitsHeld all) line lines fits),
)
