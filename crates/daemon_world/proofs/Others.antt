-- A report leaves the side of every other node as it is.
use Rattle.std.proofs.Common.{ℕ, ◌≡◌, ◌<◌, ◌∙◌, Bool, false, List, [], ◌∷◌, length, HoldsAt, slice_get, arith, Some, Option, sym, ap, inl, nat_eq, option_and_then, option_map, unwrap_or}
use Rattle.std.proofs.lemmas.Bool.{cond_both, ne_eqb}
use Rattle.request_data.specs.declared.report.Report.{Report}
use Rattle.node_state.specs.declared.record.NodeChange.TheVariants.{Heard as HeardFrom}
use Rattle.node_state.specs.declared.record.NodeRecord.{NodeRecord}
use Rattle.node_state.specs.Nodes.{is_up, place_named}
use Rattle.job_table.specs.declared.record.JobRecord.{JobRecord}
use Rattle.ctl_state.specs.Planning.{is_at}
use Rattle.ctl_state.specs.State.{State}
use Rattle.ctl_state.specs.Verdicts.{stamped}
use Rattle.ctl_nodes.specs.Failing.{after_loss, lost_after}
use Rattle.ctl_node_side.specs.Answering.{is_restarted}
use Rattle.ctl_node_side.specs.Reporting.{heard_by, heard_of, lists_nothing, report_after, reported}
use Rattle.ctl_node_side.specs.Restarting.{met}
use Rattle.daemon_world.specs.Claims.{Claim, Holds, IsHeldAt}
use Rattle.daemon_world.specs.Leaving.{LeavesNode}
use Rattle.daemon_world.specs.Together.{is_emptied}
use Rattle.daemon_world.proofs.Accepting.{Lower, after, dropped_met, nodes_met, same_place}
use Rattle.daemon_world.proofs.Hearing.{elsewhere}
use Rattle.daemon_world.proofs.Holding.{loss_holds, report_holds}
use Rattle.daemon_world.proofs.LeftAlone.{placed}
use Rattle.daemon_world.proofs.Lists.{any_map}

-- another node is at another place
apart : Lower → (s : State) (node other : List ℕ) (place at : ℕ) → (node ≡ other → ⊥)
    → place_named node s.nodes ≡ Some place → place_named other s.nodes ≡ Some at → place ≡ at → ⊥
apart lower s node other place at differ here there same =
    let two = lower.named other at s.nodes there in
    let one = lower.named node at s.nodes (here ∙ ap Some same) in
    named-apart s.nodes at (one.0) one.1 two.1
  where
    named-apart : (nodes : List NodeRecord) (at : ℕ) → at < length nodes
        → HoldsAt (λ (record_of : NodeRecord). record_of.conf.name ≡ node) nodes at
        → HoldsAt (λ (record_of : NodeRecord). record_of.conf.name ≡ other) nodes at → ⊥
    named-apart [] at below one two = omega (arith, below)
    named-apart (first ∷ later) at below one two = differ (sym (one first) ∙ two first)

-- what a node at another place holds stays held
held-met : (s : State) (now place at : ℕ) (report : Report) (claim : Claim) → (place ≡ at → ⊥)
    → IsHeldAt s.jobs at claim → IsHeldAt (met s now place report).jobs at claim
held-met s now place at report claim differ held =
    cond_both (is_restarted s report) (stamped now (lost_after s now (nat_eq place))) s
    (λ (t : State). IsHeldAt t.jobs at claim)
    (λ some. any_map (λ (job : JobRecord). Unit {0}) (Holds at claim) (Holds at claim)
    (after_loss now (nat_eq place)) s.jobs
    (λ job any holds. loss_holds now at (nat_eq place) claim job (ne_eqb place at differ) holds)
    (λ k d below. tt) held)
    (λ none. held)

held-there : (s : State) (now place at : ℕ) (report : Report) (claim : Claim) → (place ≡ at → ⊥)
    → IsHeldAt s.jobs at claim → IsHeldAt (after s now place report).jobs at claim
held-there s now place at report claim differ held =
    any_map (λ (job : JobRecord). Unit {0}) (Holds at claim) (Holds at claim) (reported now place report)
    (met s now place report).jobs (λ job any holds. report_holds now at place claim report job differ holds)
    (λ k d below. tt) (held-met s now place at report claim differ held)

-- the record of such a node is the same
same-record : (s : State) (now place at : ℕ) (report : Report) → (place ≡ at → ⊥)
    → slice_get (after s now place report).nodes at ≡ slice_get s.nodes at
same-record s now place at report differ =
    elsewhere (HeardFrom (heard_by now report) (lists_nothing report.running)) (met s now place report).nodes place at
    differ
    ∙ ap (λ (nodes : List NodeRecord). slice_get nodes at) (nodes_met s now place report)

same-at : (test : NodeRecord → Bool) (s : State) (now place at : ℕ) (report : Report) → (place ≡ at → ⊥)
    → is_at test (after s now place report).nodes at ≡ is_at test s.nodes at
same-at test s now place at report differ =
    ap (λ (one : Option NodeRecord). unwrap_or (option_map test one) false) (same-record s now place at report differ)

heard-there : (s : State) (now place at : ℕ) (report : Report) → (place ≡ at → ⊥)
    → heard_of (after s now place report).nodes at ≡ heard_of s.nodes at
heard-there s now place at report differ =
    ap (option_and_then (λ (one : NodeRecord). one.heard)) (same-record s now place at report differ)

pub others_left : Lower → (s : State) (now place : ℕ) (report : Report) (other : List ℕ) → (report.node ≡ other → ⊥)
    → place_named report.node s.nodes ≡ Some place
    → LeavesNode s (report_after (met s now place report) now place report) other
others_left lower s now place report other differ here =
    let away = λ (at : ℕ) (there : place_named other s.nodes ≡ Some at).
    apart lower s report.node other place at differ here there in
    placed s (after s now place report) other (record {
      place = same_place lower s now place report other;
      dropped = dropped_met s now place report;
      heard = λ at there. heard-there s now place at report (away at there);
      held = λ at there up. inl (
        sym (same-at (λ (node : NodeRecord). is_up node.down) s now place at report (away at there)) ∙ up,
        λ claim held. held-there s now place at report claim (away at there) held,
      );
      emptied = λ at there told. sym (same-at is_emptied s now place at report (away at there)) ∙ told;
    })
