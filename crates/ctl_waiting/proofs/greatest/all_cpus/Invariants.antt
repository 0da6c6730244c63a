use Rattle.std.proofs.Common.{◌≡◌, ◌≤◌, ◌*◌, take}
use Rattle.std.specs.Prelude.{sum_by}
use Rattle.node_state.specs.declared.record.NodeRecord.{NodeRecord}
use Rattle.ctl_waiting.proofs.greatest.all_cpus.Given as goal

-- the processors of the nodes so far
abbrev pub invariant-loop-place : goal.invariant-loop-place
invariant-loop-place l = record {
  value : l.cpus ≡ sum_by (λ (node : NodeRecord). node.conf.cpus) (take l.place l.cluster.nodes.records);
  small : l.cpus ≤ 1024 * l.place;
}
