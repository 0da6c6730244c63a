use Rattle.std.proofs.Common.{ap, arith, ◌∙◌}
use Rattle.std.specs.Prelude.{sum_by}
use Rattle.std.proofs.lemmas.List.{take_all}
use Rattle.node_state.specs.declared.record.NodeRecord.{NodeRecord}
use Rattle.ctl_waiting.specs.Priority.{all_cpus}
use Rattle.ctl_waiting.proofs.Members.{sum-next}
use Rattle.ctl_waiting.proofs.greatest.all_cpus.Goals as goal

pub loop-place-preserved : goal.loop-place-preserved
loop-place-preserved c =
    let more = sum-next (λ (node : NodeRecord). node.conf.cpus) c.args.cluster.now.nodes.records c.loop-place.place in
    record {
      value = omega (arith, more, c.loop-place.invariant.value, c.cpus_at-cpus.ensures.value);
      small = omega (arith, c.loop-place.invariant.small, c.cpus_at-cpus.ensures.small);
    }

pub returns : goal.returns
unfolding all_cpus
returns c =
    let nodes = c.args.cluster.now.nodes.records in
    c.loop-place.invariant.value
    ∙ ap (sum_by (λ (node : NodeRecord). node.conf.cpus))
    (take_all c.loop-place.place nodes (omega (arith, c.loop-place-test.false, c.len-place-end.ensures.value)))
