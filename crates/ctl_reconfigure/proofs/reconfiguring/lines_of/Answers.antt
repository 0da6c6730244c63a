-- What is held goes with the names of nodes, and fits their new lines.
use Rattle.std.proofs.Common.{◌≡◌, ◌∙◌, List, map, All, refl, subst, sym, ap}
use Rattle.plain_data.specs.Confs.{ConfView, IsConf, IsOfNodes}
use Rattle.plain_data.specs.declared.conf.NodeConf.{NodeConf}
use Rattle.plain_data.specs.declared.conf.PartConf.{PartConf}
use Rattle.node_state.specs.declared.record.DroppedNode.{DroppedNode}
use Rattle.node_state.specs.declared.record.Held.{Held}
use Rattle.node_state.specs.declared.record.NodeRecord.{NodeRecord}
use Rattle.node_state.specs.Partitions.{opened}
use Rattle.node_state.specs.Renewing.{FitsHeld, held_by_name, renewed}
use Rattle.ctl_state.specs.Holding.{parts_of}
use Rattle.ctl_state.specs.Index.{ShowsParts}
use Rattle.ctl_state.specs.State.{state_of}
use Rattle.ctl_reconfigure.specs.Names.{conf_names, node_names}
use Rattle.ctl_reconfigure.specs.Reconfiguring.{job_after, nodes_after}
use Rattle.ctl_reconfigure.proofs.Index.{fits-held, index-after}
use Rattle.ctl_reconfigure.proofs.Places.{names-after}
use Rattle.ctl_reconfigure.proofs.reconfiguring.lines_of.Goals as goal

pub renewed-requires-clause-fits : goal.renewed-requires-clause-fits
renewed-requires-clause-fits c =
    let cluster = c.args.cluster.now in
    let lines : c.into_vec.result.items ≡ c.args.conf.nodes =
    c.into_vec.ensures ∙ ap (λ (conf : ConfView). conf.nodes) c.conf.view_is in
    subst (λ (lines : List NodeConf). All (FitsHeld cluster.nodes) lines) (sym lines)
    (fits-held (state_of cluster) c.args.conf cluster.nodes c.requires.sound c.requires.free refl c.requires.indexed)

pub build-requires-clause-of_nodes : goal.build-requires-clause-of_nodes
build-requires-clause-of_nodes c =
    let s = state_of c.args.cluster.now in
    let conf = c.args.conf in
    let whole : IsConf conf.nodes conf.partitions =
    subst (λ (conf : ConfView). IsConf conf.nodes conf.partitions) c.conf.view_is c.conf.invariant in
    let lines : c.into_vec.result.items ≡ conf.nodes =
    c.into_vec.ensures ∙ ap (λ (conf : ConfView). conf.nodes) c.conf.view_is in
    let partitions : c.into_vec-2.result.items ≡ conf.partitions =
    c.into_vec-2.ensures ∙ ap (λ (conf : ConfView). conf.partitions) c.conf.view_is in
    let records : c.in_ok-nodes.nodes.records ≡ nodes_after s c.args.moment conf =
    c.in_ok-nodes.ensures.records
    ∙ ap (λ (dropped : List DroppedNode). map (renewed s.nodes dropped c.args.moment) c.into_vec.result.items) c.deref.ensures.value
    ∙ ap (map (renewed s.nodes s.dropped c.args.moment)) lines in
    let names : node_names c.in_ok-nodes.nodes.records ≡ conf_names conf.nodes =
    ap node_names records ∙ names-after s c.args.moment conf in
    subst (λ names. All (IsOfNodes names) c.into_vec-2.result.items) (sym names)
    (subst (λ (lines : List PartConf). All (IsOfNodes (conf_names conf.nodes)) lines) (sym partitions) whole.of_nodes)

pub returns-clause-shown : goal.returns-clause-shown
returns-clause-shown c =
    let cluster = c.args.cluster.now in
    let conf = c.args.conf in
    let whole : IsConf conf.nodes conf.partitions =
    subst (λ (conf : ConfView). IsConf conf.nodes conf.partitions) c.conf.view_is c.conf.invariant in
    let lines : c.into_vec.result.items ≡ conf.nodes =
    c.into_vec.ensures ∙ ap (λ (conf : ConfView). conf.nodes) c.conf.view_is in
    let row : NodeConf → Held = λ line. held_by_name cluster.nodes line.name in
    subst (λ (held : List Held). ShowsParts held (parts_of (map (job_after (state_of cluster) conf) cluster.jobs.records)))
    (sym (c.in_ok-nodes.ensures.held ∙ ap (map row) lines))
    (index-after (state_of cluster) conf cluster.nodes c.requires.sound c.requires.free whole refl c.requires.indexed)

pub returns-clause-partitions : goal.returns-clause-partitions
returns-clause-partitions c =
    let s = state_of c.args.cluster.now in
    let conf = c.args.conf in
    let lines : c.into_vec.result.items ≡ conf.nodes =
    c.into_vec.ensures ∙ ap (λ (conf : ConfView). conf.nodes) c.conf.view_is in
    let partitions : c.into_vec-2.result.items ≡ conf.partitions =
    c.into_vec-2.ensures ∙ ap (λ (conf : ConfView). conf.partitions) c.conf.view_is in
    let records : c.in_ok-nodes.nodes.records ≡ nodes_after s c.args.moment conf =
    c.in_ok-nodes.ensures.records
    ∙ ap (λ (dropped : List DroppedNode). map (renewed s.nodes dropped c.args.moment) c.into_vec.result.items) c.deref.ensures.value
    ∙ ap (map (renewed s.nodes s.dropped c.args.moment)) lines in
    c.in_ok-partitions.ensures.records
    ∙ ap (λ (nodes : List NodeRecord). map (opened nodes) c.into_vec-2.result.items) records
    ∙ ap (map (opened (nodes_after s c.args.moment conf))) partitions
