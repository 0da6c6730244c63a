use Rattle.std.proofs.Common.{◌≡◌, ◌∙◌, length, rules, tests}
use Rattle.std.proofs.lemmas.Iterator.{YieldsList-from_slice, YieldsList-from_zip}
use Rattle.std.proofs.lemmas.Iterator.Search.{all_from_yields_List}
use Rattle.plain_data.specs.declared.conf.NodeConf.{NodeConf}
use Rattle.node_state.specs.declared.record.NodeRecord.{NodeRecord}
use Rattle.ctl_reconfigure.specs.Same.{same_node}
use Rattle.ctl_reconfigure.proofs.Pairwise.{pointwise-zip}
use Rattle.ctl_reconfigure.proofs.same.same_nodes.Goals as goal

pub returns-then-nodes-confs : goal.returns-then-nodes-confs
returns-then-nodes-confs c =
    let nodes = c.args.nodes.now in
    let confs = c.args.confs.now in
    let as_long : length nodes ≡ length confs = c.if-nodes-confs.true in
    let chain = YieldsList-from_zip {s =
    c.zip.result} (YieldsList-from_slice nodes cc) (YieldsList-from_slice confs cc) in
    all_from_yields_List (λ (pair : NodeRecord × NodeConf). same_node pair.0.conf pair.1) c.all.new.self _ c.all.result
    c.all.ensures.ran chain (λ x b q k. search (rules, tests))
    ∙ pointwise-zip (λ (node : NodeRecord) (conf : NodeConf). same_node node.conf conf) nodes confs as_long
