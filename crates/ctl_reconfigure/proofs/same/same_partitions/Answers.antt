use Rattle.std.proofs.Common.{◌≡◌, ◌∙◌, length, rules, tests}
use Rattle.std.proofs.lemmas.Iterator.{YieldsList-from_slice, YieldsList-from_zip}
use Rattle.std.proofs.lemmas.Iterator.Search.{all_from_yields_List}
use Rattle.plain_data.specs.declared.conf.PartConf.{PartConf}
use Rattle.node_state.specs.declared.partition_record.PartRecord.{PartRecord}
use Rattle.ctl_reconfigure.specs.Same.{same_partition}
use Rattle.ctl_reconfigure.proofs.Pairwise.{pointwise-zip}
use Rattle.ctl_reconfigure.proofs.same.same_partitions.Goals as goal

pub returns-then-partitions-confs : goal.returns-then-partitions-confs
returns-then-partitions-confs c =
    let nodes = c.args.nodes.now.records in
    let partitions = c.args.partitions.now in
    let confs = c.args.confs.now in
    let as_long : length partitions ≡ length confs = c.if-partitions-confs.true in
    let chain = YieldsList-from_zip {s =
    c.zip.result} (YieldsList-from_slice partitions cc) (YieldsList-from_slice confs cc) in
    all_from_yields_List (λ (pair : PartRecord × PartConf). same_partition nodes pair.0 pair.1) c.all.new.self _ c.all.result
    c.all.ensures.ran chain (λ x b q k. search (rules, tests))
    ∙ pointwise-zip (same_partition nodes) partitions confs as_long
