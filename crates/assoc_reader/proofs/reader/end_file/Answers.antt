use Rattle.assoc_reader.proofs.QosLemmas.{whole}
use Rattle.assoc_reader.proofs.reader.end_file.Goals as goal

pub invariant_of-result : goal.invariant_of-result
invariant_of-result c =
    let tree = c.into_items-assocs.ensures.sound in
    let qos = whole c.args.draft.qos c.in_ok-qos.ensures.sound in
    rw (c.into_items-assocs.ensures.value, c.in_ok-qos.ensures.value) (record {
      under = tree.under;
      apart = tree.apart;
      no_root = tree.no_root;
      few_users = tree.few_users;
      few_children = tree.few_children;
      shallow = tree.shallow;
      few_qos = qos.0;
      qos_once = qos.1;
      has_normal = qos.2;
      preempts_known = c.requires;
    })
