use Rattle.std.proofs.Common.{arith}
use Rattle.std.proofs.lemmas.List.{take_more}
use Rattle.small_texts.specs.Name.{is_name}
use Rattle.host_lists.proofs.FoldingLemmas.{sorted-more}
use Rattle.host_lists.proofs.Groups.{all-push}
use Rattle.host_lists.proofs.folding.in_byte_order.Goals as goal

pub loop-name-preserved : goal.loop-name-preserved
loop-name-preserved c = (
  rw c.in_ok-insert.ensures.keys (sorted-more c.args.names.now c.loop-name.name-index c.name-item.result c.loop-name.sorted.keys c.as_bytes.result (omega arith) c.name-item.is c.as_bytes.ensures.value c.loop-name.invariant.0),
  rw (take_more c.args.names.now c.loop-name.name-index c.name-item.result (omega arith), ← c.name-item.is) (all-push is_name _ c.name-item.result c.loop-name.invariant.1 c.as_bytes.ensures.named),
)
