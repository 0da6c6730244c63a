use Rattle.std.proofs.Common.{rules}
use Rattle.std.proofs.lemmas.Iterator.{YieldsList-from_map, YieldsList-from_slice}
use Rattle.std.proofs.lemmas.Iterator.Consumers.{YieldsList-at}
use Rattle.std.proofs.lemmas.Iterator.Adapters.{items_from_extend}
use Rattle.request_data.specs.declared.query.Piece.TheVariants.{Plain}
use Rattle.operands.proofs.format.push_plain.Goals as goal

pub returns : goal.returns
returns c =
    (rw c.in_ok-extend.was at
    (items_from_extend c.extend.result c.extend.ensures.ran
    (YieldsList-from_map _ Plain
    (YieldsList-at c.map.ensures.source (YieldsList-from_slice c.args.bytes.now c.iter.ensures.rest))
    c.map.ensures.closure (λ x r q k. search rules)))).0
