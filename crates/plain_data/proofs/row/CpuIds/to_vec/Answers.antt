use Rattle.std.proofs.Common.{rules, sym}
use Rattle.plain_data.specs.Rows.{has_id, row_width}
use Rattle.std.proofs.lemmas.Iterator.{YieldsList-from_range, items_from_collect}
use Rattle.std.proofs.lemmas.Iterator.Consumers.{YieldsList-from_filter}
use Rattle.plain_data.proofs.Words.{width, row-filtered}
use Rattle.plain_data.proofs.row.CpuIds.to_vec.Goals as goal

pub returns : goal.returns
returns c = rw (← c.self.view_is, ← row-filtered c.self.inside.words, c.self.view_is)
    (items_from_collect _ c.collect.ensures.ran (YieldsList-from_filter _ (has_id c.args.self.now) (YieldsList-from_range 0 1024 row_width c.filter.ensures.source (sym width)) c.filter.ensures.closure (λ x q k. search (rules))))
