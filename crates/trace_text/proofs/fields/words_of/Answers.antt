use Rattle.std.proofs.Common.{◌∙◌, ap, rules}
use Rattle.std.specs.Slice.Iter as slice
use Rattle.std.proofs.lemmas.Iterator.Consumers.{YieldsList-from_filter, map_from_collect}
use Rattle.std.proofs.lemmas.Iterator.Splits.{YieldsList-from_slice_split}
use Rattle.trace_text.specs.Fields.{is_gap, is_word}
use Rattle.trace_text.proofs.fields.words_of.Goals as goal

pub returns : goal.returns
returns c =
    rw c.in_ok-collect.was at (map_from_collect _ c.collect.ensures.ran
    (YieldsList-from_filter _ is_word
    (YieldsList-from_slice_split _ is_gap c.args.line.now (ap slice.split_rest c.filter.ensures.source ∙ c.split.ensures.rest)
    (ap slice.split_done c.filter.ensures.source ∙ c.split.ensures.done)
    (ap slice.split_callee c.filter.ensures.source ∙ c.split.ensures.closure) (λ x b q called. search rules))
    c.filter.ensures.closure (λ x b q called. search rules)))
