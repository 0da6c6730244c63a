use Rattle.std.proofs.Common.{rules, tests}
use Rattle.std.proofs.lemmas.Iterator.{YieldsList-from_slice}
use Rattle.std.proofs.lemmas.Iterator.Search.{find_from_yields_List}
use Rattle.job_table.specs.Changes.{is_on}
use Rattle.ctl_node_side.proofs.jobs.part_on.Goals as goal

pub returns : goal.returns
returns c = find_from_yields_List (is_on c.args.node) _ _ _ c.find.ensures.ran
    (YieldsList-from_slice c.args.parts.now cc) (λ x b q k. search (rules, tests))
