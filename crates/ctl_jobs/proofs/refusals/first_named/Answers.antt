use Rattle.std.proofs.Common.{◌∙◌, rules, tests}
use Rattle.std.proofs.lemmas.Iterator.{YieldsList-from_slice}
use Rattle.std.proofs.lemmas.Iterator.Search.{find_from_yields_List}
use Rattle.job_table.specs.Targets.{is_named}
use Rattle.ctl_jobs.proofs.Naming.{same_found}
use Rattle.ctl_jobs.proofs.refusals.first_named.Goals as goal

pub returns : goal.returns
returns c =
    let named = is_named c.args.target.now in
    find_from_yields_List named _ _ _ c.find.ensures.ran (YieldsList-from_slice c.span_of.result.now cc)
    (λ x b q k. search (rules, tests))
    ∙ same_found named c.span_of.result.now c.args.cluster.now.jobs.records c.span_of.ensures
