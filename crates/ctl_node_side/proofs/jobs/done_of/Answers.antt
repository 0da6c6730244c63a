use Rattle.std.proofs.Common.{◌∙◌, rules, tests}
use Rattle.std.proofs.lemmas.Iterator.{YieldsList-from_slice}
use Rattle.std.proofs.lemmas.Iterator.Search.{find_from_yields_List}
use Rattle.request_data.specs.declared.report.Done.{Done}
use Rattle.ctl_node_side.specs.Reporting.{is_last_start}
use Rattle.ctl_node_side.proofs.jobs.done_of.Goals as goal

pub returns : goal.returns
returns c =
    c.copied.ensures
    ∙ find_from_yields_List (λ (done : Done). is_last_start c.args.job.now done.start) _ _ _ c.find.ensures.ran
    (YieldsList-from_slice c.args.report.now.done cc) (λ x b q k. search (rules, tests))
