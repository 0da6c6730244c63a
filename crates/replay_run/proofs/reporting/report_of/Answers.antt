use Rattle.replay_run.specs.Reports.{IsReport, IsReportOfPlan}
use Rattle.replay_run.proofs.Telling.{told_so}
use Rattle.replay_run.proofs.reporting.report_of.Goals as goal

pub returns : goal.returns
returns g c =
    let wanted = c.args.wanted.now in
    let texts = c.args.texts.now in
    let jobs = c.args.jobs.now in
    let plan = c.in_ok-plan.plan in
    let planned = c.in_ok-plan.ensures in
    told_so c.report_planned.result (λ report. IsReportOfPlan wanted texts jobs plan report.text.items)
    (λ report. IsReport wanted texts jobs report.text.items)
    (λ report is. record {
      plan = plan;
      planned = record { submissions = planned.submissions; sorted = planned.sorted; left_out = planned.left_out };
      reports = is;
    }) c.report_planned.ensures
