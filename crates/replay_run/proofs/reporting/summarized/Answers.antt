use Rattle.std.proofs.Common.{◌≡◌, false}
use Rattle.replay_texts.specs.Summaries.{summary_text}
use Rattle.replay_run.specs.Reports.{IsTold}
use Rattle.replay_run.proofs.Telling.{told_so}
use Rattle.replay_run.proofs.reporting.summarized.Goals as goal

pub returns : goal.returns
returns c =
    let worked = c.args.worked.now in
    told_so c.summary_of_sums.result (λ text. text.items ≡ summary_text c.in_ok-sums.sums)
    (λ text. IsTold false worked.processors worked.outcomes.items text.items)
    (λ text is. (c.in_ok-sums.sums, c.in_ok-sums.ensures, is)) c.summary_of_sums.ensures
