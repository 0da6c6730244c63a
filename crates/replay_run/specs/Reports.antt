-- What is told of one replay, or of two.
use Rattle.std.specs.Prelude.{◌≡◌, ℕ, Bool, true, false, ◌||◌, is_some, List, Option, Some, None, Ok, MatchBool}
use Rattle.std.specs.Borrow.{Bor}
use Rattle.trace_text.specs.Traces.{trace_in}
use Rattle.trace_text.specs.declared.job.TraceJob.{TraceJob}
use Rattle.trace_text.specs.declared.plan.ReplayPlan.{ReplayPlan}
use Rattle.replay_report.specs.Changes.{AreMostChanged, changes_in}
use Rattle.replay_report.specs.Summaries.{IsSummary}
use Rattle.replay_report.specs.declared.comparing.Change.{Change}
use Rattle.replay_report.specs.declared.comparing.Direction.TheVariants.{Less, More}
use Rattle.replay_report.specs.declared.outcome.JobOutcome.{JobOutcome}
use Rattle.replay_texts.specs.Comparisons.{comparison_text}
use Rattle.replay_texts.specs.Csv.{csv_text}
use Rattle.replay_texts.specs.Summaries.{summary_text}
use Rattle.replay_texts.specs.declared.summary.Worked.{Worked}
use Rattle.replay_texts.specs.Adding.{with_users}
use Rattle.replay_run.specs.Replays.{CameTo, IsPlanned}
use Rattle.replay_run.specs.declared.reporting.Texts.{Texts}
use Rattle.replay_run.specs.declared.words.Wanted.{Wanted}

-- the sums over outcomes at a cluster of so many processors
pub record IsSummed (processors : ℕ) (outcomes : List JobOutcome) (worked : Worked) : Type 0 where
  pub has : worked.processors ≡ processors
  pub sums : IsSummary outcomes worked.summary

-- the text of one replay: a line for each job, or the summary
abbrev pub IsTold : Bool → ℕ → List JobOutcome → List ℕ → Type 0
IsTold true processors outcomes text = text ≡ csv_text outcomes
IsTold false processors outcomes text = (worked : Worked) × IsSummed processors outcomes worked × (text ≡ summary_text worked)

-- the text of two, with so many of the jobs that wait less in the second, and of those that wait more
pub record AreCompared (most one_has other_has : ℕ) (before after : List JobOutcome) (text : List ℕ) : Type 0 where
  pub one : Worked
  pub other : Worked
  pub less : List Change
  pub more : List Change
  pub one_is : IsSummed one_has before one
  pub other_is : IsSummed other_has after other
  pub less_are : AreMostChanged Less most (changes_in after 0 before) less
  pub more_are : AreMostChanged More most (changes_in after 0 before) more
  pub is : text ≡ comparison_text one other less more

-- the association file that counts
abbrev pub assocs_used : Bool → List ℕ → List TraceJob → List ℕ
assocs_used true assocs jobs = with_users assocs jobs
assocs_used false assocs jobs = assocs

-- a file where one is named, else another
abbrev pub text_or : Option (Bor (List ℕ)) → List ℕ → List ℕ
text_or (Some text) other = text.now
text_or None other = other

-- two replays are compared
abbrev pub is_compared : Texts → Bool
is_compared texts = is_some texts.other_conf || is_some texts.other_assocs

-- the report on one replay of a plan
pub record ReportsOne (wanted : Wanted) (texts : Texts) (jobs : List TraceJob) (plan : ReplayPlan) (text : List ℕ) : Type 0 where
  pub processors : ℕ
  pub outcomes : List JobOutcome
  pub came : CameTo wanted.interval texts.conf.now (assocs_used wanted.add_users texts.assocs.now jobs) jobs plan processors
      outcomes
  pub told : IsTold wanted.csv processors outcomes text

-- these outcomes at a cluster of so many processors are compared with those of another replay of the plan
pub record IsComparedWith (wanted : Wanted) (texts : Texts) (jobs : List TraceJob) (plan : ReplayPlan) (one_has : ℕ)
    (before : List JobOutcome) (text : List ℕ) : Type 0 where
  pub other_has : ℕ
  pub after : List JobOutcome
  pub came : CameTo wanted.interval (text_or texts.other_conf texts.conf.now)
      (assocs_used wanted.add_users (text_or texts.other_assocs texts.assocs.now) jobs) jobs plan other_has after
  pub compared : AreCompared wanted.most one_has other_has before after text

-- the report on two replays of it
pub record ReportsTwo (wanted : Wanted) (texts : Texts) (jobs : List TraceJob) (plan : ReplayPlan) (text : List ℕ) : Type 0 where
  pub processors : ℕ
  pub outcomes : List JobOutcome
  pub came : CameTo wanted.interval texts.conf.now (assocs_used wanted.add_users texts.assocs.now jobs) jobs plan processors
      outcomes
  pub compared : IsComparedWith wanted texts jobs plan processors outcomes text

-- the report on a plan
abbrev pub IsReportOfPlan : Wanted → Texts → List TraceJob → ReplayPlan → List ℕ → Type 0
IsReportOfPlan wanted texts jobs plan text =
    MatchBool (is_compared texts) (ReportsTwo wanted texts jobs plan text) (ReportsOne wanted texts jobs plan text)

-- the report on the jobs of a trace
pub record IsReport (wanted : Wanted) (texts : Texts) (jobs : List TraceJob) (text : List ℕ) : Type 0 where
  pub plan : ReplayPlan
  pub planned : IsPlanned wanted.taken jobs plan
  pub reports : IsReportOfPlan wanted texts jobs plan text

-- the report on a trace
pub record IsReportOn (wanted : Wanted) (texts : Texts) (text : List ℕ) : Type 0 where
  pub jobs : List TraceJob
  pub reads : trace_in wanted.kind texts.trace.now ≡ Ok jobs
  pub reports : IsReport wanted texts jobs text
