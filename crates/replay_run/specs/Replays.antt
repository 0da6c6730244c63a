-- What a replay of the jobs of a trace may come to at the cluster of two files.
use Rattle.std.specs.Prelude.{◌≡◌, ◌⊎◌, ℕ, ◌+◌, ◌-◌, ◌/◌, ◌^◌, nat_eq, min, max, if◌then◌else◌, true, List, fold, Option, unwrap_or, Ok, IsPermutation}
use Rattle.std.specs.List.Sorted.{IsSortedBy}
use Rattle.plain_data.specs.Confs.{ConfView}
use Rattle.plain_data.specs.declared.conf.NodeConf.{NodeConf}
use Rattle.request_data.specs.declared.query.Query.{Query}
use Rattle.request_data.specs.declared.request.Request.TheVariants.{Show}
use Rattle.reply_data.specs.declared.reply.Reply.{Reply}
use Rattle.conf_reader.specs.Reader.{conf_in}
use Rattle.trace_text.specs.declared.job.TraceJob.{TraceJob}
use Rattle.ctl_state.specs.State.{State}
use Rattle.ctl_saved.specs.Saving.{saved_of}
use Rattle.node_daemon.specs.Turn.{root}
use Rattle.cluster_opening.specs.Cluster.{opening_in}
use Rattle.cluster_opening.specs.Renewing.{IsReopened}
use Rattle.trace_text.specs.Handing.{all_handed, all_left, goes_before}
use Rattle.trace_text.specs.declared.plan.ReplayPlan.{ReplayPlan}
use Rattle.trace_text.specs.declared.submission.Submission.{Submission}
use Rattle.trace_text.specs.declared.submission.TakenNames.{TakenNames}
use Rattle.replay.specs.Replay.{Progress, behind, leads_to, replayed}
use Rattle.replay.specs.declared.pace.Pace.{Pace}
use Rattle.replay_report.specs.Outcomes.{all_outcomes}
use Rattle.replay_report.specs.declared.outcome.JobOutcome.{JobOutcome}

-- how many seconds lie between two reports of all nodes, by SlurmdTimeout
abbrev pub reports_of : ℕ → ℕ
reports_of timeout = if nat_eq timeout 0 then 2 ^ 64 - 1 else max (timeout / 2) 1

-- the pace of a replay: passes are as far apart as is said, else as bf_interval says
abbrev pub pace_of : Option ℕ → ConfView → Pace
pace_of interval conf = record {
  passes = max (unwrap_or interval conf.settings.bf_interval) 1;
  reports = reports_of conf.settings.slurmd_timeout;
}

-- how many processors nodes have
abbrev pub processors_in : List NodeConf → ℕ
processors_in nodes = fold (λ count (node : NodeConf). min (count + node.cpus) (2 ^ 64 - 1)) 0 nodes

-- what the cluster shows was looked at
pub record WasLookedAt (s s' : State) : Type 0 where
  pub moment : ℕ
  pub query : Query
  pub is : s' ≡ behind root moment (Show query) s

-- it was, or nothing happened
abbrev pub MayBeLookedAt : State → State → Type 0
MayBeLookedAt s s' = (s' ≡ s) ⊎ WasLookedAt s s'

-- A replay may stand so, by the state of the cluster and by how far it is: it has begun at the cluster of the two files; it has
-- gone on, to where it led before; what the cluster shows was looked at; or it has gone on from a new book.
pub data MayStand (conf assocs : List ℕ) (pace : Pace) (submissions : List Submission) : State → Progress → Type 0 where
  Begun : (opening s : State) (progress : Progress) → opening_in conf assocs ≡ Ok opening
      → leads_to pace submissions s progress ≡ replayed pace submissions opening
      → MayStand conf assocs pace submissions s progress
  WentOn : (s s' : State) (progress progress' : Progress) → MayStand conf assocs pace submissions s progress
      → leads_to pace submissions s' progress' ≡ leads_to pace submissions s progress
      → MayStand conf assocs pace submissions s' progress'
  LookedAt : (s s' : State) (progress : Progress) → MayStand conf assocs pace submissions s progress
      → WasLookedAt s s' → MayStand conf assocs pace submissions s' progress
  Renewed : (s s' : State) (progress : Progress) → MayStand conf assocs pace submissions s progress
      → IsReopened conf assocs (saved_of s) s' → MayStand conf assocs pace submissions s' progress

-- what is handed in for the jobs of a trace
pub record IsPlanned (taken : TakenNames) (jobs : List TraceJob) (plan : ReplayPlan) : Type 0 where
  pub submissions : IsPermutation (all_handed taken 0 jobs) plan.submissions.items
  pub sorted : IsSortedBy goes_before plan.submissions.items
  pub left_out : plan.left_out.items ≡ all_left taken 0 jobs

-- what slurm.conf says of the pace, and how many processors the cluster has
pub record IsSite (interval : Option ℕ) (conf : List ℕ) (pace : Pace) (processors : ℕ) : Type 0 where
  pub said : ConfView
  pub says : conf_in conf ≡ Ok said
  pub goes : pace ≡ pace_of interval said
  pub has : processors ≡ processors_in said.nodes

-- A replay of a plan may be over with these outcomes: they are what was told for its submissions, by some records.
pub record HasCome (conf assocs : List ℕ) (pace : Pace) (jobs : List TraceJob) (plan : ReplayPlan) (outcomes : List JobOutcome)
    : Type 0 where
  pub state : State
  pub progress : Progress
  pub stands : MayStand conf assocs pace plan.submissions.items state progress
  pub over : progress.over ≡ true
  pub shown : Reply
  pub are : outcomes ≡ all_outcomes jobs plan.submissions.items plan.left_out.items progress.course.replies.items shown

-- The outcomes of a replay of a plan at the cluster of two files, which has so many processors.
pub record CameTo (interval : Option ℕ) (conf assocs : List ℕ) (jobs : List TraceJob) (plan : ReplayPlan) (processors : ℕ)
    (outcomes : List JobOutcome) : Type 0 where
  pub pace : Pace
  pub site : IsSite interval conf pace processors
  pub come : HasCome conf assocs pace jobs plan outcomes
