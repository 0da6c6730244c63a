-- What a replay comes to in sums.
use Rattle.std.specs.Prelude.{◌≡◌, ℕ, List, [], length, Option, Some, None}
use Rattle.replay_report.specs.Counts.{counts_of}
use Rattle.replay_report.specs.Hours.{CountsHours, hours_in}
use Rattle.replay_report.specs.Spans.{reach_of, spans_in}
use Rattle.replay_report.specs.Sums.{AreGroups, AreSums}
use Rattle.replay_report.specs.declared.named.GroupKind.TheVariants.{Account, Partition, Qos}
use Rattle.replay_report.specs.declared.outcome.JobOutcome.{JobOutcome}
use Rattle.replay_report.specs.declared.spans.Reach.{Reach}
use Rattle.replay_report.specs.declared.spans.Span.{Span}
use Rattle.replay_report.specs.declared.summary.Summary.{Summary}

-- the use by hour of jobs that reach so far
abbrev pub AreHours : Option Reach → List Span → List ℕ → Type 0
AreHours None spans hours = hours ≡ []
AreHours (Some reach) spans hours = (length hours ≡ hours_in reach) × CountsHours reach.first spans hours

-- the sums over the outcomes of a trace
pub record IsSummary (outcomes : List JobOutcome) (summary : Summary) : Type 0 where
  pub counts : summary.counts ≡ counts_of outcomes
  pub sums : AreSums (length outcomes) (spans_in outcomes) summary.sums
  pub reach : summary.reach ≡ reach_of (spans_in outcomes)
  pub hours : AreHours summary.reach (spans_in outcomes) summary.hours.items
  pub accounts : AreGroups Account outcomes summary.accounts.items
  pub partitions : AreGroups Partition outcomes summary.partitions.items
  pub qos : AreGroups Qos outcomes summary.qos.items
