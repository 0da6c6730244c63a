-- How many jobs had which fate.
use Rattle.std.specs.Prelude.{Bool, true, false, List, filter, length}
use Rattle.replay_report.specs.declared.counts.Counts.{Counts}
use Rattle.replay_report.specs.declared.counts.FateKind.{FateKind}
use Rattle.replay_report.specs.declared.counts.FateKind.TheVariants.{Ran, Waits, Forgotten, Refused, LeftOut}
use Rattle.replay_report.specs.declared.outcome.Fate.{Fate}
use Rattle.replay_report.specs.declared.outcome.Fate.TheVariants as fate
use Rattle.replay_report.specs.declared.outcome.JobOutcome.{JobOutcome}

abbrev pub is_of_kind : FateKind → Fate → Bool
is_of_kind Ran (fate.Ran run) = true
is_of_kind Waits (fate.Waits standing) = true
is_of_kind Forgotten fate.Forgotten = true
is_of_kind Refused (fate.Refused refusal) = true
is_of_kind LeftOut (fate.LeftOut reason) = true
is_of_kind kind other = false

-- a job had a fate of this kind
unfoldable pub had : FateKind → JobOutcome → Bool
had kind outcome = is_of_kind kind outcome.fate

abbrev pub counts_of : List JobOutcome → Counts
counts_of outcomes = record {
  ran = length (filter (had Ran) outcomes);
  waits = length (filter (had Waits) outcomes);
  forgotten = length (filter (had Forgotten) outcomes);
  refused = length (filter (had Refused) outcomes);
  left_out = length (filter (had LeftOut) outcomes);
}
