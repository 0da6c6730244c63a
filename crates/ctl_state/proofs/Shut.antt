-- Time that passes keeps all sound, and so do a shutdown and what is charged.
use Rattle.std.proofs.Common.{◌≡◌, ℕ, ◌≤◌, true, false, List, length, map, ◌∙◌, rules}
use Rattle.std.specs.List.{All, enumerate_from}
use Rattle.std.proofs.lemmas.List.{length-map}
use Rattle.std.proofs.lemmas.List.Elements.{All-weaker}
use Rattle.std.proofs.lemmas.List.FromFn.{length-enumerate_from}
use Rattle.job_table.specs.declared.record.JobRecord.{JobRecord}
use Rattle.job_table.specs.Usage.{charged, grown, used_of}
use Rattle.ctl_state.specs.State.{State, last_moment, last_size}
use Rattle.ctl_state.specs.Soundness.{IsKept, IsSound}
use Rattle.ctl_state.proofs.Kept.{kept-later}

pub sound-later : (s : State) (now : ℕ) → IsSound s → s.moment ≤ now → now ≤ last_moment
    → IsSound (record s { moment = now })
sound-later s now sound later in_time =
    let jobs : All (IsKept now) s.jobs =
    All-weaker (IsKept s.moment) (IsKept now) (λ job kept. kept-later s.moment now job later kept) s.jobs sound.jobs in
    search rules

pub sound-shut : (s : State) → IsSound s → IsSound (record s { is_shut = true })
sound-shut s sound =
    let accepts : true ≡ false → s.size ≤ last_size = λ never. absurd cc in
    search rules

-- whoever is charged, each association keeps its total
as-many : (now : ℕ) (before after : List JobRecord) (usage : List ℕ)
    → length (charged now before after usage) ≡ length usage
unfolding charged
as-many now before after usage =
    length-map (enumerate_from 0 usage) (λ (one : ℕ × ℕ). grown one.1 (used_of now before after one.0))
    ∙ length-enumerate_from 0 usage

pub sound-charged : (s : State) (now : ℕ) (before after : List JobRecord) → IsSound s
    → IsSound (record s { usage = charged now before after s.usage })
sound-charged s now before after sound =
    let usage : length (charged now before after s.usage) ≡ length s.assocs =
    as-many now before after s.usage ∙ sound.usage in
    search rules
