-- What the state of a job excludes.
use Rattle.std.proofs.Common.{◌≡◌, true, false, refl}
use Rattle.std.proofs.lemmas.Bool.{both_ways}
use Rattle.request_data.specs.declared.state.JobState.{JobState}
use Rattle.request_data.specs.declared.state.JobState.TheVariants.{Pending, Running, Completing, Ended}
use Rattle.job_table.specs.JobStates.{is_ended, is_pending, is_running}

-- who waits doesn't run, and hasn't ended
pub waits_still : (state : JobState) → is_pending state ≡ true → is_running state ≡ false
waits_still Pending waits = refl
waits_still Running waits = absurd (both_ways false refl waits)
waits_still (Completing end) waits = refl
waits_still (Ended end) waits = refl

pub waits_unended : (state : JobState) → is_pending state ≡ true → is_ended state ≡ false
waits_unended Pending waits = refl
waits_unended Running waits = refl
waits_unended (Completing end) waits = refl
waits_unended (Ended end) waits = absurd (both_ways false refl waits)

-- who has ended doesn't run
pub ended_still : (state : JobState) → is_ended state ≡ true → is_running state ≡ false
ended_still Pending ended = refl
ended_still Running ended = absurd (both_ways false refl ended)
ended_still (Completing end) ended = refl
ended_still (Ended end) ended = refl

pub not_both : (state : JobState) → is_pending state ≡ true → is_running state ≡ true → ⊥
not_both state waits runs = both_ways (is_running state) (waits_still state waits) runs

pub not_ended : (state : JobState) → is_pending state ≡ true → is_ended state ≡ true → ⊥
not_ended state waits ended = both_ways (is_ended state) (waits_unended state waits) ended
