use Rattle.std.proofs.Common.{◌≡◌, ℕ, Option, Some, None, refl}
use Rattle.std.specs.Prelude.{IfSome}
use Rattle.ctl_jobs.specs.Submission.{assoc_for, partition_for, place_for, qos_for, basis_of}
use Rattle.ctl_jobs.proofs.SubmissionKeeping.{sound-made}
use Rattle.ctl_jobs.proofs.submission_laws.a_submission_keeps_all_sound.Goals as goal

-- what holds of a number that is found holds if one is
if-found : (found : Option ℕ) (P : ℕ → Type 0) → ((place : ℕ) → found ≡ Some place → P place) → IfSome found P
if-found None P each = tt
if-found (Some place) P each = each place refl

pub returns : goal.returns
unfolding basis_of
returns c s after now user desc reply sound later in_time asked range none made =
    let meant = c.what_is_meant_is_there.ensures in
    sound-made c.added_jobs_keep_all_sound.ensures s after now user desc reply (assoc_for s user desc)
    (qos_for s desc) (place_for s desc) (partition_for s desc) sound later in_time asked range
    (if-found (assoc_for s user desc) _ (meant.assoc s.assocs user desc.account))
    (if-found (qos_for s desc) _ (meant.qos s.qos desc.qos)) refl none made
