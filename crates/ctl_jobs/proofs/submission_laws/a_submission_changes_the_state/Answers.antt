use Rattle.ctl_jobs.specs.Submission.{basis_of}
use Rattle.ctl_jobs.proofs.SubmissionKeeping.{changed-made}
use Rattle.ctl_jobs.proofs.submission_laws.a_submission_changes_the_state.Goals as goal

pub returns : goal.returns
returns c s after now user desc reply made same =
    changed-made s after now user desc reply (basis_of s user desc) made same
