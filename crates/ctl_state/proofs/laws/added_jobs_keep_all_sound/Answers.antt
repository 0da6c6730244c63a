use Rattle.ctl_state.proofs.Added.{sound-added}
use Rattle.ctl_state.proofs.laws.added_jobs_keep_all_sound.Goals as goal

pub returns : goal.returns
returns c = sound-added
