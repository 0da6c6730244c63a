use Rattle.ctl_state.proofs.Kept.{kept-later, kept-let_go, lets_go-same, lets_go-twice}
use Rattle.ctl_state.proofs.laws.jobs_are_kept.Goals as goal

pub returns : goal.returns
returns c = record { later = kept-later; let_go = λ now. kept-let_go now now; same = lets_go-same; twice = lets_go-twice }
