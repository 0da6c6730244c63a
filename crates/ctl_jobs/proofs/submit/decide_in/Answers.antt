use Rattle.std.proofs.Common.{sym, ◌∙◌}
use Rattle.ctl_state.specs.State.{state_of}
use Rattle.ctl_jobs.specs.Drafts.{basis_in}
use Rattle.ctl_jobs.proofs.Refused.{rooms}
use Rattle.ctl_jobs.proofs.submit.decide_in.Goals as goal

pub hand_in-requires-clause-numbers : goal.hand_in-requires-clause-numbers
hand_in-requires-clause-numbers c =
    let draft = c.args.draft.now in
    (rooms (state_of c.args.cluster.now) draft.moment draft.user.now draft.desc.now (basis_in draft) (sym c.in_ok-refusal.ensures ∙ c.in-None.is)).1
