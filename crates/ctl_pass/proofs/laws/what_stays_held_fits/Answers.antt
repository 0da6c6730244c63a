use Rattle.std.proofs.Common.{get_or}
use Rattle.ctl_pass.specs.Limits.{timed_out}
use Rattle.ctl_pass.specs.Readiness.{goes}
use Rattle.ctl_pass.proofs.Beside.{within-beside}
use Rattle.ctl_pass.proofs.Readied.{going, gone-empty, timed_out-parts}
use Rattle.ctl_pass.proofs.laws.what_stays_held_fits.Goals as goal

pub returns : goal.returns
returns c = λ s now high sound raised in_time.
    let gone = going c.who_is_awaited_stays.ensures.changes s now in
    let stay = c.parts_stay.ensures.stay s.jobs (timed_out now) (goes s now)
    (λ k d below. timed_out-parts now (get_or s.jobs k d))
    (λ k d below. gone-empty now (goes s now) (get_or s.jobs k d) gone (sound.jobs k d below).parts) in
    within-beside c.a_stable_sort_makes_the_order.ensures.moves s now high sound raised in_time
    (c.what_is_due_can_start.ensures s now sound raised in_time) stay
