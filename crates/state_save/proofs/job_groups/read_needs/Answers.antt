use Rattle.std.proofs.Common.{refl}
use Rattle.state_save.specs.Groups.{needs_in}
use Rattle.state_save.proofs.job_groups.read_needs.Goals as goal

pub returns-clause-value : goal.returns-clause-value
unfolding needs_in
returns-clause-value c = rw (c.in_ok-at_once.ensures.value, c.in_ok-features.ensures.value, c.in_ok-required.ensures.value, c.in_ok-excluded.ensures.value, c.in_ok-dependency.ensures.value) refl
