use Rattle.std.proofs.Common.{refl}
use Rattle.state_save.specs.Groups.{names_in}
use Rattle.state_save.proofs.job_groups.read_names.Goals as goal

pub returns-clause-value : goal.returns-clause-value
unfolding names_in
returns-clause-value c = rw (c.in_ok-name.ensures.value, c.in_ok-user.ensures.value, c.in_ok-account.ensures.value, c.in_ok-partition.ensures.value, c.in_ok-qos.ensures.value, c.in_ok-reservation.ensures.value) refl
