use Rattle.std.proofs.Common.{arith}
use Rattle.run_limits.proofs.Way.{few_opened, rooted_opened}
use Rattle.run_limits.proofs.assocs.Assocs.build.Goals as goal

pub invariant_of-result : goal.invariant_of-result
invariant_of-result c = (
  rw (c.in_ok-records.ensures, c.into_vec.ensures) (rooted_opened c.file.inside.assocs c.file.invariant.under),
  omega (arith, c.if-len.false, c.len.ensures),
  omega (arith, c.if-len-2.false, c.len-else-len.ensures),
  rw (← c.as_slice-2.ensures.value) c.in_ok-users.ensures,
  rw (c.in_ok-records.ensures, c.into_vec.ensures)
      (few_opened c.file.inside.assocs c.file.invariant.few_users c.file.invariant.few_children),
  λ name. rw (← c.as_slice.ensures.value) (c.in_ok-spans.ensures name),
)
