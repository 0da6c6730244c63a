use Rattle.std.proofs.Common.{◌<◌, length, arith}
use Rattle.resource_profile.proofs.EndEdits.{next-is}
use Rattle.resource_profile.proofs.ends.next_end.Goals as goal

pub returns-clause-some : goal.returns-clause-some
returns-clause-some c =
    let within : c.passed-place.result < length c.args.ends.now = omega (arith, c.passed-place.ensures.bound, c.if-place-ends.false) in
    next-is c.args.ends.now c.passed-place.result c.args.after _ c.requires within c.passed-place.ensures.before c.passed-place.ensures.after
