use Rattle.std.proofs.Common.{sym}
use Rattle.run_limits.proofs.SpanLemmas.{first_found}
use Rattle.run_limits.proofs.meant.first_of_user.Goals as goal

pub returns-in_default-clause-value : goal.returns-in_default-clause-value
returns-in_default-clause-value c =
    sym (first_found c.args.records.now c.args.user.now c.args.span c.requires
    c.of-own.result.now _ c.of-own.ensures c.in_default.ensures.value)

pub returns-clause-value : goal.returns-clause-value
returns-clause-value c =
    sym (first_found c.args.records.now c.args.user.now c.args.span c.requires
    c.of-own.result.now _ c.of-own.ensures c.in-Some.ensures.value)
