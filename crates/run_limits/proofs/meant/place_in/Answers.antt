use Rattle.std.proofs.Common.{sym}
use Rattle.run_limits.proofs.SpanLemmas.{place_found}
use Rattle.run_limits.proofs.meant.place_in.Goals as goal

pub returns-in_default-clause-value : goal.returns-in_default-clause-value
returns-in_default-clause-value c =
    sym (place_found c.args.records.now c.args.user.now c.args.account.now c.args.span c.requires
    c.of-own.result.now _ c.of-own.ensures c.in_default.ensures.value)

pub returns-clause-value : goal.returns-clause-value
returns-clause-value c =
    sym (place_found c.args.records.now c.args.user.now c.args.account.now c.args.span c.requires
    c.of-own.result.now _ c.of-own.ensures c.in-Some.ensures.value)
