use Rattle.std.proofs.Common.{◌≡◌, sym, ap, ◌∙◌, None, bytes_eq, arith}
use Rattle.std.specs.HashMap.{get}
use Rattle.std.specs.Option.{option_copied}
use Rattle.run_limits.specs.Accounts.{AssocsView, place_meant}
use Rattle.run_limits.proofs.SpanLemmas.{none_meant}
use Rattle.run_limits.proofs.assocs.Assocs.find.Goals as goal

pub returns-in_default-clause-value : goal.returns-in_default-clause-value
returns-in_default-clause-value c =
    let user = c.args.user.now in
    let account = option_copied c.args.account in
    let none : get bytes_eq c.self.inside.spans user ≡ None = grind (arith, c.in_default.ensures.value) in
    sym (none_meant c.self.inside.records.items user account (rw none at (c.self.invariant.5 user)))
    ∙ ap (λ (assocs : AssocsView). place_meant assocs.records user account) c.self.view_is
