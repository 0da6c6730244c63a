use Rattle.std.proofs.Common.{ap, slice_get, ◌∙◌}
use Rattle.std.specs.Prelude.{filter_map}
use Rattle.run_limits.specs.Accounts.{default_by}
use Rattle.run_limits.proofs.SpanLemmas.{defaults_found}
use Rattle.run_limits.proofs.meant.first_default.Goals as goal

pub returns-clause-value : goal.returns-clause-value
returns-clause-value c =
    c.first_default_by.ensures.value
    ∙ ap (λ own. slice_get (filter_map (default_by c.args.records.now c.args.user.now) own) 0) c.of.ensures
    ∙ ap (λ defaults. slice_get defaults 0) (defaults_found c.args.records.now c.args.user.now c.args.span c.requires)
