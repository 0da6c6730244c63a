-- What is retained is what isn't on the node.
use Rattle.std.proofs.Common.{◌∙◌, ◌≡◌, ap, rules, tests, not, Bool}
use Rattle.std.proofs.lemmas.Fn.{filter_same}
use Rattle.job_table.specs.declared.record.Part.{Part}
use Rattle.job_table.specs.Changes.{is_on, parts_off}
use Rattle.job_table.proofs.change.drop_parts.Goals as goal

pub returns : goal.returns
returns c =
    let same : c.into_vec-rest.result.items ≡ c.args.parts.now = cc in
    let stays : Part → Bool = λ part. not (is_on c.args.node part) in
    c.from_vec-2.ensures
    ∙ filter_same _ stays _ (λ x b f' k. search (rules, tests)) _ _ c.retain.ensures.filtered
    ∙ ap (parts_off c.args.node) same
