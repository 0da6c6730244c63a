use Rattle.std.proofs.Common.{rules, ◌≡◌, Some, ◌∙◌, arith}
use Rattle.std.proofs.lemmas.Grind.{common_steps}
use Rattle.sbatch_reader.specs.Dependency.{is_any, items_in}
use Rattle.sbatch_reader.proofs.DependencyLemmas.{one_is_needed}
use Rattle.sbatch_reader.proofs.dependency.read_dependency.Goals as goal

pub returns-then-name_few_jobs-clause-single : goal.returns-then-name_few_jobs-clause-single
returns-then-name_few_jobs-clause-single c =
    λ one. let any : c.contains-any.result ≡ is_any c.args.text.now = search rules in
    let read : items_in c.args.text.now ≡ Some c.in_ok-items.items = grind (arith, common_steps) in
    any ∙ one_is_needed c.args.text.now c.in_ok-items.items read one
