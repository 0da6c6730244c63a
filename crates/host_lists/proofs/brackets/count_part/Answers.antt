use Rattle.std.proofs.Common.{List, ℕ, fold, refl, sym, ◌∙◌, arith}
use Rattle.host_lists.specs.Hosts.{with_name, range_names}
use Rattle.host_lists.proofs.NumberLemmas.{on_true, from_true}
use Rattle.host_lists.proofs.BracketLemmas.{part-good}
use Rattle.host_lists.proofs.brackets.count_part.Goals as goal

pub returns-then-are_names-clause-good : goal.returns-then-are_names-clause-good
returns-then-are_names-clause-good c =
    on_true c.count_numbers.result (λ e names counts.
    let more : List (List ℕ) = fold with_name names (range_names c.args.prefix.now c.in-Some.numbers) in
    let after = from_true c.count_numbers.result e c.count_numbers.ensures.added c.args.prefix.now names counts in
    record {
      more = more;
      made = part-good c.args.prefix.now c.args.part.now names more c.in-Some.numbers (sym c.read_numbers.ensures ∙ c.in-Some.is) (sym c.are_names.ensures ∙ c.if-are_names.true) refl (omega (arith, after.count, c.count_numbers.new.counted.few));
      counts = after;
    })
