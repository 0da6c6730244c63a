use Rattle.std.proofs.Common.{◌≡◌, ◌≤◌, ◌++◌, ◌∙◌, true, fold, sym, subst, arith}
use Rattle.std.specs.List.{list_all}
use Rattle.small_texts.specs.Name.{is_name}
use Rattle.host_lists.specs.Hosts.{Numbers, padded, with_name, range_names}
use Rattle.host_lists.proofs.CountLemmas.{fold-all}
use Rattle.host_lists.proofs.FoundLemmas.{range-piece}
use Rattle.host_lists.proofs.NumberLemmas.{one_named}
use Rattle.host_lists.proofs.brackets.make_names.Goals as goal

pub add_run-requires-clause-named : goal.add_run-requires-clause-named
add_run-requires-clause-named c = λ number least most.
    let n : Numbers = record { first = c.numbers.inside.first; last = c.numbers.inside.last; width = c.numbers.inside.width } in
    one_named c.args.prefix.now n number (omega (arith, c.loop-number.invariant.least, least)) (omega (arith, most, c.min-end.ensures)) (subst (λ (x : Numbers). list_all is_name (range_names c.args.prefix.now x) ≡ true) (sym c.numbers.view_is) c.requires.named)

pub loop-number-preserved : goal.loop-number-preserved
loop-number-preserved c =
    let next : c.loop-number.number ≤ c.min-end.result = omega (arith, c.min-end.ensures, c.loop-number-test.true) in
    record {
      least = omega (arith, next, c.loop-number.invariant.least);
      most = omega (arith, c.min-end.ensures);
      found = c.in_ok-add_run.ensures.found;
      names = range-piece (λ n. c.args.prefix.now ++ padded c.numbers.inside.width n) c.args.found.now.names.keys c.loop-number.found.names.keys c.add_run.new.self.names.keys c.numbers.inside.first c.loop-number.number c.min-end.result c.loop-number.invariant.least next c.loop-number.invariant.names c.in_ok-add_run.ensures.names;
    }

pub returns-clause-names : goal.returns-clause-names
returns-clause-names c =
    let n : Numbers = record { first = c.numbers.inside.first; last = c.numbers.inside.last; width = c.numbers.inside.width } in
    subst (λ (x : Numbers). c.loop-number.found.names.keys ≡ fold with_name c.args.found.now.names.keys (range_names c.args.prefix.now x)) c.numbers.view_is (c.loop-number.invariant.names ∙ fold-all c.args.prefix.now n c.loop-number.number c.args.found.now.names.keys (omega (arith, c.loop-number.invariant.most, c.loop-number-test.false)))
