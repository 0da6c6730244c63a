use Rattle.std.proofs.Common.{arith, ◌≡◌, length, decimal, max, ap, sym, ◌∙◌, List, ℕ}
use Rattle.std.specs.List.{list_all}
use Rattle.small_texts.specs.Name.{is_name}
use Rattle.host_lists.specs.Hosts.{Numbers, range_names}
use Rattle.host_lists.proofs.NumberLemmas.{range_names-fit, range_names-long, length-padded, padded-max, above}
use Rattle.host_lists.proofs.brackets.are_names.Goals as goal

pub returns-then-prefix-digits-le-LONGEST_NAME : goal.returns-then-prefix-digits-le-LONGEST_NAME
returns-then-prefix-digits-le-LONGEST_NAME c =
    let n : Numbers = record { first = c.numbers.inside.first; last = c.numbers.inside.last; width = c.numbers.inside.width } in
    let size : c.max-digits.result ≡ max (length (decimal n.last)) n.width = c.max-digits.ensures ∙ ap (λ (x : List ℕ). max (length x) n.width) c.format.ensures.text in
    let fit = range_names-fit c.args.prefix.now n c.numbers.invariant.0 c.numbers.invariant.1 (omega (arith, c.if-prefix-digits-le-LONGEST_NAME.true, size, length-padded n.width n.last, padded-max (length (decimal n.last)) n.width)) in
    c.has_name_bytes.ensures ∙ (sym fit ∙ ap (λ (x : Numbers). list_all is_name (range_names c.args.prefix.now x)) c.numbers.view_is)

pub returns-else-prefix-digits-le-LONGEST_NAME : goal.returns-else-prefix-digits-le-LONGEST_NAME
returns-else-prefix-digits-le-LONGEST_NAME c =
    let n : Numbers = record { first = c.numbers.inside.first; last = c.numbers.inside.last; width = c.numbers.inside.width } in
    let size : c.max-digits.result ≡ max (length (decimal n.last)) n.width = c.max-digits.ensures ∙ ap (λ (x : List ℕ). max (length x) n.width) c.format.ensures.text in
    let long = range_names-long c.args.prefix.now n c.numbers.invariant.0 (omega (arith, c.if-prefix-digits-le-LONGEST_NAME.false, size, length-padded n.width n.last, padded-max (length (decimal n.last)) n.width)) in
    above _ 64 c.if-prefix-digits-le-LONGEST_NAME.false ∙ (sym long ∙ ap (λ (x : Numbers). list_all is_name (range_names c.args.prefix.now x)) c.numbers.view_is)
