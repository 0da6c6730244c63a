use Rattle.std.proofs.Common.{[], refl, rules}
use Rattle.small_texts.specs.Fields.{fields}
use Rattle.host_lists.proofs.BracketLemmas.{added-good}
use Rattle.host_lists.proofs.brackets.is_good_bracket.Goals as goal

pub loop-rest-init : goal.loop-rest-init
loop-rest-init c = ([], c.new-counted.ensures c.args.prefix.now, refl)

pub returns-then-not-count_part : goal.returns-then-not-count_part
returns-then-not-count_part c =
    let good = added-good c.args.prefix.now (fields 44 c.args.inside.now) in
    let bad = c.if-not-count_part.ensures.bad c.loop-rest.invariant.0 c.loop-rest.invariant.1 in
    search (rules, good, bad)

pub returns : goal.returns
returns c =
    let good = added-good c.args.prefix.now (fields 44 c.args.inside.now) in
    search (rules, good)
