use Rattle.std.proofs.Common.{rules, refl}
use Rattle.small_texts.specs.Fields.{fields}
use Rattle.host_lists.specs.Hosts.{made_by_parts}
use Rattle.host_lists.proofs.BracketLemmas.{is_made}
use Rattle.host_lists.proofs.brackets.make_bracket.Goals as goal

pub loop-rest-init : goal.loop-rest-init
loop-rest-init c =
    let m = is_made (made_by_parts c.args.prefix.now (fields 44 c.args.inside.now)) c.requires.good in
    (c.requires.found, m.some, m.named, refl)

pub returns-clause-names : goal.returns-clause-names
returns-clause-names c =
    let m = is_made (made_by_parts c.args.prefix.now (fields 44 c.args.inside.now)) c.requires.good in
    rw m.same (search rules)
