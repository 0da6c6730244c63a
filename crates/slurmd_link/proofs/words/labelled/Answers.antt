use Rattle.std.proofs.Common.{rules, tests}
use Rattle.std.specs.Prelude.{nat_eq, string_bytes}
use Rattle.std.specs.List.{starts_with}
use Rattle.std.proofs.lemmas.Iterator.{YieldsList-from_slice}
use Rattle.std.proofs.lemmas.Iterator.Search.{find_from_yields_List}
use Rattle.slurmd_link.proofs.words.labelled.Goals as goal

pub returns : goal.returns
returns c = find_from_yields_List (λ word. starts_with nat_eq (string_bytes word) c.args.label.now) _ _ _ c.find.ensures.ran (YieldsList-from_slice c.args.words.now cc) (λ x b q k. search (rules, tests))
