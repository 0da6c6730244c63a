use Rattle.std.proofs.Common.{◌≡◌, ◌∙◌, length, rules, tests}
use Rattle.std.proofs.lemmas.Iterator.{YieldsList-from_slice, YieldsList-from_zip}
use Rattle.std.proofs.lemmas.Iterator.Search.{all_from_yields_List}
use Rattle.backfill_planner.specs.declared.Placed.{Placed}
use Rattle.ctl_pass.specs.SamePlans.{same_placements}
use Rattle.ctl_pass.proofs.Lists.{pointwise-zip}
use Rattle.ctl_pass.proofs.same_plans.are_same.Goals as goal

pub returns-then-one-other : goal.returns-then-one-other
returns-then-one-other c =
    let one = c.args.one.now in
    let other = c.args.other.now in
    let as_long : length one ≡ length other = c.if-one-other.true in
    let chain = YieldsList-from_zip {s =
    c.zip.result} (YieldsList-from_slice one cc) (YieldsList-from_slice other cc) in
    all_from_yields_List (λ (pair : Placed × Placed). same_placements pair.0 pair.1) c.all.new.self _ c.all.result
    c.all.ensures.ran chain (λ x b q k. search (rules, tests))
    ∙ pointwise-zip same_placements one other as_long
