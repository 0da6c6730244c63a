use Rattle.std.proofs.Common.{arith, get_or, None, ◌∙◌}
use Rattle.request_data.specs.declared.target.Target.{Target}
use Rattle.job_table.specs.Targets.{is_named}
use Rattle.ctl_show.proofs.Walked.{greater, lie-found, lie-more}
use Rattle.ctl_show.proofs.spans.hull_of.Goals as goal

pub loop-target-preserved : goal.loop-target-preserved
loop-target-preserved c =
    let places = c.places_of-places in
    let jobs = c.args.jobs.now.records in
    let targets = c.args.targets.now in
    let at = c.loop-target.target-index in
    let none : Target = record { id = 0; index = None } in
    let target = get_or targets at none in
    let held = c.loop-target.invariant in
    let here = lie-found (is_named target) jobs places.result places.ensures.within places.ensures.before
    places.ensures.behind in
    let least = c.min-first.ensures in
    let most = c.max-end.ensures ∙ greater c.loop-target.end places.result.end in
    lie-more targets at none jobs (record { first = c.loop-target.first; end = c.loop-target.end }) places.result
    (record { first = c.min-first.result; end = c.max-end.result }) c.loop-target-test.true held here
    (omega (arith, least, most, held.within.0, held.within.1, here.within.1), omega (arith, most, held.within.1, here.within.1))
    (omega (arith, least)) (omega (arith, least)) (omega (arith, most)) (omega (arith, most))
