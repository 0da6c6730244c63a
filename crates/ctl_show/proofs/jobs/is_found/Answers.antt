use Rattle.std.proofs.Common.{◌∙◌}
use Rattle.job_table.specs.Targets.{is_named}
use Rattle.ctl_show.proofs.Gathered.{list_any-cut}
use Rattle.ctl_show.proofs.jobs.is_found.Goals as goal

pub returns : goal.returns
returns c =
    let places = c.places_of-places in
    let named = is_named c.args.target.now in
    let found = list_any-cut named c.args.jobs.now.records places.result.first places.result.end
    places.ensures.within.0 places.ensures.before places.ensures.behind in
    c.names_any.ensures ∙ rw c.records.ensures.value found
