use Rattle.job_table.specs.Targets.{is_named}
use Rattle.job_table.proofs.Awaiting.{filter-between}
use Rattle.job_table.proofs.jobs.Jobs.span_of.Goals as goal

pub returns : goal.returns
returns c =
    let places = c.places_of-places in
    rw c.records.ensures.value
    (filter-between (is_named c.args.target.now) c.args.self.now.records places.result.first places.result.end
    places.ensures.within.0 places.ensures.before places.ensures.behind)
