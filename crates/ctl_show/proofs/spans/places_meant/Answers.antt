use Rattle.std.proofs.Common.{subst, sym}
use Rattle.job_table.specs.Targets.{is_named}
use Rattle.ctl_show.specs.Found.{LieWithin}
use Rattle.ctl_show.specs.Showing.{is_meant}
use Rattle.ctl_show.proofs.Walked.{lie-found}
use Rattle.ctl_show.proofs.spans.places_meant.Goals as goal

pub returns-in-None : goal.returns-in-None
returns-in-None c = c.all_places.ensures (is_meant c.args.target.now)

pub returns-in-Some : goal.returns-in-Some
returns-in-Some c =
    let places = c.places_of in
    let jobs = c.args.jobs.now.records in
    let found = lie-found (is_named c.in-Some.target) jobs places.result places.ensures.within places.ensures.before
    places.ensures.behind in
    subst (λ target. LieWithin (is_meant target) jobs places.result) (sym c.in-Some.is) found
