use Rattle.ctl_state.specs.Planning.{places_for, plan_job}
use Rattle.ctl_state.proofs.Choosing.{among-once, among-there, places-once, places-there}
use Rattle.ctl_state.proofs.laws.jobs_get_nodes_that_are_there.Goals as goal

pub returns-clause-places : goal.returns-clause-places
returns-clause-places c = places-there

pub returns-clause-nodes : goal.returns-clause-nodes
unfolding plan_job
returns-clause-nodes c = λ nodes reservations partition barred bounds job on.
    let places = places_for nodes reservations partition job.terms.reservation in (
      among-there nodes job.terms places (places-there nodes reservations partition job.terms.reservation on),
      among-once nodes job.terms places (places-once nodes reservations partition job.terms.reservation on),
    )
