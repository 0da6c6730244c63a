use Rattle.ctl_pass.specs.Readiness.{ready}
use Rattle.ctl_pass.proofs.Planned.{plan-candidates}
use Rattle.ctl_pass.proofs.laws.planned_jobs_are_candidates.Goals as goal

pub returns : goal.returns
returns c = λ s now. plan-candidates c.a_stable_sort_makes_the_order.ensures.moves
    c.placements_are_of_ranked_jobs.ensures.ids (ready s now) now
