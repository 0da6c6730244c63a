use Rattle.std.proofs.Common.{◌∙◌, ap, refl, None}
use Rattle.request_data.specs.declared.state.Final.TheVariants.{Cancelled}
use Rattle.request_data.specs.declared.state.JobState.TheVariants.{Pending, Running, Completing}
use Rattle.job_table.specs.declared.change.Change.TheVariants.{CancelPending, CancelRequeue, Leave}
use Rattle.job_table.specs.Changes.{changed}
use Rattle.job_table.specs.Walks.{map_at}
use Rattle.ctl_jobs.proofs.Changed.{cancelled_at}
use Rattle.ctl_jobs.proofs.changing_one.cancel_at.Goals as goal
use Rattle.ctl_jobs.proofs.changing_one.cancel_at.Goals.{in-Pending, in-Running, in-Completing}

pub returns-clause-jobs : goal.returns-clause-jobs
returns-clause-jobs c =
    let jobs = c.args.jobs.now.records in
    let now = c.args.moment in
    let same = c.a_change_is_of_its_place.ensures.same in
    let value = c.records.ensures.value in
    elim c.match-records-place.branch [
      | in-Pending w ↦
          c.change_at.ensures.records ∙ ap (λ change. map_at c.args.place (changed change) jobs) w.change-is
          ∙ cancelled_at same now c.args.place jobs _ Pending (CancelPending now) c.requires
          (rw value at w.in-Pending.is) (λ job. refl)
      | in-Running w ↦
          c.change_at.ensures.records ∙ ap (λ change. map_at c.args.place (changed change) jobs) w.change-is
          ∙ cancelled_at same now c.args.place jobs _ Running (Leave Cancelled now None) c.requires
          (rw value at w.in-Running.is) (λ job. refl)
      | in-Completing w ↦
          c.change_at.ensures.records ∙ ap (λ change. map_at c.args.place (changed change) jobs) w.change-is
          ∙ cancelled_at same now c.args.place jobs _ (Completing w.in-Completing.field-0) CancelRequeue c.requires
          (rw value at w.in-Completing.is) (λ job. refl)
    ]
