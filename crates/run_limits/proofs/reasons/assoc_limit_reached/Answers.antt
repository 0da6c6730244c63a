use Rattle.std.proofs.Common.{◌≡◌, ◌+◌, true, false, refl, ap, sym, ◌∙◌}
use Rattle.run_limits.specs.Accounts.{above}
use Rattle.run_limits.specs.declared.counted.Group.TheVariants.{Below}
use Rattle.run_limits.specs.Limits.{Beside, is_above, most_jobs}
use Rattle.run_limits.specs.Tallies.{told}
use Rattle.run_limits.proofs.Reached.{assoc_first}
use Rattle.run_limits.proofs.Telling.{jobs_told, cpus_told, group_told}
use Rattle.run_limits.proofs.reasons.assoc_limit_reached.Goals as goal

pub returns-then-has_jobs_too_many : goal.returns-then-has_jobs_too_many
returns-then-has_jobs_too_many c = λ holding shows.
    let assocs = c.args.assocs.now.records in
    let beside : Beside = record { assocs = assocs; qos = c.args.assocs.now.qos; holding = holding } in
    let job = c.args.job.now in
    let places : c.as_slice-places.result.now ≡ above assocs job.assoc = c.as_slice-places.ensures.value
    ∙ c.above-places.ensures.value in
    let jobs = sym (jobs_told assocs c.args.assocs.now.qos c.args.tally.now holding (above assocs job.assoc) shows)
    ∙ sym (rw places at c.has_jobs_too_many.ensures) in
    sym (assoc_first beside job true _ _ (jobs ∙ c.if-has_jobs_too_many.true) refl refl)

pub returns-then-has_cpus_too_many : goal.returns-then-has_cpus_too_many
returns-then-has_cpus_too_many c = λ holding shows.
    let assocs = c.args.assocs.now.records in
    let beside : Beside = record { assocs = assocs; qos = c.args.assocs.now.qos; holding = holding } in
    let job = c.args.job.now in
    let places : c.as_slice-places.result.now ≡ above assocs job.assoc = c.as_slice-places.ensures.value
    ∙ c.above-places.ensures.value in
    let jobs = sym (jobs_told assocs c.args.assocs.now.qos c.args.tally.now holding (above assocs job.assoc) shows)
    ∙ sym (rw places at c.has_jobs_too_many.ensures) in
    let cpus = sym (cpus_told assocs c.args.assocs.now.qos c.args.tally.now holding
    (above assocs job.assoc) job.cpus shows) ∙ sym (rw places at c.has_cpus_too_many.ensures) in
    sym (assoc_first beside job false true _ (jobs ∙ c.if-has_jobs_too_many.false) (cpus
    ∙ c.if-has_cpus_too_many.true) refl)

pub returns-then-is_job_too_many : goal.returns-then-is_job_too_many
returns-then-is_job_too_many c = λ holding shows.
    let assocs = c.args.assocs.now.records in
    let beside : Beside = record { assocs = assocs; qos = c.args.assocs.now.qos; holding = holding } in
    let job = c.args.job.now in
    let places : c.as_slice-places.result.now ≡ above assocs job.assoc = c.as_slice-places.ensures.value
    ∙ c.above-places.ensures.value in
    let jobs = sym (jobs_told assocs c.args.assocs.now.qos c.args.tally.now holding (above assocs job.assoc) shows)
    ∙ sym (rw places at c.has_jobs_too_many.ensures) in
    let cpus = sym (cpus_told assocs c.args.assocs.now.qos c.args.tally.now holding
    (above assocs job.assoc) job.cpus shows) ∙ sym (rw places at c.has_cpus_too_many.ensures) in
    let own = ap (λ counts. is_above (most_jobs beside job.assoc) (counts.jobs + 1)) (sym
    (group_told assocs c.args.tally.now holding (Below job.assoc) shows))
    ∙ ap (λ limit. is_above limit ((told assocs c.args.tally.now (Below job.assoc)).jobs + 1)) (sym
    (rw places at c.most_jobs.ensures))
    ∙ sym c.is_job_too_many.ensures in
    sym (assoc_first beside job false false true (jobs ∙ c.if-has_jobs_too_many.false) (cpus
    ∙ c.if-has_cpus_too_many.false) (own ∙ c.if-is_job_too_many.true))

pub returns-else-is_job_too_many : goal.returns-else-is_job_too_many
returns-else-is_job_too_many c = λ holding shows.
    let assocs = c.args.assocs.now.records in
    let beside : Beside = record { assocs = assocs; qos = c.args.assocs.now.qos; holding = holding } in
    let job = c.args.job.now in
    let places : c.as_slice-places.result.now ≡ above assocs job.assoc = c.as_slice-places.ensures.value
    ∙ c.above-places.ensures.value in
    let jobs = sym (jobs_told assocs c.args.assocs.now.qos c.args.tally.now holding (above assocs job.assoc) shows)
    ∙ sym (rw places at c.has_jobs_too_many.ensures) in
    let cpus = sym (cpus_told assocs c.args.assocs.now.qos c.args.tally.now holding
    (above assocs job.assoc) job.cpus shows) ∙ sym (rw places at c.has_cpus_too_many.ensures) in
    let own = ap (λ counts. is_above (most_jobs beside job.assoc) (counts.jobs + 1)) (sym
    (group_told assocs c.args.tally.now holding (Below job.assoc) shows))
    ∙ ap (λ limit. is_above limit ((told assocs c.args.tally.now (Below job.assoc)).jobs + 1)) (sym
    (rw places at c.most_jobs.ensures))
    ∙ sym c.is_job_too_many.ensures in
    sym (assoc_first beside job false false false (jobs ∙ c.if-has_jobs_too_many.false) (cpus
    ∙ c.if-has_cpus_too_many.false) (own ∙ c.if-is_job_too_many.false))
