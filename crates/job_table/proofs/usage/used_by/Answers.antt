-- A count that stands still, times seconds.
use Rattle.std.proofs.Common.{◌≡◌, ◌-◌, ◌*◌, min, length, ap, ◌∙◌}
use Rattle.std.specs.Prelude.{sum_by, unwrap_or}
use Rattle.job_table.specs.declared.record.Part.{Part}
use Rattle.job_table.specs.Usage.{cpus_held, used_by}
use Rattle.job_table.proofs.Charging.{most, times-bounded}
use Rattle.job_table.proofs.usage.used_by.Goals as goal

pub returns : goal.returns
unfolding used_by
returns c =
    let job = c.args.job.now in
    let count : c.cpus_in.result ≡ min (cpus_held job) most = c.cpus_in.ensures
    ∙ ap (λ parts. min (sum_by (λ (part : Part). length part.cpus) parts) most) c.as_slice.ensures in
    let seconds : c.saturating_sub.result ≡ c.args.now - unwrap_or job.started 0 =
    c.saturating_sub.ensures ∙ ap (λ start. c.args.now - start) c.unwrap_or.ensures in
    c.saturating_mul.ensures
    ∙ ap (λ n. min (n * c.saturating_sub.result) most) count
    ∙ ap (λ n. min (min (cpus_held job) most * n) most) seconds
    ∙ times-bounded (cpus_held job) (c.args.now - unwrap_or job.started 0)
