use Rattle.std.proofs.Common.{◌≡◌, length, arith}
use Rattle.std.proofs.Math.Seq.{take-append_seam}
use Rattle.job_table.specs.declared.record.Part.{Part}
use Rattle.ctl_show.proofs.Stands.{counts-none}
use Rattle.ctl_show.proofs.held.cpus_held.Goals as goal

pub returns-clause-counts : goal.returns-clause-counts
returns-clause-counts c =
    let held = c.in_ok-held.held in
    let counts = c.count_cpus_of_jobs.new.counts in
    let none = counts-none (λ (part : Part). length part.cpus) held.items _
    (c.in_ok-held.ensures.items_if_clones_equal (λ y same. same)) in
    let long : held.len ≡ length counts = omega (arith, c.count_cpus_of_jobs.auto.counts, c.deref_mut.ensures.len) in
    rw (long, take-append_seam)
    (rw c.records-2.ensures.value at (c.count_cpus_of_jobs.ensures (rw c.deref_mut.ensures.value none)))
