-- Those that are left out stay as they are.
use Rattle.std.proofs.Common.{◌∙◌, ◌≡◌, ◌<◌, false, length, ap, sym, refl, arith}
use Rattle.std.proofs.lemmas.List.{drop_all}
use Rattle.std.proofs.lemmas.List.Elements.{All-nil}
use Rattle.std.specs.List.{AllWithin}
use Rattle.job_table.specs.declared.record.JobRecord.{JobRecord}
use Rattle.job_table.specs.Walks.{map_at, walked}
use Rattle.ctl_node_side.specs.Leaving.{AreOnNodes}
use Rattle.ctl_node_side.specs.Reporting.{is_at, reported}
use Rattle.ctl_node_side.proofs.ReportPlaces.{unwalked}
use Rattle.ctl_node_side.proofs.Skipped.{gap-walked}
use Rattle.ctl_node_side.proofs.jobs.report_jobs.Goals as goal

pub report_job-requires-clause-there : goal.report_job-requires-clause-there
report_job-requires-clause-there c = (rw c.in-Some.is at c.next_on.ensures.there).1

pub report_job-requires-clause-on : goal.report_job-requires-clause-on
report_job-requires-clause-on c =
    let held = c.loop-place.invariant in
    let jobs = c.args.jobs.now.records in
    let walk = c.a_walk_changes_all.ensures in
    let change : JobRecord → JobRecord = reported c.args.now c.args.node c.args.report.now in
    let from = c.loop-place.from in
    let place = c.in-Some.place in
    let there = rw c.in-Some.is at c.next_on.ensures.there in
    let long : length c.loop-place.jobs.records ≡ length jobs = ap length held.walk ∙ walk.length change from jobs in
    let inside : place < length jobs = omega (arith, there.1, long) in
    let gap : walked change place jobs ≡ walked change from jobs =
    gap-walked walk.leaves_out walk.rest change (λ job. is_at c.args.node job ≡ false) (λ job none. rw none refl) from place jobs
    c.loop-place.jobs.records held.walk there.0 (omega (arith, inside)) (rw c.in-Some.is at c.next_on.ensures.before) in
    rw (held.nodes, held.walk, ← gap)
    (unwalked walk.rest (λ (job : JobRecord). AreOnNodes (length c.args.nodes.now.records) job.parts) change place jobs inside
    c.requires.on)

pub loop-place-smaller : goal.loop-place-smaller
loop-place-smaller c =
    let held = c.loop-place.invariant in
    let there = rw c.in-Some.is at c.next_on.ensures.there in
    let change : JobRecord → JobRecord = reported c.args.now c.args.node c.args.report.now in
    omega (
      arith,
      there.0,
      there.1,
      ap length held.walk,
      c.a_walk_changes_all.ensures.length change c.loop-place.from c.args.jobs.now.records,
    )

pub loop-place-preserved : goal.loop-place-preserved
loop-place-preserved c =
    let held = c.loop-place.invariant in
    let step = c.report_job.ensures in
    let jobs = c.args.jobs.now.records in
    let walk = c.a_walk_changes_all.ensures in
    let change : JobRecord → JobRecord = reported c.args.now c.args.node c.args.report.now in
    let from = c.loop-place.from in
    let place = c.in-Some.place in
    let there = rw c.in-Some.is at c.next_on.ensures.there in
    let long : length c.loop-place.jobs.records ≡ length jobs = ap length held.walk ∙ walk.length change from jobs in
    let inside : place < length jobs = omega (arith, there.1, long) in
    let gap : walked change place jobs ≡ walked change from jobs =
    gap-walked walk.leaves_out walk.rest change (λ job. is_at c.args.node job ≡ false) (λ job none. rw none refl) from place jobs
    c.loop-place.jobs.records held.walk there.0 (omega (arith, inside)) (rw c.in-Some.is at c.next_on.ensures.before) in
    record {
      walk = step.jobs ∙ ap (map_at place change) (held.walk ∙ sym gap) ∙ walk.goes_on change place jobs inside;
      charges = c.who_leaves_is_charged.ensures.on c.args.now _ _ _ held.charges step.charges;
      within = omega (arith, inside);
      nodes = step.nodes ∙ held.nodes;
      shown = step.shown;
    }

pub returns-clause-jobs : goal.returns-clause-jobs
returns-clause-jobs c =
    let held = c.loop-place.invariant in
    let jobs = c.args.jobs.now.records in
    let walk = c.a_walk_changes_all.ensures in
    let change : JobRecord → JobRecord = reported c.args.now c.args.node c.args.report.now in
    let from = c.loop-place.from in
    let long : length c.loop-place.jobs.records ≡ length jobs = ap length held.walk ∙ walk.length change from jobs in
    let none : AllWithin (λ job. is_at c.args.node job ≡ false) c.loop-place.jobs.records from (length jobs) =
    rw long at (rw c.in_default.is at c.next_on.ensures.before) in
    let gap : walked change (length jobs) jobs ≡ walked change from jobs =
    gap-walked walk.leaves_out walk.rest change (λ job. is_at c.args.node job ≡ false) (λ job off. rw off refl) from
    (length jobs) jobs c.loop-place.jobs.records held.walk held.within (omega arith) none in
    held.walk ∙ sym gap
    ∙ walk.ends change (length jobs) jobs
    (rw (drop_all (length jobs) jobs (omega arith)) (All-nil (λ job. change job ≡ job)))
