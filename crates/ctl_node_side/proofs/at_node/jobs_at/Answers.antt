-- None that is left out holds something of the node.
use Rattle.std.proofs.Common.{◌∙◌, ◌++◌, ◌∷◌, ◌<◌, [], ap, sym, arith}
use Rattle.std.specs.List.{filter}
use Rattle.ctl_node_side.specs.Reporting.{is_at}
use Rattle.std.proofs.lemmas.List.Kept.{AllPairs-filter}
use Rattle.job_table.specs.declared.record.JobRecord.{JobRecord}
use Rattle.ctl_node_side.proofs.Skipped.{filter-next, filter-rest}
use Rattle.ctl_node_side.proofs.at_node.jobs_at.Goals as goal

pub loop-place-smaller : goal.loop-place-smaller
loop-place-smaller c =
    let there = rw c.in-Some.is at c.next_on.ensures.there in omega (arith, there.0, there.1)

pub loop-place-preserved : goal.loop-place-preserved
loop-place-preserved c =
    let held = c.loop-place.invariant in
    let jobs = c.args.jobs.now.records in
    let at = is_at c.args.node in
    let there = rw c.in-Some.is at c.next_on.ensures.there in
    let job = c.index-records-place.result in
    let is = rw c.records-records.ensures.value at c.index-records-place.is in
    record {
      found = c.in_ok-add.ensures
          ∙ ap (λ front. front ++ filter at (job ∷ [])) held.found
          ∙ sym (filter-next at c.loop-place.from c.in-Some.place jobs job there.0 there.1 is
          (rw c.in-Some.is at c.next_on.ensures.before));
      within = omega (arith, there.1);
    }

pub returns-clause-found : goal.returns-clause-found
returns-clause-found c =
    let held = c.loop-place.invariant in
    held.found
    ∙ filter-rest (is_at c.args.node) c.loop-place.from c.args.jobs.now.records held.within
    (rw c.in_default.is at c.next_on.ensures.before)

pub returns-clause-rising : goal.returns-clause-rising
returns-clause-rising c =
    let jobs = c.args.jobs.now.records in
    rw (returns-clause-found c)
    (AllPairs-filter (λ (one other : JobRecord). one.id < other.id) (is_at c.args.node) jobs
    c.records-records.ensures.rising)
