use Rattle.std.proofs.Common.{◌∙◌, ◌≡◌, ap, false, drop, refl, arith}
use Rattle.std.proofs.lemmas.List.Elements.{All-weaker}
use Rattle.job_table.specs.declared.record.JobRecord.{JobRecord}
use Rattle.job_table.specs.Targets.{is_named}
use Rattle.ctl_state.specs.State.{state_of}
use Rattle.ctl_jobs.specs.Changing.{done_where}
use Rattle.ctl_jobs.proofs.Changed.{step}
use Rattle.ctl_jobs.proofs.changing.change_target.Goals as goal

pub loop-place-preserved : goal.loop-place-preserved
loop-place-preserved c =
    let s = state_of c.args.cluster.now in
    let held = c.loop-place.invariant in
    record {
      walk = step c.a_change_is_of_its_place.ensures.same c.a_walk_changes_all.ensures.goes_on
          c.a_walk_changes_all.ensures.length s
          (state_of c.loop-place.cluster) (state_of c.change_where.new.cluster) c.args.moment c.args.user.now
          c.args.action.now (is_named c.args.target.now) c.loop-place.place
          c.is_named-named.result c.index-records-place.result _ _ held.walk (omega arith)
          (rw c.records.ensures.value at c.index-records-place.is)
          c.is_named-named.ensures c.change_where.ensures.after;
      charges = c.who_leaves_is_charged.ensures.on c.args.moment _ _ _ held.charges c.change_where.ensures.charges;
      held = c.change_where.ensures.held ∙ held.held;
      end = held.end;
    }

pub returns-clause-after : goal.returns-clause-after
returns-clause-after c =
    let s = state_of c.args.cluster.now in
    let jobs = c.args.cluster.now.jobs.records in
    let target = c.args.target.now in
    let change : JobRecord → JobRecord = λ job. done_where s c.args.moment c.args.user.now c.args.action.now
    (is_named target job) job in
    let within = c.places_of-places.ensures.within in
    let last : c.places_of-places.result.end ≡ c.loop-place.place = omega arith in
    let behind = rw last at c.places_of-places.ensures.behind in
    c.loop-place.invariant.walk
    ∙ ap (λ jobs. record s { jobs = jobs; usage = c.loop-place.cluster.jobs.usage })
    (c.a_walk_changes_all.ensures.ends change c.loop-place.place jobs
    (All-weaker (λ job. is_named target job ≡ false) (λ job. change job ≡ job) (λ job other. rw other refl)
    (drop c.loop-place.place jobs) behind))
