use Rattle.std.proofs.Common.{◌∙◌, Bool, ap, sym, arith}
use Rattle.std.specs.Str.{bytes_eq}
use Rattle.job_table.specs.declared.record.JobRecord.{JobRecord}
use Rattle.ctl_state.specs.State.{state_of}
use Rattle.ctl_jobs.proofs.Changed.{step}
use Rattle.ctl_jobs.proofs.changing.change_jobs_of.Goals as goal

pub loop-place-preserved : goal.loop-place-preserved
loop-place-preserved c =
    let s = state_of c.args.cluster.now in
    let held = c.loop-place.invariant in
    let owned : JobRecord → Bool = λ job. bytes_eq job.user c.args.owner.now in
    record {
      walk = step c.a_change_is_of_its_place.ensures.same c.a_walk_changes_all.ensures.goes_on
          c.a_walk_changes_all.ensures.length s
          (state_of c.loop-place.cluster) (state_of c.change_where.new.cluster) c.args.moment c.args.user.now
          c.args.action.now owned
          c.loop-place.place
          c.is-named.result c.index-records-place.result _ _ held.walk (omega arith)
          (rw c.records.ensures.value at c.index-records-place.is)
          (c.is-named.ensures.test ∙ ap owned (sym c.index-records-place.is)) c.change_where.ensures.after;
      charges = c.who_leaves_is_charged.ensures.on c.args.moment _ _ _ held.charges c.change_where.ensures.charges;
      held = c.change_where.ensures.held ∙ held.held;
      end = held.end;
    }
