use Rattle.std.proofs.Common.{◌≡◌, ◌+◌, ◌++◌, ◌∷◌, [], map, take, get_or, None, ap, sym, refl, ◌∙◌}
use Rattle.std.proofs.lemmas.List.{take_more}
use Rattle.request_data.specs.declared.state.Final.TheVariants.{Requeue}
use Rattle.job_table.specs.declared.change.Change.TheVariants.{Leave}
use Rattle.job_table.specs.Table.{changed_if}
use Rattle.ctl_pass.specs.Preempting.{preempted}
use Rattle.ctl_pass.proofs.Preempted.{map-nobody, preempted-all_more}
use Rattle.ctl_pass.proofs.limits.preempt.Goals as goal

pub loop-id-init : goal.loop-id-init
loop-id-init c = record {
  records = sym (map-nobody c.args.now c.args.jobs.now.records);
  charges = c.who_leaves_is_charged.ensures.nothing c.args.now c.args.jobs.now;
}

pub loop-id-preserved : goal.loop-id-preserved
loop-id-preserved c =
    let now = c.args.now in
    let gone = c.args.gone.now in
    let i = c.loop-id.id-index in
    let before = c.args.jobs.now.records in
    let id = get_or gone i 0 in
    record {
      records = c.change.ensures.records
          ∙ ap (map (changed_if id (Leave Requeue now None))) c.loop-id.invariant.records
          ∙ preempted-all_more now id (take i gone) before
          ∙ ap (λ some. map (preempted now some) before) (sym (take_more gone i 0 c.loop-id-test.true));
      charges = c.who_leaves_is_charged.ensures.on now _ _ _ c.loop-id.invariant.charges (c.change.ensures.charges now refl);
    }
