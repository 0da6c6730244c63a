use Rattle.std.proofs.Common.{◌++◌, ◌∷◌, [], length, map, take, unwrap_or, append_assoc, ap, sym, ◌∙◌}
use Rattle.resource_profile.specs.declared.Hold.{Hold}
use Rattle.job_table.specs.declared.record.Part.{Part}
use Rattle.ctl_pass.specs.Limits.{hold_end}
use Rattle.ctl_pass.proofs.Lists.{take-map-more}
use Rattle.ctl_pass.proofs.base.push_holds.Goals as goal

pub loop-part-preserved : goal.loop-part-preserved
loop-part-preserved c =
    let job = c.args.job.now in
    let f : Part → Hold =
    λ part. record {
      node = part.node;
      from = unwrap_or job.started 0;
      until = hold_end c.args.now job;
      cpus =
          length part.cpus;
      mem = part.mem;
    } in
    let more = take-map-more f job.parts c.loop-part.part-index c.part-item.result
    (rw c.as_slice-part-items.ensures at c.loop-part-test.true)
    (rw c.as_slice-part-items.ensures at c.part-item.is) in
    (rw (c.unwrap_or-from.ensures, c.hold_end-until.ensures, c.count_of.ensures, c.loop-part.invariant) at
    c.in_ok-push.ensures.items)
    ∙ append_assoc c.args.holds.now.items (take c.loop-part.part-index (map f job.parts)) (f c.part-item.result ∷ [])
    ∙ ap (λ rest. c.args.holds.now.items ++ rest) (sym more)
