use Rattle.std.proofs.Common.{◌<◌, subst, sym}
use Rattle.job_table.specs.declared.record.Part.{Part}
use Rattle.job_table.specs.Changes.{is_on}
use Rattle.ctl_reconfigure.proofs.Anys.{any-beside}
use Rattle.ctl_reconfigure.proofs.blocking.insert_parts.Goals as goal

pub insert-requires : goal.insert-requires
insert-requires c =
    subst (λ (part : Part). part.node < 1024) (sym c.part-item.is)
    (c.requires c.loop-part.part-index c.part-item.result c.loop-part-test.true)

pub loop-part-preserved : goal.loop-part-preserved
loop-part-preserved c = λ place.
    any-beside (is_on place) c.args.parts.now c.loop-part.part-index c.part-item.result _ _ _ c.loop-part-test.true
    c.part-item.is (c.loop-part.invariant place) (c.insert.ensures.added place)
