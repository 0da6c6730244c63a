-- The next one's number is above all that are in.
use Rattle.std.proofs.Common.{◌++◌, length, ap, arith}
use Rattle.std.specs.Map.{values_of}
use Rattle.std.specs.Vec.Iter.{into_iter_items}
use Rattle.job_table.proofs.Entries.{above-done, more-done}
use Rattle.job_table.proofs.jobs.insert_all.Goals as goal

pub insert-requires-clause-above : goal.insert-requires-clause-above
insert-requires-clause-above c =
    let whole = values_of c.args.by_id.now.entries ++ c.args.more.items in
    above-done (values_of c.loop-job.by_id.entries) c.in-Some.job (into_iter_items c.next.new.self)
    (into_iter_items c.loop-job.job-iterator) whole c.in-Some.ensures.steps.0 c.loop-job.invariant.all c.requires.rising

pub loop-job-preserved : goal.loop-job-preserved
loop-job-preserved c =
    let whole = values_of c.args.by_id.now.entries ++ c.args.more.items in
    let done = more-done c.insert.new.by_id.entries (values_of c.loop-job.by_id.entries) c.in-Some.job
    (into_iter_items c.next.new.self) (into_iter_items c.loop-job.job-iterator) whole c.insert.ensures.entries
    c.in-Some.ensures.steps.0 c.loop-job.invariant.all c.requires.rising in
    record {
      table = done.0;
      all = done.1;
      room = omega (arith, ap length c.in-Some.ensures.steps.0, c.loop-job.invariant.room, c.insert.ensures.room);
      next = tt;
      finite = tt;
    }
