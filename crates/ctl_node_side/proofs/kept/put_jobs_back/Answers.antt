use Rattle.std.proofs.Common.{◌∙◌, List, ap, map, sym}
use Rattle.std.proofs.lemmas.List.Sums.{fold_push}
use Rattle.job_table.specs.declared.record.JobRecord.{JobRecord}
use Rattle.job_table.specs.Table.{put_back_if}
use Rattle.ctl_node_side.proofs.kept.put_jobs_back.Goals as goal

pub loop-job-preserved : goal.loop-job-preserved
loop-job-preserved c =
    let so_far = c.loop-job.invariant in
    let job = c.in-Some.job in
    record {
      records = c.put_back.ensures.records ∙ ap (map (put_back_if job)) so_far.records
          ∙ sym (fold_push (λ (jobs : List JobRecord) (one : JobRecord). map (put_back_if one) jobs)
          c.args.jobs.now.records c.loop-job.yielded job);
      usage = c.put_back.ensures.usage ∙ so_far.usage;
      next = tt;
      finite = tt;
    }
