use Rattle.std.proofs.Common.{◌∙◌, ap}
use Rattle.job_table.specs.Table.{JobsView}
use Rattle.ctl_state.specs.declared.cluster.Cluster.{Cluster}
use Rattle.ctl_node_side.specs.Keeping.{put_all}
use Rattle.ctl_node_side.proofs.Back.{view_is}
use Rattle.ctl_node_side.proofs.kept.put_back.Goals as goal

pub returns : goal.returns
returns c =
    let put : JobsView → Cluster = λ jobs. record c.args.cluster.now {
      jobs = jobs;
      nodes = c.args.kept.nodes;
      moment = c.args.kept.moment;
    } in
    ap put
    (view_is c.put_usage_back.new.self (put_all c.args.kept.jobs.items c.args.cluster.now.jobs.records)
    c.args.kept.usage.items (c.put_usage_back.ensures.records ∙ c.put_jobs_back.ensures.records)
    c.put_usage_back.ensures.usage)
