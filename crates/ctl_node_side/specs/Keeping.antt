-- What is kept while nodes fall silent, and how it is put back where memory is wanting later on.
use Rattle.std.specs.Prelude.{◌≡◌, ℕ, Bool, List, filter, fold, map}
use Rattle.job_table.specs.declared.record.JobRecord.{JobRecord}
use Rattle.job_table.specs.Table.{put_back_if}
use Rattle.ctl_state.specs.declared.cluster.Cluster.{Cluster}
use Rattle.ctl_nodes.specs.Failing.{loses}
use Rattle.ctl_node_side.specs.declared.kept.Kept.{Kept}

-- the jobs once these are put back, each in the place of the one with its number
abbrev pub put_all : List JobRecord → List JobRecord → List JobRecord
put_all kept jobs = fold (λ (jobs : List JobRecord) (one : JobRecord). map (put_back_if one) jobs) jobs kept

-- what is kept of a cluster of which these nodes are lost: the jobs that hold something of them, what the associations
-- had used, the nodes and the moment
pub record Keeps (lost : ℕ → Bool) (c : Cluster) (kept : Kept) : Type 0 where
  pub jobs : kept.jobs.items ≡ filter (loses lost) c.jobs.records
  pub usage : kept.usage.items ≡ c.jobs.usage
  pub nodes : kept.nodes ≡ c.nodes
  pub moment : kept.moment ≡ c.moment

-- the cluster once what was kept is put back
abbrev pub put_back : Kept → Cluster → Cluster
put_back kept c = record c {
  jobs = record { records = put_all kept.jobs.items c.jobs.records; usage = kept.usage.items };
  nodes = kept.nodes;
  moment = kept.moment;
}
