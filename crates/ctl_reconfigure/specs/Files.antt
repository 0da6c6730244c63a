-- What the types of a slurm.conf keep of it.
use Rattle.std.specs.Prelude.{ℕ, ◌≤◌, IfSome, All}
use Rattle.plain_data.specs.Confs.{ConfView, IsConf}
use Rattle.plain_data.specs.declared.conf.NodeConf.{NodeConf}
use Rattle.plain_data.specs.declared.conf.PartConf.{PartConf}
use Rattle.ctl_state.specs.Soundness.{HasRanges, IsLimit}

-- the line of a node is in its ranges
pub record IsNodeConf (conf : NodeConf) : Type 0 where
  pub cpus : (1 ≤ conf.cpus) × (conf.cpus ≤ 1024)
  pub mem : (1 ≤ conf.mem) × (conf.mem ≤ 16777216)

-- the limits of a partition's line are in their ranges
pub record HasPartLimits (conf : PartConf) : Type 0 where
  pub longest : IsLimit conf.max_time
  pub unasked : IfSome conf.default_time IsLimit

-- the file is in its ranges, and its lines are of one cluster
pub record IsFile (conf : ConfView) : Type 0 where
  pub settings : HasRanges conf.settings
  pub nodes : All IsNodeConf conf.nodes
  pub limits : All HasPartLimits conf.partitions
  pub whole : IsConf conf.nodes conf.partitions
