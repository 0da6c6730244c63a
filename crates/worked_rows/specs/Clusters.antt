-- The clusters of the rows.
use Rattle.std.specs.Prelude.{ℕ, true, false, List, [], ◌∷◌, Some, None, codes}
use Rattle.plain_data.specs.declared.conf.Settings.{Settings}
use Rattle.plain_data.specs.declared.conf.NodeConf.{NodeConf}
use Rattle.plain_data.specs.declared.conf.PartConf.{PartConf}
use Rattle.plain_data.specs.declared.conf.NodeStart.TheVariants.{Unknown, Down}
use Rattle.plain_data.specs.declared.conf.PartState.TheVariants.{Up}
use Rattle.plain_data.specs.declared.limit.Limit.TheVariants.{Minutes, Unlimited}
use Rattle.plain_data.specs.declared.mem_ask.MemAsk.TheVariants.{PerCpu}
use Rattle.plain_data.specs.declared.assoc.AssocConf.{AssocConf}
use Rattle.plain_data.specs.Assocs.{AssocView}
use Rattle.plain_data.specs.Confs.{ConfView}
use Rattle.run_limits.specs.Accounts.{no_limits, no_qos_limits}
use Rattle.ctl_state.specs.State.{State, opening}

-- the settings of a file that gives none
unfoldable pub usual_settings : Settings
usual_settings = record {
  first_job_id = 1;
  max_job_count = 10000;
  max_array_size = 1001;
  min_job_age = 300;
  slurmd_timeout = 300;
  job_requeue = true;
  slurm_user = codes "root";
  max_age = 10080;
  weight_age = 0;
  weight_fairshare = 0;
  weight_job_size = 0;
  weight_partition = 0;
  weight_qos = 0;
  bf_window = 1440;
  bf_interval = 30;
  mem_default = None;
  preempt = false;
}

-- a partition of no nodes whose file gives nothing else
unfoldable pub usual_partition : PartConf
usual_partition = record {
  name = codes "main";
  nodes = [];
  is_default = true;
  max_time = Unlimited;
  default_time = None;
  state = Up;
  factor = 1;
  tier = 1;
  min_nodes = 0;
  max_nodes = None;
  accounts = None;
  qos = None;
  exclusive = false;
  mem_default = None;
}

-- an account without limits, and one user of it
unfoldable pub usual_account : AssocConf
usual_account = record {
  parent = None;
  name = codes "acct";
  user = false;
  shares = 1;
  default_account = None;
  limits = no_limits;
}

unfoldable pub user_named : List ℕ → AssocConf
user_named name = record usual_account { parent = Some 0; name = name; user = true }

-- the account acct with the users alice and bob, and no quality of service but the one that there always is
unfoldable pub usual_assocs : AssocView
usual_assocs = record {
  assocs = usual_account ∷ user_named (codes "alice") ∷ user_named (codes "bob") ∷ [];
  qos = record { name = codes "normal"; priority = 0; limits = no_qos_limits; preempt = [] } ∷ [];
}

-- one node of four processors; a processor comes with 1,000 megabytes
unfoldable pub one_node : ConfView
one_node = record {
  settings = record usual_settings { slurmd_timeout = 0; mem_default = Some (PerCpu 1000) };
  nodes = record { name = codes "n1"; cpus = 4; mem = 4000; weight = 1; features = []; state = Unknown } ∷ [];
  partitions = record usual_partition { nodes = codes "n1" ∷ [] } ∷ [];
}

-- the state before any request there
unfoldable pub on_one_node : State
on_one_node = opening one_node usual_assocs

-- a node of two processors
unfoldable pub small_node : NodeConf
small_node = record { name = codes "n1"; cpus = 2; mem = 2000; weight = 1; features = []; state = Unknown }

-- three nodes that are up, and one that is down
unfoldable pub four_nodes : ConfView
four_nodes = record {
  settings = usual_settings;
  nodes = small_node ∷ record small_node { name = codes "n2" } ∷ record small_node { name = codes "n3" }
      ∷ record small_node { name = codes "m1"; state = Down } ∷ [];
  partitions = record usual_partition {
    nodes = codes "n1" ∷ codes "n2" ∷ codes "n3" ∷ codes "m1" ∷ [];
    max_time = Minutes 1440;
  } ∷ [];
}

unfoldable pub on_four_nodes : State
on_four_nodes = opening four_nodes usual_assocs
