-- The files of the cluster of simulations.
use Rattle.std.specs.Prelude.{ℕ, List, codes}

-- its file slurm.conf: 64 nodes of 32 processors in one partition
unfoldable pub simulated_conf : List ℕ
simulated_conf = codes "DefMemPerCPU=1000\nNodeName=n[01-64] CPUs=32 RealMemory=32000\nPartitionName=main Nodes=ALL Default=YES\n"

-- its association file: the four users of generated scripts, in one account
unfoldable pub simulated_assocs : List ℕ
simulated_assocs = codes "Cluster - 'cluster'\nParent - 'root'\nAccount - 'acct'\nParent - 'acct'\nUser - 'u1'\nUser - 'u2'\nUser - 'u3'\nUser - 'u4'\n"
