-- What holds of the opening state: nothing is held.
use Rattle.std.proofs.Common.{◌≡◌, ◌≤◌, List, [], ◌∷◌, map, length, All, refl, ap, arith}
use Rattle.plain_data.specs.declared.conf.NodeConf.{NodeConf}
use Rattle.resource_profile.specs.declared.NodeRoom.{NodeRoom}
use Rattle.job_table.specs.declared.record.JobRecord.{JobRecord}
use Rattle.node_state.specs.declared.record.Held.{Held}
use Rattle.node_state.specs.declared.record.NodeRecord.{NodeRecord}
use Rattle.node_state.specs.Held.{HoldsNothing}
use Rattle.node_state.specs.Nodes.{opened}
use Rattle.node_state.specs.Partitions.{IsOnNodes}
use Rattle.plain_data.specs.Confs.{node_names}
use Rattle.ctl_state.specs.State.{State, last_job_id}
use Rattle.ctl_state.specs.Holding.{times_held, mem_held, parts_of, IsHeldOnce}
use Rattle.ctl_state.specs.Index.{ShowsParts}
use Rattle.ctl_state.specs.Planning.{room_of}
use Rattle.ctl_state.specs.Soundness.{IsSound, HasRanges, HasLimits, AreNodes}

pub none-held : (rooms : List NodeRoom) → IsHeldOnce rooms []
unfolding times_held mem_held
none-held rooms = record {
  each = λ k d within. absurd (omega (arith, within));
  once = λ node cpu. omega arith;
  mem = λ node. omega arith;
}
