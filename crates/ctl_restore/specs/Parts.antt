-- The parts of a restored state. Of the proof alone: no statement on what is restored speaks of them.
use Rattle.std.specs.Prelude.{◌≡◌, ◌≢◌, ℕ, true, List, [], map, filter, All, AllPairs}
use Rattle.node_state.specs.declared.record.NodeRecord.{NodeRecord}
use Rattle.node_state.specs.Held.{HoldsNothing}
use Rattle.node_state.specs.Reservations.{AreReservations}
use Rattle.job_table.specs.declared.record.JobRecord.{JobRecord}
use Rattle.run_limits.specs.declared.record.AssocRecord.{AssocRecord}
use Rattle.ctl_state.specs.declared.cluster.Cluster.{Cluster}
use Rattle.ctl_state.specs.Holding.{IsHeldOnce, parts_of}
use Rattle.ctl_state.specs.Planning.{room_of}
use Rattle.ctl_state.specs.Soundness.{AreUp, IsKept, IsSound}
use Rattle.ctl_state.specs.State.{State, state_of}
use Rattle.saved_data.specs.declared.parts.SavedNode.{SavedNode}
use Rattle.saved_data.specs.declared.parts.SavedUsage.{SavedUsage}
use Rattle.saved_data.specs.declared.saved.Saved.{Saved}
use Rattle.ctl_restore.specs.declared.restoring.Parts.{Parts}
use Rattle.ctl_restore.specs.Fits.{AreOfOthers, HasSeconds, IsKnown, is_user_of}
use Rattle.ctl_restore.specs.Restored.{gone_names, is_gone, restored_array, restored_job, restored_placed, restored_reservation, standings}
use Rattle.ctl_restore.specs.Steps.{IsPlain, IsUnheard}

-- the parts are those of what is saved, in a state that has only opened
pub record ArePartsOf (s : State) (saved : Saved) (parts : Parts) : Type 0 where
  pub dropped : parts.dropped.items ≡ filter (is_gone s.nodes) saved.dropped
  pub jobs : parts.jobs.items ≡ map (restored_job s) saved.jobs
  pub arrays : parts.arrays.items ≡ map restored_array saved.arrays
  pub plan : parts.plan.items ≡ map (restored_placed s.nodes (gone_names s.nodes saved.plan)) saved.plan
  pub gone : parts.gone.items ≡ gone_names s.nodes saved.plan

-- usage is told of associations that there are, and differ
pub record TellsUsage (assocs : List AssocRecord) (saved : Saved) : Type 0 where
  pub known : All (λ (line : SavedUsage). is_user_of assocs line.user line.account ≡ true) saved.usage
  pub apart : AllPairs AreOfOthers saved.usage

-- the reservations can stand beside each other
pub record AreReserved (nodes : List NodeRecord) (saved : Saved) : Type 0 where
  pub seconds : All HasSeconds saved.reservations
  pub apart : AreReservations (map (restored_reservation nodes) saved.reservations)

-- all is sound of the jobs by themselves and of what they hold
pub record AreWellKept (moment : ℕ) (nodes : List NodeRecord) (jobs : List JobRecord) : Type 0 where
  pub held : IsHeldOnce (map room_of nodes) (parts_of jobs)
  pub up : AreUp nodes (parts_of jobs)
  pub kept : All (IsKept moment) jobs

-- a cluster before any request
pub record IsJustOpened (c : Cluster) : Type 0 where
  pub sound : IsSound (state_of c)
  pub unheard : All IsUnheard c.nodes.records
  pub nothing : HoldsNothing c.nodes.held
  pub jobs : c.jobs.records ≡ []

-- all that is seen of what is saved, but that its state is sound
pub record HasParts (s : State) (saved : Saved) : Type 0 where
  pub plain : IsPlain saved
  pub known : IsKnown s saved
  pub told : TellsUsage s.assocs saved
  pub reserved : AreReserved s.nodes saved
  pub once : AllPairs (λ (one other : SavedNode). one.name ≢ other.name) (standings saved)
