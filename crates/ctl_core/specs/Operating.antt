-- What operators ask of partitions, and of the controller itself.
use Rattle.std.specs.Prelude.{ℕ, Bool, true, false, not, is_none, if◌then◌else◌, List, [], ◌∷◌, slice_get, Option, Some, None}
use Rattle.plain_data.specs.declared.conf.PartState.{PartState}
use Rattle.plain_data.specs.declared.conf.PartState.TheVariants.{Up, Down, Drain, Inactive}
use Rattle.reply_data.specs.declared.refusal.Refusal.{Refusal}
use Rattle.reply_data.specs.declared.refusal.Refusal.TheVariants.{AccessDenied, InvalidPartition}
use Rattle.reply_data.specs.declared.reply.Reply.TheVariants.{Done}
use Rattle.node_state.specs.declared.partition_record.PartRecord.{PartRecord}
use Rattle.node_state.specs.Partitions.{in_state_at, place_meant}
use Rattle.ctl_state.specs.State.{State}
use Rattle.ctl_state.specs.Refusals.{is_privileged, refused_if}
use Rattle.ctl_state.specs.Verdicts.{Verdict, Stays, Makes}

abbrev pub same_state : PartState → PartState → Bool
same_state Up Up = true
same_state Down Down = true
same_state Drain Drain = true
same_state Inactive Inactive = true
same_state one other = false

-- why a partition doesn't get another state: only privileged users give it one, and there must be such a partition
abbrev pub partition_refusals : State → List ℕ → List ℕ → List (Option Refusal)
partition_refusals s user name =
    refused_if (not (is_privileged s user)) AccessDenied
    ∷ refused_if (is_none (place_meant (Some name) s.partitions)) InvalidPartition
    ∷ []

-- the partition, if there is one, is in this state
abbrev pub is_in_state : PartState → Option PartRecord → Bool
is_in_state state None = true
is_in_state state (Some partition) = same_state partition.state state

-- the state with the partition at a place in this state
abbrev pub partition_after : State → ℕ → PartState → State
partition_after s place state = record s { partitions = in_state_at place state s.partitions }

-- another state of the partition at a place makes another state
abbrev pub partition_made : State → PartState → Option ℕ → Verdict
partition_made s state None = Stays
partition_made s state (Some place) =
    if is_in_state state (slice_get s.partitions place) then Stays else Makes Done (partition_after s place state)

-- only privileged users shut the controller down
abbrev pub shutdown_refusals : State → List ℕ → List (Option Refusal)
shutdown_refusals s user = refused_if (not (is_privileged s user)) AccessDenied ∷ []

abbrev pub shut : State → State
shut s = record s { is_shut = true }
