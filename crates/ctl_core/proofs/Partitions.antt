-- A partition that is in a state already is as it was in that state, and no other is.
use Rattle.std.proofs.Common.{◌≡◌, ℕ, zero, suc, Bool, true, List, [], ◌∷◌, drop, get_or, refl, sym, ap}
use Rattle.std.specs.Prelude.{slice_get}
use Rattle.plain_data.specs.declared.conf.PartState.{PartState}
use Rattle.plain_data.specs.declared.conf.PartState.TheVariants.{Up, Down, Drain, Inactive}
use Rattle.node_state.specs.declared.partition_record.PartRecord.{PartRecord}
use Rattle.node_state.specs.Partitions.{in_state_at}
use Rattle.ctl_core.specs.Operating.{is_in_state, same_state}

state-is : (one other : PartState) → same_state one other ≡ true → one ≡ other
state-is Up Up same = refl
state-is Down Down same = refl
state-is Drain Drain same = refl
state-is Inactive Inactive same = refl
state-is one other same = absurd cc

state-same : (one : PartState) → same_state one one ≡ true
state-same Up = refl
state-same Down = refl
state-same Drain = refl
state-same Inactive = refl

pub in-state-stays : (place : ℕ) (state : PartState) (partitions : List PartRecord)
    → is_in_state state (slice_get partitions place) ≡ true → in_state_at place state partitions ≡ partitions
in-state-stays place state [] is = refl
in-state-stays zero state (partition ∷ later) is =
    ap (λ (other : PartState). record partition { state = other } ∷ later) (sym (state-is partition.state state is))
in-state-stays (suc place) state (partition ∷ later) is =
    ap (λ rest. partition ∷ rest) (in-state-stays place state later is)

pub in-state-had : (place : ℕ) (state : PartState) (partitions : List PartRecord)
    → in_state_at place state partitions ≡ partitions → is_in_state state (slice_get partitions place) ≡ true
in-state-had place state [] same = refl
in-state-had zero state (partition ∷ later) same =
    let had : state ≡ partition.state = ap (λ (some : List PartRecord). (get_or some 0 partition).state) same in
    rw had (state-same partition.state)
in-state-had (suc place) state (partition ∷ later) same =
    in-state-had place state later (ap (λ (some : List PartRecord). drop 1 some) same)
