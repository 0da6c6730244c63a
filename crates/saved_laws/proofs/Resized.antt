-- What a verdict makes with another sum of sizes.
use Rattle.std.proofs.Common.{ℕ, ◌≡◌, Bool, true, false, if◌then◌else◌, refl}
use Rattle.reply_data.specs.declared.reply.Reply.{Reply}
use Rattle.ctl_state.specs.State.{State}
use Rattle.ctl_state.specs.Verdicts.{Verdict, Refuses, Tells, Stays, Makes}
use Rattle.saved_laws.specs.Rooms.{sized}

-- the same verdict, of a state with this sum of sizes
abbrev pub sized_by : ℕ → Verdict → Verdict
sized_by size (Refuses refusal) = Refuses refusal
sized_by size (Tells view) = Tells view
sized_by size Stays = Stays
sized_by size (Makes reply after) = Makes reply (sized size after)

-- where one of two states is chosen by a test
pub chosen_sized : (size : ℕ) (test : Bool) (one other : State)
    → (if test then sized size one else sized size other) ≡ sized size (if test then one else other)
chosen_sized size true one other = refl
chosen_sized size false one other = refl

-- where it stays by a test, or makes a state
pub staying_sized : (size : ℕ) (test : Bool) (reply : Reply) (after : State)
    → (if test then Stays else Makes reply (sized size after)) ≡ sized_by size (if test then Stays else Makes reply after)
staying_sized size true reply after = refl
staying_sized size false reply after = refl

pub making_sized : (size : ℕ) (test : Bool) (reply : Reply) (after : State)
    → (if test then Makes reply (sized size after) else Stays) ≡ sized_by size (if test then Makes reply after else Stays)
making_sized size true reply after = refl
making_sized size false reply after = refl
