-- What is said of what came to a door.
use Rattle.std.specs.Prelude.{◌≡◌, [], Option, Some, None, IfSome, Result, Ok, Err}
use Rattle.slurm_io.specs.Wire.{Wire}
use Rattle.slurm_net.specs.declared.door.Accepted.{Accepted}
use Rattle.slurm_net.specs.declared.door.Accepted.TheVariants.{Came, Nobody}

-- of a link that came
abbrev pub IfCame : {L E : Type 0} → Result (Accepted L) E → (L → Type 0) → Type 0
IfCame (Ok (Came link)) fact = fact link
IfCame (Ok Nobody) fact = Unit {0}
IfCame (Err e) fact = Unit {0}

-- the link that is out after a call of `accept`, as it came
abbrev pub out_after : {L E : Type 0} → (L → Wire) → Result (Accepted L) E → Option Wire
out_after wire (Ok (Came link)) = Some (wire link)
out_after wire (Ok Nobody) = None
out_after wire (Err e) = None

-- a link as it is made: no call on it has failed, and nothing was written to it
pub record IsNewLink (wire : Wire) : Type 0 where
  pub reads : wire.reads ≡ 0
  pub writes : wire.writes ≡ 0
  pub taken : IfSome wire.taken (λ bytes. bytes ≡ [])
