-- What the system's objects tell: their counts alone.
use Rattle.std.specs.Prelude.{ℕ, Bool, Option, Some, None, if◌then◌else◌}
use Rattle.slurm_io.specs.Wire.{Wire}

-- a link of which so many reads and so many writes failed
abbrev pub untold_wire : ℕ → ℕ → Wire
untold_wire reads writes = record { left = None; taken = None; reads = reads; writes = writes }

-- the link that is out, as it came, where one is
abbrev pub untold_out : Bool → Option Wire
untold_out is_out = if is_out then Some (untold_wire 0 0) else None
