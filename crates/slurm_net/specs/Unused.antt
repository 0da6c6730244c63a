-- A link in memory as it is made.
use Rattle.std.specs.Prelude.{◌≡◌, ℕ, List, [], Some}
use Rattle.slurm_io.specs.Wire.{Wire}
use Rattle.slurm_io.specs.MemLink.{MemLinkState}

-- no call on it has failed, and nothing was written to it
pub record IsUnused (link : MemLinkState) : Type 0 where
  pub reads : link.read_faults ≡ 0
  pub writes : link.write_faults ≡ 0
  pub taken : link.taken ≡ []

abbrev pub mem_wire : MemLinkState → Wire
mem_wire link = record {
  left = Some link.left;
  taken = Some link.taken;
  reads = link.read_faults;
  writes = link.write_faults;
}

-- such a link with these bytes to read
abbrev pub unused_wire : List ℕ → Wire
unused_wire left = record { left = Some left; taken = Some []; reads = 0; writes = 0 }
