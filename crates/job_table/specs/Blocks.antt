-- On which nodes the jobs of the table may hold something, and whether one may hold processors: it is kept for each 64
-- places.
use Rattle.std.specs.Prelude.{◌≡◌, ◌≢◌, ℕ, ◌<◌, ◌/◌, ◌%◌, Bool, true, List, slice_get, All, IfSome, Option, None, Some}
use Rattle.std.specs.List.{list_any}
use Rattle.plain_data.specs.Rows.{has_id}
use Rattle.job_table.specs.declared.blocks.Block.{Block}
use Rattle.job_table.specs.declared.record.Part.{Part}
use Rattle.job_table.specs.declared.record.JobRecord.{JobRecord}
use Rattle.job_table.specs.Changes.{is_on}
use Rattle.job_table.specs.JobStates.{is_holding}

-- the job holds something of the node
abbrev pub holds_on : ℕ → JobRecord → Bool
holds_on node job = list_any (is_on node) job.parts

-- a node's mark: of more than 1,024 nodes some share one
abbrev pub mark_of : ℕ → ℕ
mark_of node = node % 1024

-- the node has its mark in a block, or nothing is kept of the block
abbrev pub may_hold : Option Block → ℕ → Bool
may_hold None node = true
may_hold (Some block) node = has_id block.nodes (mark_of node)

-- a job in a block may be in a state that holds processors, or nothing is kept of the block
abbrev pub may_be_holding : Option Block → Bool
may_be_holding None = true
may_be_holding (Some block) = block.holding

-- the node has its mark in these
abbrev pub HasMark : List ℕ → Part → Type 0
HasMark marks part = has_id marks (mark_of part.node) ≡ true

-- a block has the marks of all nodes of which the job holds something, and says so where it holds processors
pub record Shows (block : Block) (job : JobRecord) : Type 0 where
  pub nodes : All (HasMark block.nodes) job.parts
  pub holding : is_holding job.state ≡ true → block.holding ≡ true

-- so does the block of the place of a job, if it is kept
abbrev pub IsMarked : List Block → ℕ → JobRecord → Type 0
IsMarked blocks place job = IfSome (slice_get blocks (place / 64)) (λ block. Shows block job)

-- so it is of all jobs, of all in the blocks before one, and of all but the one at a place
abbrev pub AreMarked : List Block → List JobRecord → Type 0
AreMarked blocks jobs = (place : ℕ) (job : JobRecord) → slice_get jobs place ≡ Some job → IsMarked blocks place job

abbrev pub AreMarkedBefore : ℕ → List Block → List JobRecord → Type 0
AreMarkedBefore block blocks jobs =
    (place : ℕ) (job : JobRecord) → place / 64 < block → slice_get jobs place ≡ Some job → IsMarked blocks place job

abbrev pub AreMarkedBut : ℕ → List Block → List JobRecord → Type 0
AreMarkedBut but blocks jobs =
    (place : ℕ) (job : JobRecord) → place ≢ but → slice_get jobs place ≡ Some job → IsMarked blocks place job
