-- The files of a cluster, and what they open.
use Rattle.std.specs.Prelude.{◌≡◌, ◌⊎◌, ℕ, List, [], take, Option, Some, None, IfSome, IsSomeAnd, Result, Ok, Err}
use Rattle.slurm_io.specs.Faults.{CountsOne}
use Rattle.slurm_io.specs.Shelf.{ShelfFile, bytes_named}
use Rattle.ctl_state.specs.State.{State}
use Rattle.ctl_desk.specs.Desk.{Seat}
use Rattle.plain_data.specs.Files.{Named}
use Rattle.cluster_opening.specs.Restoring.{AreOpenedBy, OpensIn}
use Rattle.cluster_opening.specs.declared.cluster_files.ClusterFiles.{ClusterFiles}
use Rattle.cluster_opening.specs.declared.refusal.ClusterRefusal.{ClusterRefusal}
use Rattle.cluster_opening.specs.declared.refusal.ClusterRefusal.TheVariants as cluster
use Rattle.cluster_opening.specs.declared.opening.OpenRefusal.{OpenRefusal}
use Rattle.cluster_opening.specs.declared.opening.OpenRefusal.TheVariants.{NoFile, Bad, Memory}

-- where the files are told, there is one of this name, and these are its first bytes, so many at the most
abbrev pub IsFrontOf : Option (List ShelfFile) → List ℕ → ℕ → List ℕ → Type 0
IsFrontOf told name most bytes =
    IfSome told (λ files. IsSomeAnd (bytes_named files name) (λ file. bytes ≡ take most file))

-- likewise of a file that may not be named: nothing is read then
abbrev pub IsFrontIf : Option (List ShelfFile) → Option (List ℕ) → ℕ → Option (List ℕ) → Type 0
IsFrontIf told None most read = read ≡ None
IsFrontIf told (Some name) most read = IsSomeAnd read (λ bytes. IsFrontOf told name most bytes)

-- the text is that of the file of this name, where the files are told
abbrev pub IsTextOf : Option (List ShelfFile) → List ℕ → List ℕ → Type 0
IsTextOf told name text = IfSome told (λ files. bytes_named files name ≡ Some text)

-- likewise of a file that may not be named
abbrev pub IsTextIf : Option (List ShelfFile) → Option (List ℕ) → Option (List ℕ) → Type 0
IsTextIf told None text = text ≡ None
IsTextIf told (Some name) text = IsSomeAnd text (λ bytes. IsTextOf told name bytes)

-- The files of these names open a cluster so: their texts do, which are those of the files where the files are told.
pub record Opens (told : Option (List ShelfFile)) (named : Named) (opened : Result State ClusterRefusal) : Type 0 where
  pub conf : List ℕ
  pub assocs : List ℕ
  pub state : Option (List ℕ)
  pub is_conf : IsTextOf told named.conf conf
  pub is_assocs : IsTextOf told named.assocs assocs
  pub is_state : IsTextIf told named.state state
  pub is_opened : AreOpenedBy conf assocs state opened

-- why no cluster was opened, where its files were read
abbrev pub of_cluster : ClusterRefusal → OpenRefusal
of_cluster (cluster.Bad bad) = Bad bad
of_cluster cluster.Memory = Memory

-- Why the files of these names open no cluster, where the shelf tells these files, by its count of faults before and
-- after: a read of one of them failed; or one of them is refused; or memory was wanting.
abbrev pub IsUnopened : Option (List ShelfFile) → Named → ℕ → ℕ → OpenRefusal → Type 0
IsUnopened told named before after NoFile = CountsOne before after
IsUnopened told named before after (Bad bad) = Opens told named (Err (cluster.Bad bad)) × (after ≡ before)
IsUnopened told named before after Memory = after ≡ before

-- what becomes of opening the cluster of the files of these names: the state that they open it in is that of the files
-- which were read
abbrev pub IsOpening : Option (List ShelfFile) → Named → ℕ → ℕ → Result ClusterFiles OpenRefusal → Type 0
IsOpening told named before after (Ok files) =
    ((s : State) × Opens told named (Ok s) × OpensIn files s) × (after ≡ before)
IsOpening told named before after (Err refusal) = IsUnopened told named before after refusal

-- a desk of its own at a state, before any request
abbrev pub fresh : State → Seat
fresh s = record { opening = s; before = []; since = [] }

-- what becomes of opening a desk of its own there
abbrev pub IsSeating : Option (List ShelfFile) → Named → ℕ → ℕ → Result Seat OpenRefusal → Type 0
IsSeating told named before after (Ok seat) =
    Opens told named (Ok seat.opening) × (seat ≡ fresh seat.opening) × (after ≡ before)
IsSeating told named before after (Err refusal) = IsUnopened told named before after refusal

-- a file that is named isn't there
abbrev pub IsMissing : List ShelfFile → Option (List ℕ) → Type 0
IsMissing files None = ⊥
IsMissing files (Some name) = bytes_named files name ≡ None

-- one of the files that are named isn't there
abbrev pub IsOneMissing : List ShelfFile → Named → Type 0
IsOneMissing files named =
    IsMissing files (Some named.conf) ⊎ (IsMissing files (Some named.assocs) ⊎ IsMissing files named.state)

-- the shelf tells its files, and those of these names open a cluster so; None is that one of them isn't there
abbrev pub FilesOpen : Option (List ShelfFile) → Named → Option (Result State ClusterRefusal) → Type 0
FilesOpen None named opened = ⊥
FilesOpen (Some files) named None = IsOneMissing files named
FilesOpen (Some files) named (Some opened) = Opens (Some files) named opened
