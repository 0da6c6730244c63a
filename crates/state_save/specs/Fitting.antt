-- Which values a saved state may have: what their types keep, and the rules of sbatch(1) for what it takes.
use Rattle.std.specs.Prelude.{◌≡◌, ◌≢◌, ℕ, ◌^◌, ◌<◌, ◌≤◌, Bool, true, false, not, ◌&&◌, Option, Some, None, List, [], ◌∷◌, length, All, AllPairs}
use Rattle.small_texts.specs.Name.{is_name, is_job_name}
use Rattle.host_lists.specs.Hosts.{has}
use Rattle.plain_data.specs.declared.dependency.DepId.{DepId}
use Rattle.plain_data.specs.declared.dependency.DepItem.{DepItem}
use Rattle.plain_data.specs.declared.dependency.DepKind.{DepKind}
use Rattle.plain_data.specs.declared.dependency.DepKind.TheVariants.{Singleton}
use Rattle.plain_data.specs.declared.dependency.DepSpec.{DepSpec}
use Rattle.plain_data.specs.declared.features.FeatureExpr.{FeatureExpr}
use Rattle.plain_data.specs.declared.limit.Limit.{Limit}
use Rattle.plain_data.specs.declared.limit.Limit.TheVariants.{Minutes, Unlimited}
use Rattle.plain_data.specs.declared.mem_ask.MemAsk.{MemAsk}
use Rattle.plain_data.specs.declared.mem_ask.MemAsk.TheVariants as memory
use Rattle.plain_data.specs.declared.nice.Nice.{Nice}
use Rattle.plain_data.specs.declared.nice.Nice.TheVariants.{Lower, Raise}
use Rattle.request_data.specs.declared.report.Heard.{Heard}
use Rattle.reply_data.specs.declared.view.NamedPart.{NamedPart}
use Rattle.sbatch_reader.specs.Dependency.{count_ids}
use Rattle.saved_data.specs.declared.parts.SavedShare.{SavedShare}
use Rattle.state_save.specs.declared.pairs.Pair.{Pair}

abbrev pub FitsU32 : ℕ → Type 0
FitsU32 number = number < 2 ^ 32

abbrev pub FitsU64 : ℕ → Type 0
FitsU64 number = number < 2 ^ 64

-- a number in a range
abbrev pub IsWithin : ℕ → ℕ → ℕ → Type 0
IsWithin least most number = (least ≤ number) × (number ≤ most)

abbrev pub IsName : List ℕ → Type 0
IsName name = is_name name ≡ true

abbrev pub IsJobName : List ℕ → Type 0
IsJobName name = is_job_name name ≡ true

-- nothing, or a value that fits
abbrev pub FitsOptional : {X : Type 0} → (X → Type 0) → Option X → Type 0
FitsOptional fits None = Unit {0}
FitsOptional fits (Some x) = fits x

pub record PairFits (pair : Pair) : Type 0 where
  pub boot : FitsU64 pair.boot
  pub number : FitsU64 pair.number

pub record HeardFits (heard : Heard) : Type 0 where
  pub boot : FitsU64 heard.boot
  pub number : FitsU64 heard.number
  pub moment : FitsU64 heard.moment

abbrev pub LimitFits : Limit → Type 0
LimitFits (Minutes minutes) = IsWithin 1 52_560_000 minutes
LimitFits Unlimited = Unit {0}

abbrev pub MemFits : MemAsk → Type 0
MemFits memory.All = Unit {0}
MemFits (memory.PerNode mem) = IsWithin 1 16_777_216 mem
MemFits (memory.PerCpu mem) = IsWithin 1 16_777_216 mem

abbrev pub NiceFits : Nice → Type 0
NiceFits (Lower number) = IsWithin 0 2_147_483_645 number
NiceFits (Raise number) = IsWithin 1 2_147_483_645 number

-- no name stands again behind itself
abbrev pub each_once : List (List ℕ) → Bool
each_once [] = true
each_once (name ∷ names) = not (has name names) && each_once names

-- names of nodes as a host expression gives them: 1,024 at most, each once
pub record AreHosts (names : List (List ℕ)) : Type 0 where
  pub named : All IsName names
  pub once : each_once names ≡ true
  pub few : length names ≤ 1024

-- one list of names at least, each of one name at least
pub record FeaturesFit (features : FeatureExpr) : Type 0 where
  pub some : features.alternatives ≢ []
  pub named : All (λ names. (names ≢ []) × All IsName names) features.alternatives

pub record IdFits (id : DepId) : Type 0 where
  pub id_fits : FitsU32 id.id
  pub index_fits : FitsOptional FitsU32 id.index

-- Singleton names no job, the others one at least
abbrev pub NamesJobs : DepKind → List DepId → Type 0
NamesJobs Singleton ids = ids ≡ []
NamesJobs _ ids = ids ≢ []

pub record ItemFits (item : DepItem) : Type 0 where
  pub names : NamesJobs item.kind item.ids
  pub ids : All IdFits item.ids

-- one item at least, and 64 jobs at most; a single item is needed
pub record DependencyFits (dependency : DepSpec) : Type 0 where
  pub some : dependency.items ≢ []
  pub items : All ItemFits dependency.items
  pub few : count_ids dependency.items ≤ 64
  pub single : length dependency.items ≡ 1 → dependency.any ≡ false

-- processor numbers, which rise
pub record AreCpus (cpus : List ℕ) : Type 0 where
  pub rising : AllPairs (λ one other. one < other) cpus
  pub small : All (λ number. number < 1024) cpus

pub record PartFits (part : NamedPart) : Type 0 where
  pub named : IsName part.node
  pub cpus : AreCpus part.cpus
  pub mem : FitsU64 part.mem

pub record ShareFits (share : SavedShare) : Type 0 where
  pub named : IsName share.node
  pub tasks : FitsU32 share.tasks
  pub cpus : FitsU32 share.cpus
  pub mem : FitsU64 share.mem
