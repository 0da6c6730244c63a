-- The line of a job, by groups of its fields. Of the proof alone.
use Rattle.std.specs.Prelude.{ℕ, Option, Some, option_map, List, [], ◌∷◌, ◌++◌, All, codes, decimal, flat_map}
use Rattle.std.specs.Str.{byte}
use Rattle.line_words.specs.Words.{quoted}
use Rattle.small_texts.specs.Options.{◌>>=◌}
use Rattle.text_values.specs.Names.{name_in}
use Rattle.text_values.specs.Nice.{nice_in}
use Rattle.sbatch_reader.specs.Dependency.{dependency_in}
use Rattle.sbatch_reader.specs.Features.{features_in}
use Rattle.job_table.specs.declared.terms.Terms.{Terms}
use Rattle.saved_data.specs.declared.job.SavedJob.{SavedJob}
use Rattle.state_save.specs.Fitting.{FitsU32, FitsU64, IsWithin, IsName, IsJobName, FitsOptional, LimitFits, MemFits, NiceFits, AreHosts, FeaturesFit, DependencyFits, PartFits}
use Rattle.state_save.specs.Lines.{field_in}
use Rattle.state_save.specs.Meanings.{optional_in, list_in, u32_in, u64_in, ranged_in, job_name_in, hosts_in, truth_in, held_in, state_in, limit_in, mem_in, part_in}
use Rattle.state_save.specs.Texts.{optional, listed, name_text, truth_text, held_text, state_text, limit_text, mem_text, nice_text, features_text, dependency_text, parts_text}
use Rattle.state_save.specs.declared.job_groups.JobIds.{JobIds}
use Rattle.state_save.specs.declared.job_groups.JobNames.{JobNames}
use Rattle.state_save.specs.declared.job_groups.JobSize.{JobSize}
use Rattle.state_save.specs.declared.job_groups.JobWish.{JobWish}
use Rattle.state_save.specs.declared.job_groups.JobNeeds.{JobNeeds}
use Rattle.state_save.specs.declared.job_groups.JobScript.{JobScript}
use Rattle.state_save.specs.declared.job_groups.JobStanding.{JobStanding}
use Rattle.state_save.specs.declared.job_line.JobGroups.{JobGroups}

-- words behind others on a line
abbrev pub behind_blanks : List (List ℕ) → List ℕ
behind_blanks words = flat_map (λ word. byte " " ∷ quoted word) words

unfoldable pub ids_words : SavedJob → List (List ℕ)
ids_words job =
    (codes "id=" ++ decimal job.id)
    ∷ (codes "array=" ++ optional decimal job.array)
    ∷ (codes "index=" ++ optional decimal job.index) ∷ []

unfoldable pub ids_in : List (List ℕ) → Option JobIds
ids_in line = do
  the_id ← field_in u32_in line 1 (codes "id=")
  the_array ← field_in (optional_in u32_in) line 2 (codes "array=")
  the_index ← field_in (optional_in u32_in) line 3 (codes "index=")
  Some (record { id = the_id; array = the_array; index = the_index })

pub record IdsFit (ids : JobIds) : Type 0 where
  pub id_fits : FitsU32 ids.id
  pub array_fits : FitsOptional FitsU32 ids.array
  pub index_fits : FitsOptional FitsU32 ids.index

unfoldable pub names_words : SavedJob → List (List ℕ)
names_words job =
    (codes "name=" ++ job.terms.name)
    ∷ (codes "user=" ++ job.user)
    ∷ (codes "account=" ++ job.terms.account)
    ∷ (codes "partition=" ++ job.partition)
    ∷ (codes "qos=" ++ job.terms.qos)
    ∷ (codes "reservation=" ++ optional name_text job.terms.reservation) ∷ []

unfoldable pub names_in : List (List ℕ) → Option JobNames
names_in line = do
  the_name ← field_in job_name_in line 4 (codes "name=")
  the_user ← field_in name_in line 5 (codes "user=")
  the_account ← field_in name_in line 6 (codes "account=")
  the_partition ← field_in name_in line 7 (codes "partition=")
  the_qos ← field_in name_in line 8 (codes "qos=")
  the_reservation ← field_in (optional_in name_in) line 9 (codes "reservation=")
  Some (record { name = the_name; user = the_user; account = the_account; partition = the_partition; qos = the_qos; reservation = the_reservation })

pub record NamesFit (names : JobNames) : Type 0 where
  pub name_fits : IsJobName names.name
  pub user_fits : IsName names.user
  pub account_fits : IsName names.account
  pub partition_fits : IsName names.partition
  pub qos_fits : IsName names.qos
  pub reservation_fits : FitsOptional IsName names.reservation

unfoldable pub size_words : SavedJob → List (List ℕ)
size_words job =
    (codes "tasks=" ++ decimal job.terms.tasks)
    ∷ (codes "cpus=" ++ decimal job.terms.cpus_per_task)
    ∷ (codes "pernode=" ++ optional decimal job.terms.tasks_per_node)
    ∷ (codes "least=" ++ decimal job.terms.min_nodes)
    ∷ (codes "most=" ++ optional decimal job.terms.max_nodes)
    ∷ (codes "mem=" ++ mem_text job.terms.mem)
    ∷ (codes "exclusive=" ++ truth_text job.terms.exclusive) ∷ []

unfoldable pub size_in : List (List ℕ) → Option JobSize
size_in line = do
  the_tasks ← field_in (ranged_in 1 1_048_576) line 10 (codes "tasks=")
  the_cpus_per_task ← field_in (ranged_in 1 1024) line 11 (codes "cpus=")
  the_tasks_per_node ← field_in (optional_in (ranged_in 1 1024)) line 12 (codes "pernode=")
  the_min_nodes ← field_in (ranged_in 1 1024) line 13 (codes "least=")
  the_max_nodes ← field_in (optional_in (ranged_in 1 1024)) line 14 (codes "most=")
  the_mem ← field_in mem_in line 15 (codes "mem=")
  the_exclusive ← field_in truth_in line 16 (codes "exclusive=")
  Some (record { tasks = the_tasks; cpus_per_task = the_cpus_per_task; tasks_per_node = the_tasks_per_node; min_nodes = the_min_nodes; max_nodes = the_max_nodes; mem = the_mem; exclusive = the_exclusive })

pub record SizeFit (size : JobSize) : Type 0 where
  pub tasks_fits : IsWithin 1 1_048_576 size.tasks
  pub cpus_per_task_fits : IsWithin 1 1024 size.cpus_per_task
  pub tasks_per_node_fits : FitsOptional (IsWithin 1 1024) size.tasks_per_node
  pub min_nodes_fits : IsWithin 1 1024 size.min_nodes
  pub max_nodes_fits : FitsOptional (IsWithin 1 1024) size.max_nodes
  pub mem_fits : MemFits size.mem

unfoldable pub wish_words : SavedJob → List (List ℕ)
wish_words job =
    (codes "limit=" ++ limit_text job.limit)
    ∷ (codes "begin=" ++ optional decimal job.terms.begin)
    ∷ (codes "nice=" ++ nice_text job.nice)
    ∷ (codes "requeue=" ++ truth_text job.terms.requeue) ∷ []

unfoldable pub wish_in : List (List ℕ) → Option JobWish
wish_in line = do
  the_limit ← field_in limit_in line 17 (codes "limit=")
  the_begin ← field_in (optional_in (ranged_in 0 250_000_000_000)) line 18 (codes "begin=")
  the_nice ← field_in nice_in line 19 (codes "nice=")
  the_requeue ← field_in truth_in line 20 (codes "requeue=")
  Some (record { limit = the_limit; begin = the_begin; nice = the_nice; requeue = the_requeue })

pub record WishFit (wish : JobWish) : Type 0 where
  pub limit_fits : LimitFits wish.limit
  pub begin_fits : FitsOptional (IsWithin 0 250_000_000_000) wish.begin
  pub nice_fits : NiceFits wish.nice

unfoldable pub needs_words : SavedJob → List (List ℕ)
needs_words job =
    (codes "features=" ++ optional features_text job.terms.features)
    ∷ (codes "required=" ++ listed name_text job.terms.required)
    ∷ (codes "excluded=" ++ listed name_text job.terms.excluded)
    ∷ (codes "percent=" ++ optional decimal job.terms.at_once)
    ∷ (codes "dependency=" ++ optional dependency_text job.terms.dependency) ∷ []

unfoldable pub needs_in : List (List ℕ) → Option JobNeeds
needs_in line = do
  the_at_once ← field_in (optional_in (ranged_in 1 4_294_967_295)) line 24 (codes "percent=")
  the_features ← field_in (optional_in features_in) line 21 (codes "features=")
  the_required ← field_in hosts_in line 22 (codes "required=")
  the_excluded ← field_in hosts_in line 23 (codes "excluded=")
  the_dependency ← field_in (optional_in dependency_in) line 25 (codes "dependency=")
  Some (record { features = the_features; required = the_required; excluded = the_excluded; at_once = the_at_once; dependency = the_dependency })

pub record NeedsFit (needs : JobNeeds) : Type 0 where
  pub features_fits : FitsOptional FeaturesFit needs.features
  pub required_fits : AreHosts needs.required
  pub excluded_fits : AreHosts needs.excluded
  pub at_once_fits : FitsOptional (IsWithin 1 4_294_967_295) needs.at_once
  pub dependency_fits : FitsOptional DependencyFits needs.dependency

unfoldable pub script_words : SavedJob → List (List ℕ)
script_words job =
    (codes "run=" ++ decimal job.terms.run)
    ∷ (codes "exit=" ++ decimal job.terms.exit)
    ∷ (codes "submit=" ++ decimal job.submit)
    ∷ (codes "eligible=" ++ decimal job.eligible)
    ∷ (codes "held=" ++ held_text job.held_by)
    ∷ (codes "state=" ++ state_text job.state) ∷ []

unfoldable pub script_in : List (List ℕ) → Option JobScript
script_in line = do
  the_run ← field_in (ranged_in 1 2_000_000_000) line 26 (codes "run=")
  the_exit ← field_in (ranged_in 0 255) line 27 (codes "exit=")
  the_submit ← field_in u64_in line 28 (codes "submit=")
  the_eligible ← field_in u64_in line 29 (codes "eligible=")
  the_held_by ← field_in held_in line 30 (codes "held=")
  the_state ← field_in state_in line 31 (codes "state=")
  Some (record { run = the_run; exit = the_exit; submit = the_submit; eligible = the_eligible; held_by = the_held_by; state = the_state })

pub record ScriptFit (script : JobScript) : Type 0 where
  pub run_fits : IsWithin 1 2_000_000_000 script.run
  pub exit_fits : IsWithin 0 255 script.exit
  pub submit_fits : FitsU64 script.submit
  pub eligible_fits : FitsU64 script.eligible

unfoldable pub standing_words : SavedJob → List (List ℕ)
standing_words job =
    (codes "starts=" ++ decimal job.starts)
    ∷ (codes "started=" ++ optional decimal job.started)
    ∷ (codes "ended=" ++ optional decimal job.ended)
    ∷ (codes "code=" ++ optional decimal job.exit)
    ∷ (codes "last=" ++ listed name_text job.last_nodes)
    ∷ (codes "parts=" ++ parts_text job.parts) ∷ []

unfoldable pub standing_in : List (List ℕ) → Option JobStanding
standing_in line = do
  the_starts ← field_in u32_in line 32 (codes "starts=")
  the_started ← field_in (optional_in u64_in) line 33 (codes "started=")
  the_ended ← field_in (optional_in u64_in) line 34 (codes "ended=")
  the_exit ← field_in (optional_in u32_in) line 35 (codes "code=")
  the_last_nodes ← field_in (list_in name_in 44) line 36 (codes "last=")
  the_parts ← field_in (list_in part_in 59) line 37 (codes "parts=")
  Some (record { starts = the_starts; started = the_started; ended = the_ended; exit = the_exit; last_nodes = the_last_nodes; parts = the_parts })

pub record StandingFit (standing : JobStanding) : Type 0 where
  pub starts_fits : FitsU32 standing.starts
  pub started_fits : FitsOptional FitsU64 standing.started
  pub ended_fits : FitsOptional FitsU64 standing.ended
  pub exit_fits : FitsOptional FitsU32 standing.exit
  pub last_nodes_fits : All IsName standing.last_nodes
  pub parts_fits : All PartFits standing.parts

-- a job of its groups
abbrev pub terms_of : JobGroups → Terms
terms_of groups = record { name = groups.names.name; account = groups.names.account; qos = groups.names.qos; reservation = groups.names.reservation; tasks = groups.size.tasks; cpus_per_task = groups.size.cpus_per_task; tasks_per_node = groups.size.tasks_per_node; min_nodes = groups.size.min_nodes; max_nodes = groups.size.max_nodes; mem = groups.size.mem; exclusive = groups.size.exclusive; begin = groups.wish.begin; requeue = groups.wish.requeue; features = groups.needs.features; required = groups.needs.required; excluded = groups.needs.excluded; at_once = groups.needs.at_once; dependency = groups.needs.dependency; run = groups.script.run; exit = groups.script.exit }

abbrev pub job_of : JobGroups → SavedJob
job_of groups = record { terms = terms_of groups; id = groups.ids.id; array = groups.ids.array; index = groups.ids.index; user = groups.names.user; partition = groups.names.partition; limit = groups.wish.limit; nice = groups.wish.nice; submit = groups.script.submit; eligible = groups.script.eligible; held_by = groups.script.held_by; state = groups.script.state; starts = groups.standing.starts; started = groups.standing.started; ended = groups.standing.ended; exit = groups.standing.exit; last_nodes = groups.standing.last_nodes; parts = groups.standing.parts }

unfoldable pub groups_in : List (List ℕ) → Option JobGroups
groups_in line = do
  the_ids ← ids_in line
  the_size ← size_in line
  the_wish ← wish_in line
  the_script ← script_in line
  the_names ← names_in line
  the_needs ← needs_in line
  the_standing ← standing_in line
  Some (record { ids = the_ids; names = the_names; size = the_size; wish = the_wish; needs = the_needs; script = the_script; standing = the_standing })

abbrev pub job_in : List (List ℕ) → Option SavedJob
job_in line = option_map job_of (groups_in line)

pub record GroupsFit (groups : JobGroups) : Type 0 where
  pub ids : IdsFit groups.ids
  pub names : NamesFit groups.names
  pub size : SizeFit groups.size
  pub wish : WishFit groups.wish
  pub needs : NeedsFit groups.needs
  pub script : ScriptFit groups.script
  pub standing : StandingFit groups.standing
