-- The line of a job: of which bytes its words are, and what they are read as.
use Rattle.std.specs.Prelude.{Result, Ok, Err, OnOk}
use Rattle.std.proofs.Common.{◌≡◌, ℕ, ◌^◌, ◌<◌, ◌==◌, true, Option, Some, List, [], ◌∷◌, ◌++◌, length, decimal, codes, refl, sym, ap, ◌∙◌, arith, append_assoc}
use Rattle.std.specs.List.{list_all, slice_get}
use Rattle.std.specs.Str.{bytes_eq}
use Rattle.std.proofs.lemmas.Bool.Decides.{nat_tests}
use Rattle.std.proofs.lemmas.List.{take_at, drop_at}
use Rattle.std.proofs.lemmas.List.Folds.{list_all-append}
use Rattle.line_words.specs.Words.{is_word_byte, are_words, quoted, quoted_words}
use Rattle.text_values.specs.Names.{name_in}
use Rattle.text_values.specs.Nice.{nice_in}
use Rattle.sbatch_reader.specs.Dependency.{dependency_in}
use Rattle.sbatch_reader.specs.Features.{features_in}
use Rattle.saved_data.specs.declared.job.SavedJob.{SavedJob}
use Rattle.state_save.specs.Fitting.{FitsU32, FitsU64, IsWithin, IsName, FeaturesFit, DependencyFits}
use Rattle.state_save.specs.Groups.{behind_blanks, groups_in, job_of, GroupsFit, ids_words, ids_in, names_words, names_in, size_words, size_in, wish_words, wish_in, needs_words, needs_in, script_words, script_in, standing_words, standing_in}
use Rattle.state_save.specs.Lines.{behind_key, field_at, field_in}
use Rattle.state_save.specs.Meanings.{optional_in, list_in, u32_in, u64_in, ranged_in, job_name_in, hosts_in, truth_in, held_in, state_in, limit_in, mem_in, part_in}
use Rattle.state_save.specs.Savable.{JobFits}
use Rattle.saved_data.specs.declared.parts.SavedReservation.{SavedReservation}
use Rattle.state_save.specs.Saved.{job_words, line_text, reservation_words}
use Rattle.state_save.specs.Texts.{optional, listed, name_text, truth_text, held_text, state_text, limit_text, mem_text, nice_text, features_text, dependency_text, parts_text}
use Rattle.state_save.proofs.Bytes.{both, decimal_some, job_name_word}
use Rattle.state_save.proofs.HostWords.{hosts_back, names_back, names_read, name_word}
use Rattle.state_save.proofs.LineWords.{listed_names_word, named, number_word, optional_pass, truth_word, u32_word}
use Rattle.state_save.proofs.ListWords.{IsRead, optional_back}
use Rattle.state_save.proofs.NeedWords.{features_back, features_some, features_word, dependency_back, dependency_some, dependency_word}
use Rattle.state_save.proofs.PartWords.{parts_text_back, parts_text_word}
use Rattle.state_save.proofs.Values.{name_back, job_name_back, u32_back, u64_back, ranged_back, truth_back, held_back, held_named, state_back, state_named, limit_back, limit_named, mem_back, mem_word, nice_back, nice_named}
use Rattle.state_save.specs.declared.job_groups.JobIds.{JobIds}
use Rattle.state_save.specs.declared.job_groups.JobNames.{JobNames}
use Rattle.state_save.specs.declared.job_groups.JobSize.{JobSize}
use Rattle.state_save.specs.declared.job_groups.JobWish.{JobWish}
use Rattle.state_save.specs.declared.job_groups.JobNeeds.{JobNeeds}
use Rattle.state_save.specs.declared.job_groups.JobScript.{JobScript}
use Rattle.state_save.specs.declared.job_groups.JobStanding.{JobStanding}
use Rattle.state_save.specs.declared.job_line.JobGroups.{JobGroups}

-- behind a key

same_bytes : (text : List ℕ) → bytes_eq text text ≡ true
same_bytes [] = refl
same_bytes (b ∷ text) = let first : (b == b) ≡ true = grind (arith, nat_tests) in rw (first, same_bytes text) refl

cut_key : (key word : List ℕ) → behind_key key (key ++ word) ≡ Some word
cut_key key word =
    rw (take_at key word (length key) refl, same_bytes key, drop_at key word (length key) refl) refl

key_field : {X : Type 0} (meaning : List ℕ → Option X) (line : List (List ℕ)) (place : ℕ) (key word : List ℕ) (x : X)
    → slice_get line place ≡ Some (key ++ word) → meaning word ≡ Some x → field_in meaning line place key ≡ Some x
unfolding field_in field_at
key_field meaning line place key word x is says = rw (is, cut_key key word, says) refl

-- kinds of values

u32_read : IsRead FitsU32 decimal u32_in
u32_read = record { back = u32_back; some = λ number fits. decimal_some number (omega arith) }

u64_read : IsRead FitsU64 decimal u64_in
u64_read = record { back = u64_back; some = decimal_some }

ranged_read : (least most : ℕ) → most < 2 ^ 64 → IsRead (IsWithin least most) decimal (ranged_in least most)
ranged_read least most fits = record {
  back = λ number within. ranged_back least most number fits within;
  some = λ number within. let low = within.1 in decimal_some number (omega arith);
}

features_read : IsRead FeaturesFit features_text features_in
features_read = record { back = features_back; some = features_some }

dependency_read : IsRead DependencyFits dependency_text dependency_in
dependency_read = record { back = dependency_back; some = dependency_some }

within_word : (least most : ℕ) → most < 2 ^ 64 → (number : ℕ) → IsWithin least most number → list_all is_word_byte (decimal number) ≡ true
within_word least most fits number within = let low = within.1 in number_word number (omega arith)

-- the groups of a job

abbrev ids_of : SavedJob → JobIds
ids_of job = record { id = job.id; array = job.array; index = job.index }

ids_from : (line : List (List ℕ)) (job : SavedJob) → JobFits job
    → slice_get line 1 ≡ Some (codes "id=" ++ decimal job.id)
    → slice_get line 2 ≡ Some (codes "array=" ++ optional decimal job.array)
    → slice_get line 3 ≡ Some (codes "index=" ++ optional decimal job.index)
    → ids_in line ≡ Some (ids_of job)
unfolding ids_in
ids_from line job fits at_id at_array at_index =
    rw (
      key_field u32_in line 1 (codes "id=") (decimal job.id) job.id at_id (u32_back job.id fits.id),
      key_field (optional_in u32_in) line 2 (codes "array=") (optional decimal job.array) job.array at_array (optional_back FitsU32 decimal u32_in u32_read job.array fits.array),
      key_field (optional_in u32_in) line 3 (codes "index=") (optional decimal job.index) job.index at_index (optional_back FitsU32 decimal u32_in u32_read job.index fits.index),
    ) refl

abbrev names_of : SavedJob → JobNames
names_of job = record { name = job.terms.name; user = job.user; account = job.terms.account; partition = job.partition; qos = job.terms.qos; reservation = job.terms.reservation }

names_from : (line : List (List ℕ)) (job : SavedJob) → JobFits job
    → slice_get line 4 ≡ Some (codes "name=" ++ job.terms.name)
    → slice_get line 5 ≡ Some (codes "user=" ++ job.user)
    → slice_get line 6 ≡ Some (codes "account=" ++ job.terms.account)
    → slice_get line 7 ≡ Some (codes "partition=" ++ job.partition)
    → slice_get line 8 ≡ Some (codes "qos=" ++ job.terms.qos)
    → slice_get line 9 ≡ Some (codes "reservation=" ++ optional name_text job.terms.reservation)
    → names_in line ≡ Some (names_of job)
unfolding names_in
names_from line job fits at_name at_user at_account at_partition at_qos at_reservation =
    rw (
      key_field job_name_in line 4 (codes "name=") (job.terms.name) job.terms.name at_name (job_name_back job.terms.name fits.terms.name),
      key_field name_in line 5 (codes "user=") (job.user) job.user at_user (name_back job.user fits.user),
      key_field name_in line 6 (codes "account=") (job.terms.account) job.terms.account at_account (name_back job.terms.account fits.terms.account),
      key_field name_in line 7 (codes "partition=") (job.partition) job.partition at_partition (name_back job.partition fits.partition),
      key_field name_in line 8 (codes "qos=") (job.terms.qos) job.terms.qos at_qos (name_back job.terms.qos fits.terms.qos),
      key_field (optional_in name_in) line 9 (codes "reservation=") (optional name_text job.terms.reservation) job.terms.reservation at_reservation (optional_back IsName name_text name_in names_read job.terms.reservation fits.terms.reservation),
    ) refl

abbrev size_of : SavedJob → JobSize
size_of job = record { tasks = job.terms.tasks; cpus_per_task = job.terms.cpus_per_task; tasks_per_node = job.terms.tasks_per_node; min_nodes = job.terms.min_nodes; max_nodes = job.terms.max_nodes; mem = job.terms.mem; exclusive = job.terms.exclusive }

size_from : (line : List (List ℕ)) (job : SavedJob) → JobFits job
    → slice_get line 10 ≡ Some (codes "tasks=" ++ decimal job.terms.tasks)
    → slice_get line 11 ≡ Some (codes "cpus=" ++ decimal job.terms.cpus_per_task)
    → slice_get line 12 ≡ Some (codes "pernode=" ++ optional decimal job.terms.tasks_per_node)
    → slice_get line 13 ≡ Some (codes "least=" ++ decimal job.terms.min_nodes)
    → slice_get line 14 ≡ Some (codes "most=" ++ optional decimal job.terms.max_nodes)
    → slice_get line 15 ≡ Some (codes "mem=" ++ mem_text job.terms.mem)
    → slice_get line 16 ≡ Some (codes "exclusive=" ++ truth_text job.terms.exclusive)
    → size_in line ≡ Some (size_of job)
unfolding size_in
size_from line job fits at_tasks at_cpus_per_task at_tasks_per_node at_min_nodes at_max_nodes at_mem at_exclusive =
    rw (
      key_field (ranged_in 1 1_048_576) line 10 (codes "tasks=") (decimal job.terms.tasks) job.terms.tasks at_tasks (ranged_back 1 1_048_576 job.terms.tasks (omega arith) fits.terms.tasks),
      key_field (ranged_in 1 1024) line 11 (codes "cpus=") (decimal job.terms.cpus_per_task) job.terms.cpus_per_task at_cpus_per_task (ranged_back 1 1024 job.terms.cpus_per_task (omega arith) fits.terms.cpus),
      key_field (optional_in (ranged_in 1 1024)) line 12 (codes "pernode=") (optional decimal job.terms.tasks_per_node) job.terms.tasks_per_node at_tasks_per_node (optional_back (IsWithin 1 1024) decimal (ranged_in 1 1024) (ranged_read 1 1024 (omega arith)) job.terms.tasks_per_node fits.terms.per_node),
      key_field (ranged_in 1 1024) line 13 (codes "least=") (decimal job.terms.min_nodes) job.terms.min_nodes at_min_nodes (ranged_back 1 1024 job.terms.min_nodes (omega arith) fits.terms.least),
      key_field (optional_in (ranged_in 1 1024)) line 14 (codes "most=") (optional decimal job.terms.max_nodes) job.terms.max_nodes at_max_nodes (optional_back (IsWithin 1 1024) decimal (ranged_in 1 1024) (ranged_read 1 1024 (omega arith)) job.terms.max_nodes fits.terms.most),
      key_field mem_in line 15 (codes "mem=") (mem_text job.terms.mem) job.terms.mem at_mem (mem_back job.terms.mem fits.terms.mem),
      key_field truth_in line 16 (codes "exclusive=") (truth_text job.terms.exclusive) job.terms.exclusive at_exclusive (truth_back job.terms.exclusive),
    ) refl

abbrev wish_of : SavedJob → JobWish
wish_of job = record { limit = job.limit; begin = job.terms.begin; nice = job.nice; requeue = job.terms.requeue }

wish_from : (line : List (List ℕ)) (job : SavedJob) → JobFits job
    → slice_get line 17 ≡ Some (codes "limit=" ++ limit_text job.limit)
    → slice_get line 18 ≡ Some (codes "begin=" ++ optional decimal job.terms.begin)
    → slice_get line 19 ≡ Some (codes "nice=" ++ nice_text job.nice)
    → slice_get line 20 ≡ Some (codes "requeue=" ++ truth_text job.terms.requeue)
    → wish_in line ≡ Some (wish_of job)
unfolding wish_in
wish_from line job fits at_limit at_begin at_nice at_requeue =
    rw (
      key_field limit_in line 17 (codes "limit=") (limit_text job.limit) job.limit at_limit (limit_back job.limit fits.limit),
      key_field (optional_in (ranged_in 0 250_000_000_000)) line 18 (codes "begin=") (optional decimal job.terms.begin) job.terms.begin at_begin (optional_back (IsWithin 0 250_000_000_000) decimal (ranged_in 0 250_000_000_000) (ranged_read 0 250_000_000_000 (omega arith)) job.terms.begin fits.terms.begin),
      key_field nice_in line 19 (codes "nice=") (nice_text job.nice) job.nice at_nice (nice_back job.nice fits.nice),
      key_field truth_in line 20 (codes "requeue=") (truth_text job.terms.requeue) job.terms.requeue at_requeue (truth_back job.terms.requeue),
    ) refl

abbrev needs_of : SavedJob → JobNeeds
needs_of job = record { features = job.terms.features; required = job.terms.required; excluded = job.terms.excluded; at_once = job.terms.at_once; dependency = job.terms.dependency }

needs_from : (line : List (List ℕ)) (job : SavedJob) → JobFits job
    → slice_get line 24 ≡ Some (codes "percent=" ++ optional decimal job.terms.at_once)
    → slice_get line 21 ≡ Some (codes "features=" ++ optional features_text job.terms.features)
    → slice_get line 22 ≡ Some (codes "required=" ++ listed name_text job.terms.required)
    → slice_get line 23 ≡ Some (codes "excluded=" ++ listed name_text job.terms.excluded)
    → slice_get line 25 ≡ Some (codes "dependency=" ++ optional dependency_text job.terms.dependency)
    → needs_in line ≡ Some (needs_of job)
unfolding needs_in
needs_from line job fits at_at_once at_features at_required at_excluded at_dependency =
    rw (
      key_field (optional_in (ranged_in 1 4_294_967_295)) line 24 (codes "percent=") (optional decimal job.terms.at_once) job.terms.at_once at_at_once (optional_back (IsWithin 1 4_294_967_295) decimal (ranged_in 1 4_294_967_295) (ranged_read 1 4_294_967_295 (omega arith)) job.terms.at_once fits.terms.at_once),
      key_field (optional_in features_in) line 21 (codes "features=") (optional features_text job.terms.features) job.terms.features at_features (optional_back FeaturesFit features_text features_in features_read job.terms.features fits.terms.features),
      key_field hosts_in line 22 (codes "required=") (listed name_text job.terms.required) job.terms.required at_required (hosts_back job.terms.required fits.terms.required),
      key_field hosts_in line 23 (codes "excluded=") (listed name_text job.terms.excluded) job.terms.excluded at_excluded (hosts_back job.terms.excluded fits.terms.excluded),
      key_field (optional_in dependency_in) line 25 (codes "dependency=") (optional dependency_text job.terms.dependency) job.terms.dependency at_dependency (optional_back DependencyFits dependency_text dependency_in dependency_read job.terms.dependency fits.terms.dependency),
    ) refl

abbrev script_of : SavedJob → JobScript
script_of job = record { run = job.terms.run; exit = job.terms.exit; submit = job.submit; eligible = job.eligible; held_by = job.held_by; state = job.state }

script_from : (line : List (List ℕ)) (job : SavedJob) → JobFits job
    → slice_get line 26 ≡ Some (codes "run=" ++ decimal job.terms.run)
    → slice_get line 27 ≡ Some (codes "exit=" ++ decimal job.terms.exit)
    → slice_get line 28 ≡ Some (codes "submit=" ++ decimal job.submit)
    → slice_get line 29 ≡ Some (codes "eligible=" ++ decimal job.eligible)
    → slice_get line 30 ≡ Some (codes "held=" ++ held_text job.held_by)
    → slice_get line 31 ≡ Some (codes "state=" ++ state_text job.state)
    → script_in line ≡ Some (script_of job)
unfolding script_in
script_from line job fits at_run at_exit at_submit at_eligible at_held_by at_state =
    rw (
      key_field (ranged_in 1 2_000_000_000) line 26 (codes "run=") (decimal job.terms.run) job.terms.run at_run (ranged_back 1 2_000_000_000 job.terms.run (omega arith) fits.terms.run),
      key_field (ranged_in 0 255) line 27 (codes "exit=") (decimal job.terms.exit) job.terms.exit at_exit (ranged_back 0 255 job.terms.exit (omega arith) fits.terms.exit),
      key_field u64_in line 28 (codes "submit=") (decimal job.submit) job.submit at_submit (u64_back job.submit fits.submit),
      key_field u64_in line 29 (codes "eligible=") (decimal job.eligible) job.eligible at_eligible (u64_back job.eligible fits.eligible),
      key_field held_in line 30 (codes "held=") (held_text job.held_by) job.held_by at_held_by (held_back job.held_by),
      key_field state_in line 31 (codes "state=") (state_text job.state) job.state at_state (state_back job.state),
    ) refl

abbrev standing_of : SavedJob → JobStanding
standing_of job = record { starts = job.starts; started = job.started; ended = job.ended; exit = job.exit; last_nodes = job.last_nodes; parts = job.parts }

standing_from : (line : List (List ℕ)) (job : SavedJob) → JobFits job
    → slice_get line 32 ≡ Some (codes "starts=" ++ decimal job.starts)
    → slice_get line 33 ≡ Some (codes "started=" ++ optional decimal job.started)
    → slice_get line 34 ≡ Some (codes "ended=" ++ optional decimal job.ended)
    → slice_get line 35 ≡ Some (codes "code=" ++ optional decimal job.exit)
    → slice_get line 36 ≡ Some (codes "last=" ++ listed name_text job.last_nodes)
    → slice_get line 37 ≡ Some (codes "parts=" ++ parts_text job.parts)
    → standing_in line ≡ Some (standing_of job)
unfolding standing_in
standing_from line job fits at_starts at_started at_ended at_exit at_last_nodes at_parts =
    rw (
      key_field u32_in line 32 (codes "starts=") (decimal job.starts) job.starts at_starts (u32_back job.starts fits.starts),
      key_field (optional_in u64_in) line 33 (codes "started=") (optional decimal job.started) job.started at_started (optional_back FitsU64 decimal u64_in u64_read job.started fits.started),
      key_field (optional_in u64_in) line 34 (codes "ended=") (optional decimal job.ended) job.ended at_ended (optional_back FitsU64 decimal u64_in u64_read job.ended fits.ended),
      key_field (optional_in u32_in) line 35 (codes "code=") (optional decimal job.exit) job.exit at_exit (optional_back FitsU32 decimal u32_in u32_read job.exit fits.exit),
      key_field (list_in name_in 44) line 36 (codes "last=") (listed name_text job.last_nodes) job.last_nodes at_last_nodes (names_back job.last_nodes fits.last_nodes),
      key_field (list_in part_in 59) line 37 (codes "parts=") (parts_text job.parts) job.parts at_parts (parts_text_back job.parts fits.parts),
    ) refl

abbrev pub groups_of : SavedJob → JobGroups
groups_of job = record { ids = ids_of job; names = names_of job; size = size_of job; wish = wish_of job; needs = needs_of job; script = script_of job; standing = standing_of job }

ids_back : (job : SavedJob) → JobFits job → ids_in (job_words job) ≡ Some (ids_of job)
unfolding job_words
ids_back job fits = ids_from (job_words job) job fits refl refl refl

names_back_of : (job : SavedJob) → JobFits job → names_in (job_words job) ≡ Some (names_of job)
unfolding job_words
names_back_of job fits = names_from (job_words job) job fits refl refl refl refl refl refl

size_back : (job : SavedJob) → JobFits job → size_in (job_words job) ≡ Some (size_of job)
unfolding job_words
size_back job fits = size_from (job_words job) job fits refl refl refl refl refl refl refl

wish_back : (job : SavedJob) → JobFits job → wish_in (job_words job) ≡ Some (wish_of job)
unfolding job_words
wish_back job fits = wish_from (job_words job) job fits refl refl refl refl

needs_back : (job : SavedJob) → JobFits job → needs_in (job_words job) ≡ Some (needs_of job)
unfolding job_words
needs_back job fits = needs_from (job_words job) job fits refl refl refl refl refl

script_back : (job : SavedJob) → JobFits job → script_in (job_words job) ≡ Some (script_of job)
unfolding job_words
script_back job fits = script_from (job_words job) job fits refl refl refl refl refl refl

standing_back : (job : SavedJob) → JobFits job → standing_in (job_words job) ≡ Some (standing_of job)
unfolding job_words
standing_back job fits = standing_from (job_words job) job fits refl refl refl refl refl refl

pub groups_back : (job : SavedJob) → JobFits job → groups_in (job_words job) ≡ Some (groups_of job)
unfolding groups_in
groups_back job fits =
    rw (ids_back job fits, size_back job fits, wish_back job fits, script_back job fits, names_back_of job fits, needs_back job fits, standing_back job fits) refl

pub job_of_groups : (job : SavedJob) → job_of (groups_of job) ≡ job
job_of_groups job = refl

-- bytes

ids_good : (job : SavedJob) → JobFits job → are_words (ids_words job) ≡ true
unfolding ids_words
ids_good job fits =
    rw (
      u32_word job.id fits.id,
      optional_pass FitsU32 decimal u32_word job.array fits.array,
      optional_pass FitsU32 decimal u32_word job.index fits.index,
    ) refl

names_good : (job : SavedJob) → JobFits job → are_words (names_words job) ≡ true
unfolding names_words
names_good job fits =
    rw (
      job_name_word job.terms.name fits.terms.name,
      name_word job.user fits.user,
      name_word job.terms.account fits.terms.account,
      name_word job.partition fits.partition,
      name_word job.terms.qos fits.terms.qos,
      optional_pass IsName name_text name_word job.terms.reservation fits.terms.reservation,
    ) refl

size_good : (job : SavedJob) → JobFits job → are_words (size_words job) ≡ true
unfolding size_words
size_good job fits =
    rw (
      within_word 1 1_048_576 (omega arith) job.terms.tasks fits.terms.tasks,
      within_word 1 1024 (omega arith) job.terms.cpus_per_task fits.terms.cpus,
      optional_pass (IsWithin 1 1024) decimal (within_word 1 1024 (omega arith)) job.terms.tasks_per_node fits.terms.per_node,
      within_word 1 1024 (omega arith) job.terms.min_nodes fits.terms.least,
      optional_pass (IsWithin 1 1024) decimal (within_word 1 1024 (omega arith)) job.terms.max_nodes fits.terms.most,
      mem_word job.terms.mem fits.terms.mem,
      truth_word job.terms.exclusive,
    ) refl

wish_good : (job : SavedJob) → JobFits job → are_words (wish_words job) ≡ true
unfolding wish_words
wish_good job fits =
    rw (
      named (limit_text job.limit) (limit_named job.limit fits.limit),
      optional_pass (IsWithin 0 250_000_000_000) decimal (within_word 0 250_000_000_000 (omega arith)) job.terms.begin fits.terms.begin,
      named (nice_text job.nice) (nice_named job.nice fits.nice),
      truth_word job.terms.requeue,
    ) refl

needs_good : (job : SavedJob) → JobFits job → are_words (needs_words job) ≡ true
unfolding needs_words
needs_good job fits =
    rw (
      optional_pass FeaturesFit features_text features_word job.terms.features fits.terms.features,
      listed_names_word job.terms.required fits.terms.required.named,
      listed_names_word job.terms.excluded fits.terms.excluded.named,
      optional_pass (IsWithin 1 4_294_967_295) decimal (within_word 1 4_294_967_295 (omega arith)) job.terms.at_once fits.terms.at_once,
      optional_pass DependencyFits dependency_text dependency_word job.terms.dependency fits.terms.dependency,
    ) refl

script_good : (job : SavedJob) → JobFits job → are_words (script_words job) ≡ true
unfolding script_words
script_good job fits =
    rw (
      within_word 1 2_000_000_000 (omega arith) job.terms.run fits.terms.run,
      within_word 0 255 (omega arith) job.terms.exit fits.terms.exit,
      number_word job.submit fits.submit,
      number_word job.eligible fits.eligible,
      named (held_text job.held_by) (held_named job.held_by),
      named (state_text job.state) (state_named job.state),
    ) refl

standing_good : (job : SavedJob) → JobFits job → are_words (standing_words job) ≡ true
unfolding standing_words
standing_good job fits =
    rw (
      u32_word job.starts fits.starts,
      optional_pass FitsU64 decimal number_word job.started fits.started,
      optional_pass FitsU64 decimal number_word job.ended fits.ended,
      optional_pass FitsU32 decimal u32_word job.exit fits.exit,
      listed_names_word job.last_nodes fits.last_nodes,
      parts_text_word job.parts fits.parts,
    ) refl

are_append : (one other : List (List ℕ)) → are_words one ≡ true → are_words other ≡ true → are_words (one ++ other) ≡ true
are_append one other p q = list_all-append (list_all is_word_byte) one other ∙ both (are_words one) (are_words other) p q

-- all words of the line, by groups
abbrev all_groups : SavedJob → List (List ℕ)
all_groups job = ids_words job ++ (names_words job ++ (size_words job ++ (wish_words job ++ (needs_words job ++ (script_words job ++ standing_words job)))))

in_groups : (job : SavedJob) → job_words job ≡ codes "job" ∷ all_groups job
unfolding job_words ids_words names_words size_words wish_words needs_words script_words standing_words
in_groups job = refl

pub job_good : (job : SavedJob) → JobFits job → are_words (job_words job) ≡ true
job_good job fits =
    rw (in_groups job) (
    are_append (ids_words job) (names_words job ++ (size_words job ++ (wish_words job ++ (needs_words job ++ (script_words job ++ standing_words job))))) (ids_good job fits) (are_append (names_words job) (size_words job ++ (wish_words job ++ (needs_words job ++ (script_words job ++ standing_words job)))) (names_good job fits)
    (are_append (size_words job) (wish_words job ++ (needs_words job ++ (script_words job ++ standing_words job))) (size_good job fits) (are_append (wish_words job) (needs_words job ++ (script_words job ++ standing_words job)) (wish_good job fits)
    (are_append (needs_words job) (script_words job ++ standing_words job) (needs_good job fits) (are_append (script_words job) (standing_words job) (script_good job fits) (standing_good job fits))))))
    )

blanks-append : (one other : List (List ℕ)) → behind_blanks (one ++ other) ≡ behind_blanks one ++ behind_blanks other
blanks-append [] other = refl
blanks-append (word ∷ words) other =
    ap (λ t. 32 ∷ (quoted word ++ t)) (blanks-append words other) ∙ ap (λ t. 32 ∷ t) (sym (append_assoc (quoted word) (behind_blanks words) (behind_blanks other)))

behind_all : (a b c d e f g : List (List ℕ)) (end : List ℕ)
    → behind_blanks (a ++ (b ++ (c ++ (d ++ (e ++ (f ++ g)))))) ++ end
    ≡ behind_blanks a ++ (behind_blanks b ++ (behind_blanks c ++ (behind_blanks d ++ (behind_blanks e ++ (behind_blanks f ++ (behind_blanks g ++ end))))))
behind_all a b c d e f g end =
    simp (blanks-append, append_assoc)

pub job_line : (job : SavedJob) → line_text (job_words job)
    ≡ quoted (codes "job") ++ (behind_blanks (ids_words job) ++ (behind_blanks (names_words job) ++ (behind_blanks (size_words job)
    ++ (behind_blanks (wish_words job) ++ (behind_blanks (needs_words job) ++ (behind_blanks (script_words job) ++ (behind_blanks (standing_words job) ++ 10 ∷ [])))))))
unfolding line_text quoted_words
job_line job =
    ap line_text (in_groups job) ∙ append_assoc (quoted (codes "job")) (behind_blanks (all_groups job)) (10 ∷ [])
    ∙ ap (λ t. quoted (codes "job") ++ t) (behind_all (ids_words job) (names_words job) (size_words job) (wish_words job) (needs_words job) (script_words job) (standing_words job) (10 ∷ []))

-- what is read of a job's line fits
pub job_fits : (groups : JobGroups) → GroupsFit groups → JobFits (job_of groups)
job_fits groups fits = record {
  id = fits.ids.id_fits;
  array = fits.ids.array_fits;
  index = fits.ids.index_fits;
  user = fits.names.user_fits;
  terms = record {
    name = fits.names.name_fits;
    account = fits.names.account_fits;
    qos = fits.names.qos_fits;
    reservation = fits.names.reservation_fits;
    tasks = fits.size.tasks_fits;
    cpus = fits.size.cpus_per_task_fits;
    per_node = fits.size.tasks_per_node_fits;
    least = fits.size.min_nodes_fits;
    most = fits.size.max_nodes_fits;
    mem = fits.size.mem_fits;
    begin = fits.wish.begin_fits;
    features = fits.needs.features_fits;
    required = fits.needs.required_fits;
    excluded = fits.needs.excluded_fits;
    at_once = fits.needs.at_once_fits;
    dependency = fits.needs.dependency_fits;
    run = fits.script.run_fits;
    exit = fits.script.exit_fits;
  };
  partition = fits.names.partition_fits;
  limit = fits.wish.limit_fits;
  nice = fits.wish.nice_fits;
  submit = fits.script.submit_fits;
  eligible = fits.script.eligible_fits;
  starts = fits.standing.starts_fits;
  started = fits.standing.started_fits;
  ended = fits.standing.ended_fits;
  exit = fits.standing.exit_fits;
  last_nodes = fits.standing.last_nodes_fits;
  parts = fits.standing.parts_fits;
}

-- what was written, step by step
abbrev Step : List ℕ → List ℕ → List ℕ → Type 0
Step before after text = after ≡ before ++ text

pub two_steps : (o w v a b : List ℕ) → Step o w a → Step w v b → Step o v (a ++ b)
two_steps o w v a b one other = other ∙ ap (λ t. t ++ b) one ∙ append_assoc o a b

pub ok_step : {T E : Type 0} (r : Result T E) (o w v a b : List ℕ) → Step o w a → OnOk r (Step w v b) → OnOk r (Step o v (a ++ b))
ok_step (Ok x) o w v a b one other = two_steps o w v a b one other
ok_step (Err e) o w v a b one other = tt

pub ok_same : {T E : Type 0} (r : Result T E) (o v a b : List ℕ) → a ≡ b → OnOk r (Step o v a) → OnOk r (Step o v b)
ok_same (Ok x) o v a b same step = step ∙ ap (λ t. o ++ t) same
ok_same (Err e) o v a b same step = tt

reservation_joined : (q a b d e f h : List ℕ)
    → q ++ (32 ∷ a ++ (32 ∷ b ++ (32 ∷ d ++ ((32 ∷ e ++ (32 ∷ f ++ 32 ∷ h)) ++ 10 ∷ []))))
    ≡ (q ++ (32 ∷ a ++ (32 ∷ b ++ (32 ∷ d ++ (32 ∷ e ++ (32 ∷ f ++ (32 ∷ h ++ []))))))) ++ 10 ∷ []
reservation_joined q a b d e f h = simp append_assoc

pub reservation_line : (s : SavedReservation)
    → quoted (codes "reservation") ++ (32 ∷ quoted s.name ++ (32 ∷ quoted (decimal s.start) ++ (32 ∷ quoted (decimal s.end)
    ++ ((32 ∷ quoted (listed name_text s.nodes) ++ (32 ∷ quoted (listed name_text s.users) ++ 32 ∷ quoted (listed name_text s.accounts))) ++ 10 ∷ []))))
    ≡ line_text (reservation_words s)
unfolding line_text quoted_words
reservation_line s =
    reservation_joined (quoted (codes "reservation")) (quoted s.name) (quoted (decimal s.start)) (quoted (decimal s.end))
    (quoted (listed name_text s.nodes)) (quoted (listed name_text s.users)) (quoted (listed name_text s.accounts))
