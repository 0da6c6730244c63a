-- What the lines of settings say.
use Rattle.std.specs.Prelude.{ℕ, ◌==◌, Bool, true, false, ◌&&◌, if◌then◌else◌, List, [], ◌∷◌, bytes_eq, codes, Option, Some, None}
use Rattle.std.specs.Prelude.{option_map, unwrap_or, Result}
use Rattle.std.specs.List.{list_any}
use Rattle.plain_data.specs.Limits.{limit_of}
use Rattle.small_texts.specs.Options.{◌>>=◌}
use Rattle.plain_data.specs.declared.limit.Limit.{Limit}
use Rattle.plain_data.specs.declared.limit.Limit.TheVariants.{Minutes, Unlimited}
use Rattle.text_values.specs.Keys.{setting_key}
use Rattle.text_values.specs.Values.{mem_per_node, mem_per_cpu}
use Rattle.text_values.specs.Names.{name_in}
use Rattle.text_values.specs.Numbers.{number_in, u32_in}
use Rattle.text_values.specs.Scheduler.{scheduler_in, no_items}
use Rattle.conf_reader.specs.Words.{entry_in, said_by}
use Rattle.plain_data.specs.declared.conf.Settings.{Settings}
use Rattle.text_values.specs.declared.keys.SettingKey.{SettingKey}
use Rattle.text_values.specs.declared.keys.SettingKey.TheVariants as key
use Rattle.conf_reader.specs.declared.setting_lines.SettingEntry.{SettingEntry}
use Rattle.conf_reader.specs.declared.setting_lines.SettingEntry.TheVariants.{FirstJobId, MaxJobCount, MaxArraySize}
use Rattle.conf_reader.specs.declared.setting_lines.SettingEntry.TheVariants.{MinJobAge, SlurmdTimeout, JobRequeue}
use Rattle.conf_reader.specs.declared.setting_lines.SettingEntry.TheVariants.{SlurmUser, MaxAge, WeightAge}
use Rattle.conf_reader.specs.declared.setting_lines.SettingEntry.TheVariants.{WeightFairshare, WeightJobSize}
use Rattle.conf_reader.specs.declared.setting_lines.SettingEntry.TheVariants.{WeightPartition, WeightQos, Plans, Mem}
use Rattle.conf_reader.specs.declared.setting_lines.SettingEntry.TheVariants.{ByQos, Requeues, WithoutEffect}
use Rattle.conf_reader.specs.declared.setting_lines.SettingWords.{SettingWords}
use Rattle.text_values.specs.declared.conf_refusal.ConfKind.{ConfKind}

-- a time of at least a minute, with an end
abbrev pub minutes_of : Limit → Option ℕ
minutes_of (Minutes minutes) = Some minutes
minutes_of Unlimited = None

unfoldable pub minutes_in : List ℕ → Option ℕ
minutes_in text = limit_of text >>= minutes_of

-- a key that takes these texts, and has no effect
abbrev pub only : List (List ℕ) → List ℕ → Option SettingEntry
only texts text = if list_any (bytes_eq text) texts then Some WithoutEffect else None

-- each of these stands for processors and memory
unfoldable pub select_parameters : List ℕ → Option SettingEntry
select_parameters text =
    only (codes "CR_CPU_Memory" ∷ codes "CR_CPU" ∷ codes "CR_Core" ∷ codes "CR_Core_Memory" ∷ []) text

-- whether a text is the one that turns something on, and not the one that leaves it off; letters count in their case
abbrev pub choice_in : List ℕ → List ℕ → List ℕ → Option Bool
choice_in off on text =
    if bytes_eq text off then Some false else (if bytes_eq text on then Some true else None)

-- what a key and its value say
unfoldable pub setting_entry : SettingKey → List ℕ → Option SettingEntry
setting_entry key.FirstJobId text = option_map FirstJobId (number_in 1 67_043_328 text)
setting_entry key.MaxJobCount text = option_map MaxJobCount (number_in 1 20_000 text)
setting_entry key.MaxArraySize text = option_map MaxArraySize (number_in 1 10_001 text)
setting_entry key.MinJobAge text = option_map MinJobAge (number_in 0 65_533 text)
setting_entry key.SlurmdTimeout text = option_map SlurmdTimeout (number_in 0 65_533 text)
setting_entry key.JobRequeue text = option_map (λ n. JobRequeue (n == 1)) (number_in 0 1 text)
setting_entry key.SlurmUser text = option_map SlurmUser (name_in text)
setting_entry key.PriorityType text = only (codes "priority/multifactor" ∷ []) text
setting_entry key.PriorityDecayHalfLife text = only (codes "0" ∷ []) text
setting_entry key.PriorityMaxAge text = option_map MaxAge (minutes_in text)
setting_entry key.WeightAge text = option_map WeightAge (u32_in text)
setting_entry key.WeightFairshare text = option_map WeightFairshare (u32_in text)
setting_entry key.WeightJobSize text = option_map WeightJobSize (u32_in text)
setting_entry key.WeightPartition text = option_map WeightPartition (u32_in text)
setting_entry key.WeightQos text = option_map WeightQos (u32_in text)
setting_entry key.SchedulerType text = only (codes "sched/backfill" ∷ []) text
setting_entry key.SchedulerParameters text = option_map Plans (scheduler_in text)
setting_entry key.SelectType text = only (codes "select/cons_tres" ∷ []) text
setting_entry key.SelectTypeParameters text = select_parameters text
setting_entry key.PreemptType text =
    option_map ByQos (choice_in (codes "preempt/none") (codes "preempt/qos") text)
setting_entry key.PreemptMode text = option_map Requeues (choice_in (codes "OFF") (codes "REQUEUE") text)
setting_entry key.DefMemPerNode text = option_map Mem (mem_per_node text)
setting_entry key.DefMemPerCpu text = option_map Mem (mem_per_cpu text)
setting_entry key.WithoutEffect text = Some WithoutEffect

unfoldable pub setting_word : List ℕ → Result SettingEntry ConfKind
setting_word word = entry_in setting_key setting_entry word

-- an entry takes the place of an earlier one of its kind
unfoldable pub with_setting : SettingWords → SettingEntry → SettingWords
with_setting words (FirstJobId n) = record words { first_job_id = Some n }
with_setting words (MaxJobCount n) = record words { max_job_count = Some n }
with_setting words (MaxArraySize n) = record words { max_array_size = Some n }
with_setting words (MinJobAge n) = record words { min_job_age = Some n }
with_setting words (SlurmdTimeout n) = record words { slurmd_timeout = Some n }
with_setting words (JobRequeue choice) = record words { job_requeue = Some choice }
with_setting words (SlurmUser name) = record words { slurm_user = Some name }
with_setting words (MaxAge n) = record words { max_age = Some n }
with_setting words (WeightAge n) = record words { weight_age = Some n }
with_setting words (WeightFairshare n) = record words { weight_fairshare = Some n }
with_setting words (WeightJobSize n) = record words { weight_job_size = Some n }
with_setting words (WeightPartition n) = record words { weight_partition = Some n }
with_setting words (WeightQos n) = record words { weight_qos = Some n }
with_setting words (Plans plans) = record words { plans = plans }
with_setting words (Mem ask) = record words { mem = Some ask }
with_setting words (ByQos choice) = record words { by_qos = Some choice }
with_setting words (Requeues choice) = record words { requeues = Some choice }
with_setting words WithoutEffect = words

-- a file that says nothing
unfoldable pub no_settings : SettingWords
no_settings = record {
  first_job_id = None;
  max_job_count = None;
  max_array_size = None;
  min_job_age = None;
  slurmd_timeout = None;
  job_requeue = None;
  slurm_user = None;
  max_age = None;
  weight_age = None;
  weight_fairshare = None;
  weight_job_size = None;
  weight_partition = None;
  weight_qos = None;
  plans = no_items;
  mem = None;
  by_qos = None;
  requeues = None;
}

-- what the file says up to a line and with it
unfoldable pub setting_line : SettingWords → List ℕ → Result SettingWords ConfKind
setting_line before line = said_by with_setting setting_word before line

-- jobs are preempted where the type and the mode both say so
abbrev pub is_preempting : SettingWords → Bool
is_preempting words = unwrap_or words.by_qos false && unwrap_or words.requeues false

-- the settings of a file that says this, with their defaults
unfoldable pub settings_of : SettingWords → Settings
settings_of words = record {
  first_job_id = unwrap_or words.first_job_id 1;
  max_job_count = unwrap_or words.max_job_count 10_000;
  max_array_size = unwrap_or words.max_array_size 1_001;
  min_job_age = unwrap_or words.min_job_age 300;
  slurmd_timeout = unwrap_or words.slurmd_timeout 300;
  job_requeue = unwrap_or words.job_requeue true;
  slurm_user = unwrap_or words.slurm_user (codes "root");
  max_age = unwrap_or words.max_age 10_080;
  weight_age = unwrap_or words.weight_age 0;
  weight_fairshare = unwrap_or words.weight_fairshare 0;
  weight_job_size = unwrap_or words.weight_job_size 0;
  weight_partition = unwrap_or words.weight_partition 0;
  weight_qos = unwrap_or words.weight_qos 0;
  bf_window = unwrap_or words.plans.window 1_440;
  bf_interval = unwrap_or words.plans.interval 30;
  mem_default = words.mem;
  preempt = is_preempting words;
}
