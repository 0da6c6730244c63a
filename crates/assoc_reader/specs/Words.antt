-- What the options of a line say.
use Rattle.std.specs.Prelude.{ℕ, Bool, if◌then◌else◌, List, [], ◌∷◌, bytes_eq, codes, Option, Some, None, option_map, option_and_then, Result}
use Rattle.std.specs.List.{list_all}
use Rattle.std.specs.Str.{byte}
use Rattle.plain_data.specs.Limits.{limit_of}
use Rattle.small_texts.specs.Fields.{fields}
use Rattle.text_values.specs.Names.{name_in, names_in}
use Rattle.text_values.specs.Numbers.{number_in, u32_in}
use Rattle.assoc_reader.specs.Keys.{assoc_key, qos_key}
use Rattle.assoc_reader.specs.Options.{with_option, said_by}
use Rattle.assoc_reader.specs.declared.keys.AssocKey.{AssocKey}
use Rattle.assoc_reader.specs.declared.keys.AssocKey.TheVariants.{Fairshare, GrpJobs, GrpSubmitJobs, GrpTres, MaxJobs, MaxSubmitJobs, DefaultAccount, WithoutEffect}
use Rattle.assoc_reader.specs.declared.keys.QosKey.{QosKey}
use Rattle.assoc_reader.specs.declared.keys.QosKey.TheVariants as qos
use Rattle.assoc_reader.specs.declared.assoc_words.AssocWords.{AssocWords}
use Rattle.assoc_reader.specs.declared.qos_words.QosWords.{QosWords}
use Rattle.assoc_reader.specs.declared.refusal.AssocKind.{AssocKind}

-- a limit is a number of at most ten digits
abbrev pub limit_in : List ℕ → Option ℕ
limit_in text = number_in 0 9_999_999_999 text

-- the fields of `cpu=N` at its equals sign
unfoldable pub cpus_of : List (List ℕ) → Option ℕ
cpus_of (name ∷ number ∷ []) = if bytes_eq name (codes "cpu") then limit_in number else None
cpus_of parts = None

-- 61 is an equals sign
abbrev pub cpus_in : List ℕ → Option ℕ
cpus_in text = cpus_of (fields (byte "=") text)

-- what an option of an account or a user says takes the place of what an earlier one of its key did
unfoldable pub with_assoc_value : AssocWords → AssocKey → List ℕ → Option AssocWords
with_assoc_value words Fairshare text = option_map (λ n. record words { shares = n }) (number_in 0 65_535 text)
with_assoc_value words GrpJobs text =
    option_map (λ n. record words { limits = record words.limits { grp_jobs = Some n } }) (limit_in text)
with_assoc_value words GrpSubmitJobs text =
    option_map (λ n. record words { limits = record words.limits { grp_submit = Some n } }) (limit_in text)
with_assoc_value words GrpTres text =
    option_map (λ n. record words { limits = record words.limits { grp_cpus = Some n } }) (cpus_in text)
with_assoc_value words MaxJobs text =
    option_map (λ n. record words { limits = record words.limits { max_jobs = Some n } }) (limit_in text)
with_assoc_value words MaxSubmitJobs text =
    option_map (λ n. record words { limits = record words.limits { max_submit = Some n } }) (limit_in text)
with_assoc_value words DefaultAccount text =
    option_map (λ name. record words { default_account = Some name }) (name_in text)
with_assoc_value words WithoutEffect text = Some words

-- an association of which a line says nothing: one share, and no limits
unfoldable pub no_assoc_words : AssocWords
no_assoc_words = record {
  shares = 1;
  default_account = None;
  limits = record { grp_jobs = None; grp_submit = None; grp_cpus = None; max_jobs = None; max_submit = None };
}

-- what the options of a user's line say, or of an account's
unfoldable pub assoc_said : Bool → List ℕ → Result AssocWords AssocKind
assoc_said user rest = said_by (with_option (assoc_key user) with_assoc_value) no_assoc_words rest

-- these names, where each of them is known
abbrev pub all_known : (List ℕ → Bool) → List (List ℕ) → Option (List (List ℕ))
all_known is_known names = if list_all is_known names then Some names else None

-- names between commas, each of which is known
abbrev pub known_names_in : (List ℕ → Bool) → List ℕ → Option (List (List ℕ))
known_names_in is_known text = option_and_then (all_known is_known) (names_in text)

-- the same of a quality of service, where it is told which of them are known
unfoldable pub with_qos_value : (List ℕ → Bool) → QosWords → QosKey → List ℕ → Option QosWords
with_qos_value is_known words qos.Priority text = option_map (λ n. record words { priority = n }) (u32_in text)
with_qos_value is_known words qos.GrpJobs text =
    option_map (λ n. record words { limits = record words.limits { grp_jobs = Some n } }) (limit_in text)
with_qos_value is_known words qos.GrpSubmitJobs text =
    option_map (λ n. record words { limits = record words.limits { grp_submit = Some n } }) (limit_in text)
with_qos_value is_known words qos.GrpTres text =
    option_map (λ n. record words { limits = record words.limits { grp_cpus = Some n } }) (cpus_in text)
with_qos_value is_known words qos.MaxJobsPerUser text =
    option_map (λ n. record words { limits = record words.limits { user_jobs = Some n } }) (limit_in text)
with_qos_value is_known words qos.MaxSubmitJobsPerUser text =
    option_map (λ n. record words { limits = record words.limits { user_submit = Some n } }) (limit_in text)
with_qos_value is_known words qos.MaxTresPerUser text =
    option_map (λ n. record words { limits = record words.limits { user_cpus = Some n } }) (cpus_in text)
with_qos_value is_known words qos.MaxWall text =
    option_map (λ limit. record words { limits = record words.limits { max_wall = Some limit } }) (limit_of text)
with_qos_value is_known words qos.Preempt text =
    option_map (λ names. record words { preempt = names }) (known_names_in is_known text)
with_qos_value is_known words qos.WithoutEffect text = Some words

-- a quality of service of which a line says nothing: priority 0, no limits, and none that it preempts
unfoldable pub no_qos_words : QosWords
no_qos_words = record {
  priority = 0;
  limits = record {
    grp_jobs = None;
    grp_submit = None;
    grp_cpus = None;
    user_jobs = None;
    user_submit = None;
    user_cpus = None;
    max_wall = None;
  };
  preempt = [];
}

-- what the options of a quality of service say
unfoldable pub qos_said : (List ℕ → Bool) → List ℕ → Result QosWords AssocKind
qos_said is_known rest = said_by (with_option qos_key (with_qos_value is_known)) no_qos_words rest
