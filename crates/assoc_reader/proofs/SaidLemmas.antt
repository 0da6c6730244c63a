-- What the line of a quality of service says has only names that are known.
use Rattle.std.proofs.Common.{ℕ, ◌≡◌, Bool, true, false, if◌then◌else◌, List, [], ◌∷◌, option_and_then, ok_or, Option, Some, None, IfSome, IfOk, refl}
use Rattle.std.specs.List.{list_all}
use Rattle.plain_data.specs.Limits.{limit_of}
use Rattle.text_values.specs.Names.{names_in}
use Rattle.text_values.specs.Numbers.{u32_in}
use Rattle.plain_data.specs.declared.limit.Limit.{Limit}
use Rattle.assoc_reader.specs.Keys.{qos_key}
use Rattle.assoc_reader.specs.Options.{pair_in, options_in, with_option, after_options}
use Rattle.assoc_reader.specs.Words.{limit_in, cpus_in, all_known, known_names_in, with_qos_value, no_qos_words, qos_said}
use Rattle.assoc_reader.specs.declared.keys.QosKey.{QosKey}
use Rattle.assoc_reader.specs.declared.keys.QosKey.TheVariants.{Priority, GrpJobs, GrpSubmitJobs, GrpTres, MaxJobsPerUser, MaxSubmitJobsPerUser, MaxTresPerUser, MaxWall, Preempt, WithoutEffect}
use Rattle.assoc_reader.specs.declared.qos_words.QosWords.{QosWords}
use Rattle.assoc_reader.specs.declared.refusal.AssocKind.TheVariants.{BadLine, UnknownKey, BadValue}
use Rattle.assoc_reader.proofs.StepLemmas.{ok-then, ok-any, ok-some, some-mapped, some-any}

abbrev Knows : (List ℕ → Bool) → QosWords → Type 0
Knows is_known words = list_all is_known words.preempt ≡ true

all-known : (is_known : List ℕ → Bool) (o : Option (List (List ℕ))) → IfSome (option_and_then (all_known is_known) o) (λ names. list_all is_known names ≡ true)
all-known is_known None = tt
all-known is_known (Some names) = by_test (list_all is_known names) refl where
  by_test : (t : Bool) → list_all is_known names ≡ t → IfSome (if t then Some names else None) (λ some. list_all is_known some ≡ true)
  by_test true e = e
  by_test false e = tt

value-known : (is_known : List ℕ → Bool) (words : QosWords) (key : QosKey) (text : List ℕ) → Knows is_known words → IfSome (with_qos_value is_known words key text) (Knows is_known)
unfolding with_qos_value
value-known is_known words Priority text known = some-any (λ n. record words { priority = n }) (Knows is_known) (λ _. known) (u32_in text)
value-known is_known words GrpJobs text known = some-any (λ n. record words { limits = record words.limits { grp_jobs = Some n } }) (Knows is_known) (λ _. known) (limit_in text)
value-known is_known words GrpSubmitJobs text known = some-any (λ n. record words { limits = record words.limits { grp_submit = Some n } }) (Knows is_known) (λ _. known) (limit_in text)
value-known is_known words GrpTres text known = some-any (λ n. record words { limits = record words.limits { grp_cpus = Some n } }) (Knows is_known) (λ _. known) (cpus_in text)
value-known is_known words MaxJobsPerUser text known = some-any (λ n. record words { limits = record words.limits { user_jobs = Some n } }) (Knows is_known) (λ _. known) (limit_in text)
value-known is_known words MaxSubmitJobsPerUser text known = some-any (λ n. record words { limits = record words.limits { user_submit = Some n } }) (Knows is_known) (λ _. known) (limit_in text)
value-known is_known words MaxTresPerUser text known = some-any (λ n. record words { limits = record words.limits { user_cpus = Some n } }) (Knows is_known) (λ _. known) (cpus_in text)
value-known is_known words MaxWall text known = some-any (λ (limit : Limit). record words { limits = record words.limits { max_wall = Some limit } }) (Knows is_known) (λ _. known) (limit_of text)
value-known is_known words Preempt text known =
    some-mapped (λ names. record words { preempt = names }) (λ names. list_all is_known names ≡ true) (Knows is_known) (λ names all. all) (known_names_in is_known text) (all-known is_known (names_in text))
value-known is_known words WithoutEffect text known = known

option-known : (is_known : List ℕ → Bool) (words : QosWords) (option : List ℕ) → Knows is_known words → IfOk (with_option qos_key (with_qos_value is_known) words option) (Knows is_known)
unfolding with_option
option-known is_known words option known =
    ok-then (ok_or (pair_in option) BadLine) _ (λ _. Unit {0}) (Knows is_known) (ok-any (ok_or (pair_in option) BadLine)) (λ pair _.
    ok-then (ok_or (qos_key pair.0) UnknownKey) _ (λ _. Unit {0}) (Knows is_known) (ok-any (ok_or (qos_key pair.0) UnknownKey)) (λ key _.
    ok-some (with_qos_value is_known words key pair.1) BadValue (Knows is_known) (value-known is_known words key pair.1 known)))

options-known : (is_known : List ℕ → Bool) (options : List (List ℕ)) (words : QosWords) → Knows is_known words → IfOk (after_options (with_option qos_key (with_qos_value is_known)) words options) (Knows is_known)
options-known is_known [] words known = known
options-known is_known (option ∷ options) words known =
    ok-then (with_option qos_key (with_qos_value is_known) words option) _ (Knows is_known) (Knows is_known) (option-known is_known words option known) (λ next h. options-known is_known options next h)

pub said-known : (is_known : List ℕ → Bool) (rest : List ℕ) → IfOk (qos_said is_known rest) (λ words. list_all is_known words.preempt ≡ true)
unfolding qos_said no_qos_words
said-known is_known rest =
    ok-then (ok_or (options_in rest) BadLine) _ (λ _. Unit {0}) (Knows is_known) (ok-any (ok_or (options_in rest) BadLine)) (λ options _. options-known is_known options no_qos_words refl)
