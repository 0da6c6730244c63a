-- What a command and its script ask for is by the rules of sbatch(1).
use Rattle.std.specs.Prelude.{All}
use Rattle.std.proofs.Common.{◌≡◌, ℕ, ◌+◌, Bool, true, ◌&&◌, ◌||◌, nat_eq, nat_lt, Option, Some, None, option_map, ok_or, Result, Ok, Err, List, [], ◌∷◌, ◌++◌, drop, fold, filter_map, length, map, bytes_eq, codes, refl, subst, arith, is_some}
use Rattle.std.specs.List.{cons_option, starts_with}
use Rattle.std.specs.Result.{result_ok}
use Rattle.std.proofs.lemmas.Bool.{cond_both}
use Rattle.std.proofs.lemmas.List.Elements.{All-append, All-cons, All-head, All-map, All-nil, All-tail}
use Rattle.small_texts.specs.Fields.{fields}
use Rattle.small_texts.specs.Options.{◌>>=◌}
use Rattle.line_words.specs.Words.{before_comment}
use Rattle.text_values.specs.Arguments.{Part, plain, bad, flag, valued, lacking}
use Rattle.text_values.specs.declared.word_refusal.WordKind.{WordKind}
use Rattle.text_values.specs.declared.word_refusal.WordKind.TheVariants.{BadValue}
use Rattle.plain_data.specs.declared.features.FeatureExpr.{FeatureExpr}
use Rattle.plain_data.specs.declared.dependency.DepSpec.{DepSpec}
use Rattle.plain_data.specs.declared.job.JobDesc.{JobDesc}
use Rattle.text_values.specs.Nodes.{few_nodes_in}
use Rattle.text_values.specs.Numbers.{number_in}
use Rattle.sbatch_reader.specs.Dependency.{dependency_in}
use Rattle.sbatch_reader.specs.Features.{features_in}
use Rattle.sbatch_reader.specs.Description.{are_crossed, job_name, job_of, named}
use Rattle.sbatch_reader.specs.Entries.{entry_in, flag_entry, no_words, takes_text, value_entry, with_entry}
use Rattle.sbatch_reader.specs.Job.{all_said, first_fault, is_crossed, job_in, says_script, script_word, unless_refused, words_of}
use Rattle.sbatch_reader.specs.Lines.{first_says, has_options, has_run, is_read, keyed, lines_say, one_line_says, run_of, run_says, script_lines_say, script_says, split_says, split_text}
use Rattle.sbatch_reader.specs.Said.{before_script, command_parts, command_says, is_stray, line_parts}
use Rattle.sbatch_reader.specs.declared.entries.Entry.{Entry}
use Rattle.sbatch_reader.specs.declared.entries.Entry.TheVariants.{Account, Partition, Qos, Reservation, OwnName, Tasks, CpusPerTask, TasksPerNode, Nodes, Mem, Exclusive, TimeLimit, Begin, NiceValue, Hold, Parsable, Requeue, Features, Required, Excluded, Array, Dependency, Wrap, Run, WithoutEffect}
use Rattle.sbatch_reader.specs.declared.entries.JobWords.{JobWords}
use Rattle.sbatch_reader.specs.declared.refusal.JobRefusal.{JobRefusal}
use Rattle.sbatch_reader.specs.declared.table.FlagOption.{FlagOption}
use Rattle.sbatch_reader.specs.declared.table.FlagOption.TheVariants as flags
use Rattle.sbatch_reader.specs.declared.table.ValueOption.{ValueOption}
use Rattle.sbatch_reader.specs.declared.table.ValueOption.TheVariants as option
use Rattle.state_save.specs.Fitting.{AreHosts, DependencyFits, FeaturesFit, FitsOptional, IsName}
use Rattle.saved_rules.specs.Rules.{DescByRules}
use Rattle.saved_rules.proofs.Hosts.{few_nodes_are_hosts}

-- what is said at a place: the reader keeps its name of this
abbrev domain : {A B : Type 0} → (A → B) → Type 0
domain {A} f = A

abbrev Said : Type 0
Said = domain (is_crossed true)

-- what an option says is by the rules
abbrev EntryByRules : Entry → Type 0
EntryByRules (Features features) = FeaturesFit features
EntryByRules (Required names) = AreHosts names
EntryByRules (Excluded names) = AreHosts names
EntryByRules (Dependency dependency) = DependencyFits dependency
EntryByRules entry = Unit {0}

abbrev WhatByRules : Result Entry WordKind → Type 0
WhatByRules (Ok entry) = EntryByRules entry
WhatByRules (Err kind) = Unit {0}

abbrev SaysByRules : Said → Type 0
SaysByRules said = WhatByRules said.what

-- so is what options say together
record WordsByRules (words : JobWords) : Type 0 where
  features : FitsOptional FeaturesFit words.features
  required : AreHosts words.required
  excluded : AreHosts words.excluded
  dependency : FitsOptional DependencyFits words.dependency

-- what texts mean that have a grammar of their own is by the rules
pub record ReadsByRules : Type 0 where
  pub features : (text : List ℕ) (features : FeatureExpr) → features_in text ≡ Some features → FeaturesFit features
  pub dependency : (text : List ℕ) (dependency : DepSpec) → dependency_in text ≡ Some dependency
      → DependencyFits dependency

-- ---- one option

-- what is true of all that a value makes
made-true : {X : Type 0} (make : X → Entry) (value : Option X) (entry : Entry)
    → ((x : X) → value ≡ Some x → EntryByRules (make x)) → option_map make value ≡ Some entry → EntryByRules entry
made-true make None entry each is = absurd (cc)
made-true make (Some x) entry each is = let same : make x ≡ entry = cc in subst EntryByRules same (each x refl)

value-rules : ReadsByRules → (now : ℕ) (own : ValueOption) (text : List ℕ) (entry : Entry)
    → value_entry now own text ≡ Some entry → EntryByRules entry
unfolding value_entry
value-rules read now option.Account text entry is = made-true Account _ entry (λ x has. tt) is
value-rules read now option.Partition text entry is = made-true Partition _ entry (λ x has. tt) is
value-rules read now option.Qos text entry is = made-true Qos _ entry (λ x has. tt) is
value-rules read now option.Reservation text entry is = made-true Reservation _ entry (λ x has. tt) is
value-rules read now option.JobName text entry is = made-true OwnName _ entry (λ x has. tt) is
value-rules read now option.Tasks text entry is = made-true Tasks _ entry (λ x has. tt) is
value-rules read now option.CpusPerTask text entry is = made-true CpusPerTask _ entry (λ x has. tt) is
value-rules read now option.TasksPerNode text entry is = made-true TasksPerNode _ entry (λ x has. tt) is
value-rules read now option.Nodes text entry is = made-true Nodes _ entry (λ x has. tt) is
value-rules read now option.Mem text entry is = made-true Mem _ entry (λ x has. tt) is
value-rules read now option.MemPerCpu text entry is = made-true Mem _ entry (λ x has. tt) is
value-rules read now option.Limit text entry is = made-true TimeLimit _ entry (λ x has. tt) is
value-rules read now option.Begin text entry is = made-true Begin _ entry (λ x has. tt) is
value-rules read now option.Nice text entry is = made-true NiceValue _ entry (λ x has. tt) is
value-rules read now option.Array text entry is = made-true Array _ entry (λ x has. tt) is
value-rules read now option.Features text entry is =
    made-true Features (features_in text) entry (λ x has. read.features text x has) is
value-rules read now option.Required text entry is =
    made-true Required (few_nodes_in text) entry (λ x has. few_nodes_are_hosts text x has) is
value-rules read now option.Excluded text entry is =
    made-true Excluded (few_nodes_in text) entry (λ x has. few_nodes_are_hosts text x has) is
value-rules read now option.Dependency text entry is =
    made-true Dependency (dependency_in text) entry (λ x has. read.dependency text x has) is
value-rules read now option.Wrap text entry is = let same : Wrap ≡ entry = cc in subst EntryByRules same tt
value-rules read now option.WithoutEffect text entry is =
    let same : WithoutEffect ≡ entry = cc in subst EntryByRules same tt

-- what a good value says
good-rules : (value : Option Entry) → ((entry : Entry) → value ≡ Some entry → EntryByRules entry)
    → WhatByRules (ok_or value BadValue)
good-rules None each = tt
good-rules (Some entry) each = each entry refl

entry-rules : ReadsByRules → (now : ℕ) (own : ValueOption) (text : List ℕ) → WhatByRules (entry_in now own text)
unfolding entry_in
entry-rules read now own text =
    cond_both (takes_text own && nat_lt 1024 (length text)) _ (ok_or (value_entry now own text) BadValue) WhatByRules
    (λ long. tt) (λ not. good-rules (value_entry now own text) (λ entry is. value-rules read now own text entry is))

flag-rules : (own : FlagOption) → EntryByRules (flag_entry own)
flag-rules flags.Exclusive = tt
flag-rules flags.Hold = tt
flag-rules flags.Parsable = tt
flag-rules flags.Requeue = tt
flag-rules flags.NoRequeue = tt
flag-rules flags.Nice = tt
flag-rules flags.WithoutEffect = tt

-- ---- what is said

-- where each part says nothing that is off, all do
all-parts : (say : Part FlagOption ValueOption → Said) (parts : List (Part FlagOption ValueOption)) (said : List Said)
    → map say parts ≡ said → ((part : Part FlagOption ValueOption) → SaysByRules (say part)) → All SaysByRules said
all-parts say parts said same each =
    subst (All SaysByRules) same (All-map SaysByRules say parts (every parts))
  where
    every : (parts : List (Part FlagOption ValueOption)) → All (λ part. SaysByRules (say part)) parts
    every [] = All-nil (λ part. SaysByRules (say part))
    every (part ∷ parts) = All-cons (λ part. SaysByRules (say part)) part parts (each part) (every parts)

one-rules : (said : Said) → SaysByRules said → All SaysByRules (said ∷ [])
one-rules said is = All-cons SaysByRules said [] is (All-nil SaysByRules)

-- a step of a reading that gives an entry at its end
then-good : {X : Type 0} (value : Option X) (next : X → Option Entry)
    → ((x : X) → WhatByRules (ok_or (next x) BadValue)) → WhatByRules (ok_or (value >>= next) BadValue)
then-good None next each = tt
then-good (Some x) next each = each x

run-rules : (parts : List (List ℕ)) → WhatByRules (ok_or (run_of parts) BadValue)
unfolding run_of
run-rules [] = tt
run-rules (mark ∷ []) = tt
run-rules (mark ∷ run ∷ []) = tt
run-rules (mark ∷ run ∷ exit ∷ []) =
    then-good (keyed (codes "run") (fields 61 run) >>= number_in 1 2_000_000_000) _ (λ seconds.
    then-good (keyed (codes "exit") (fields 61 exit) >>= number_in 0 255) _ (λ code.
    cond_both (bytes_eq mark (codes "#SIM")) (Some (Run seconds code)) None
    (λ (found : Option Entry). WhatByRules (ok_or found BadValue)) (λ is. tt) (λ not. tt)))
run-rules (mark ∷ run ∷ exit ∷ more ∷ parts) = tt

split-rules : ReadsByRules → (now number : ℕ) (words : Option (List (List ℕ))) → All SaysByRules (split_says now number words)
split-rules read now number None = one-rules _ tt
split-rules read now number (Some words) =
    all-parts _ (line_parts words) (split_says now number (Some words)) refl (elim [
      | plain number text ↦ tt
      | bad number kind ↦ tt
      | flag number own ↦ flag-rules own
      | valued number own place text ↦
          cond_both (is_stray true own) _ _ SaysByRules (λ stray. tt) (λ not. entry-rules read now own text)
      | lacking number own ↦ cond_both (is_stray true own) _ _ SaysByRules (λ stray. tt) (λ not. tt)
    ])

line-rules : ReadsByRules → (now number : ℕ) (line : List ℕ) → All SaysByRules (one_line_says now number line)
unfolding one_line_says
line-rules read now number line =
    cond_both (has_options line) _ _ (All SaysByRules)
    (λ has. split-rules read now number (split_text (before_comment (drop 7 line))))
    (λ not. cond_both (has_run line) (run_says number line ∷ []) [] (All SaysByRules)
    (λ has. one-rules (run_says number line) (run-rules (fields 32 line))) (λ not. All-nil SaysByRules))

lines-rules : ReadsByRules → (now number : ℕ) (lines : List (List ℕ)) → All SaysByRules (lines_say now number lines)
lines-rules read now number [] = All-nil SaysByRules
lines-rules read now number (line ∷ lines) =
    let later = lines-rules read now (number + 1) lines in
    cond_both (is_read line) (one_line_says now number line ++ lines_say now (number + 1) lines) [] (All SaysByRules)
    (λ is. All-append SaysByRules (one_line_says now number line) (lines_say now (number + 1) lines)
    (line-rules read now number line) later)
    (λ not. All-nil SaysByRules)

first-rules : (line : List ℕ) → All SaysByRules (first_says line)
first-rules line =
    cond_both (starts_with nat_eq line (codes "#!")) [] _ (All SaysByRules) (λ is. All-nil SaysByRules)
    (λ not. one-rules _ tt)

script-rules : ReadsByRules → (now : ℕ) (lines : List (List ℕ)) → All SaysByRules (script_lines_say now lines)
script-rules read now [] = All-nil SaysByRules
script-rules read now (first ∷ lines) =
    All-append SaysByRules (first_says first) (lines_say now 2 lines) (first-rules first) (lines-rules read now 2 lines)

maybe-rules : ReadsByRules → (now : ℕ) (script : Option (List ℕ)) → All SaysByRules (says_script now script)
unfolding script_says
maybe-rules read now None = All-nil SaysByRules
maybe-rules read now (Some script) = script-rules read now (fields 10 script)

command-rules : ReadsByRules → (now : ℕ) (has : Bool) (words : List (List ℕ)) → All SaysByRules (command_says now has words)
command-rules read now has words =
    all-parts _ (before_script (command_parts words)) (command_says now has words) refl (elim [
      | plain number text ↦ tt
      | bad number kind ↦ tt
      | flag number own ↦ flag-rules own
      | valued number own place text ↦
          cond_both (is_stray has own) _ _ SaysByRules (λ stray. tt) (λ not. entry-rules read now own text)
      | lacking number own ↦ cond_both (is_stray has own) _ _ SaysByRules (λ stray. tt) (λ not. tt)
    ])

all-rules : ReadsByRules → (now : ℕ) (words : List (List ℕ)) (script : Option (List ℕ))
    → All SaysByRules (all_said now words script)
unfolding all_said
all-rules read now words script =
    let has = is_some script || is_some (script_word words) in
    All-append SaysByRules (says_script now script) (command_says now has words) (maybe-rules read now script)
    (command-rules read now has words)

-- ---- all together

no-rules : WordsByRules no_words
unfolding no_words
no-rules = record {
  features = tt;
  required = record { named = All-nil IsName; once = refl; few = omega arith };
  excluded = record { named = All-nil IsName; once = refl; few = omega arith };
  dependency = tt;
}

put-rules : (words : JobWords) (entry : Entry) → WordsByRules words → EntryByRules entry
    → WordsByRules (with_entry words entry)
unfolding with_entry
put-rules words (Account name) by is =
    record { features = by.features; required = by.required; excluded = by.excluded; dependency = by.dependency }
put-rules words (Partition name) by is =
    record { features = by.features; required = by.required; excluded = by.excluded; dependency = by.dependency }
put-rules words (Qos name) by is =
    record { features = by.features; required = by.required; excluded = by.excluded; dependency = by.dependency }
put-rules words (Reservation name) by is =
    record { features = by.features; required = by.required; excluded = by.excluded; dependency = by.dependency }
put-rules words (OwnName name) by is =
    record { features = by.features; required = by.required; excluded = by.excluded; dependency = by.dependency }
put-rules words (Tasks n) by is =
    record { features = by.features; required = by.required; excluded = by.excluded; dependency = by.dependency }
put-rules words (CpusPerTask n) by is =
    record { features = by.features; required = by.required; excluded = by.excluded; dependency = by.dependency }
put-rules words (TasksPerNode n) by is =
    record { features = by.features; required = by.required; excluded = by.excluded; dependency = by.dependency }
put-rules words (Nodes range) by is =
    record { features = by.features; required = by.required; excluded = by.excluded; dependency = by.dependency }
put-rules words (Mem ask) by is =
    record { features = by.features; required = by.required; excluded = by.excluded; dependency = by.dependency }
put-rules words Exclusive by is =
    record { features = by.features; required = by.required; excluded = by.excluded; dependency = by.dependency }
put-rules words (TimeLimit limit) by is =
    record { features = by.features; required = by.required; excluded = by.excluded; dependency = by.dependency }
put-rules words (Begin moment) by is =
    record { features = by.features; required = by.required; excluded = by.excluded; dependency = by.dependency }
put-rules words (NiceValue nice) by is =
    record { features = by.features; required = by.required; excluded = by.excluded; dependency = by.dependency }
put-rules words Hold by is =
    record { features = by.features; required = by.required; excluded = by.excluded; dependency = by.dependency }
put-rules words Parsable by is =
    record { features = by.features; required = by.required; excluded = by.excluded; dependency = by.dependency }
put-rules words (Requeue requeue) by is =
    record { features = by.features; required = by.required; excluded = by.excluded; dependency = by.dependency }
put-rules words (Features features) by is =
    record { features = is; required = by.required; excluded = by.excluded; dependency = by.dependency }
put-rules words (Required names) by is =
    record { features = by.features; required = is; excluded = by.excluded; dependency = by.dependency }
put-rules words (Excluded names) by is =
    record { features = by.features; required = by.required; excluded = is; dependency = by.dependency }
put-rules words (Array array) by is =
    record { features = by.features; required = by.required; excluded = by.excluded; dependency = by.dependency }
put-rules words (Dependency dependency) by is =
    record { features = by.features; required = by.required; excluded = by.excluded; dependency = is }
put-rules words Wrap by is =
    record { features = by.features; required = by.required; excluded = by.excluded; dependency = by.dependency }
put-rules words (Run seconds exit) by is =
    record { features = by.features; required = by.required; excluded = by.excluded; dependency = by.dependency }
put-rules words WithoutEffect by is =
    record { features = by.features; required = by.required; excluded = by.excluded; dependency = by.dependency }

kept-rules : (said : List Said) → All SaysByRules said
    → All EntryByRules (filter_map (λ (s : Said). result_ok s.what) said)
kept-rules [] all = All-nil EntryByRules
kept-rules (one ∷ said) all =
    with-what one.what (filter_map (λ (s : Said). result_ok s.what) said) (All-head SaysByRules one said all)
    (kept-rules said (All-tail SaysByRules one said all))
  where
    with-what : (what : Result Entry WordKind) (entries : List Entry) → WhatByRules what → All EntryByRules entries
        → All EntryByRules (cons_option (result_ok what) entries)
    with-what (Ok entry) entries is all = All-cons EntryByRules entry entries is all
    with-what (Err kind) entries is all = all

fold-rules : (words : JobWords) (entries : List Entry) → WordsByRules words → All EntryByRules entries
    → WordsByRules (fold with_entry words entries)
fold-rules words [] by all = by
fold-rules words (entry ∷ entries) by all =
    fold-rules (with_entry words entry) entries (put-rules words entry by (All-head EntryByRules entry entries all))
    (All-tail EntryByRules entry entries all)

job-rules : (words : JobWords) (name : List ℕ) → WordsByRules words → DescByRules (job_of words name)
unfolding job_of
job-rules words name by = record {
  features = by.features;
  required = by.required;
  excluded = by.excluded;
  dependency = by.dependency;
}

told-rules : (words : JobWords) (fault : Option JobRefusal) (name : Result (List ℕ) JobRefusal) (desc : JobDesc)
    → WordsByRules words → unless_refused fault (named words name) ≡ Ok desc → DescByRules desc
told-rules words (Some refusal) name desc by is = absurd (cc)
told-rules words None (Err refusal) desc by is = absurd (cc)
told-rules words None (Ok name) desc by is =
    let same : job_of words name ≡ desc = cc in
    subst DescByRules same (job-rules words name by)

pub sbatch_by_rules : ReadsByRules → (now : ℕ) (words : List (List ℕ)) (script : Option (List ℕ)) (desc : JobDesc)
    → job_in now words script ≡ Ok desc → DescByRules desc
unfolding job_in
sbatch_by_rules read now words script desc is =
    let said = all_said now words script in
    let together = words_of no_words said in
    told-rules together (first_fault (are_crossed together) said) (job_name together (script_word words)) desc
    (fold-rules no_words (filter_map (λ (s : Said). result_ok s.what) said) no-rules
    (kept-rules said (all-rules read now words script)))
    is
