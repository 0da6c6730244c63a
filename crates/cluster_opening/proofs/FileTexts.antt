-- What was read of files opens what the files open.
use Rattle.std.proofs.Common.{◌≡◌, ℕ, ◌<◌, nat_lt, true, List, length, take, Option, None, Some, Result, Ok, Err, IsSomeAnd, inl, inr, refl, sym, ap, ◌∙◌, subst, arith}
use Rattle.std.proofs.lemmas.Bool.{cases_lt, lt-ltb}
use Rattle.std.proofs.lemmas.List.{take_all, length-take}
use Rattle.slurm_io.specs.Shelf.{ShelfFile, bytes_named}
use Rattle.assoc_reader.specs.Reader.{assocs_in}
use Rattle.conf_reader.specs.Reader.{conf_in}
use Rattle.plain_data.specs.Assocs.{AssocView}
use Rattle.plain_data.specs.Confs.{ConfView}
use Rattle.saved_data.specs.Sizes.{longest_text}
use Rattle.ctl_state.specs.State.{State}
use Rattle.cluster_opening.specs.Cluster.{cluster_in}
use Rattle.cluster_opening.specs.Files.{IsFrontIf, IsFrontOf, IsTextIf, IsTextOf, Opens}
use Rattle.cluster_opening.specs.Restoring.{AreOpenedBy, Begins, Restores}
use Rattle.plain_data.specs.Files.{Named}
use Rattle.cluster_opening.specs.declared.refusal.BadFile.TheVariants as bad_file
use Rattle.cluster_opening.specs.declared.refusal.ClusterRefusal.{ClusterRefusal}
use Rattle.cluster_opening.specs.declared.refusal.ClusterRefusal.TheVariants.{Bad, Memory}

-- files that are too long say the same
long_confs : (file other : List ℕ) → 1048576 < length file → 1048576 < length other → conf_in file ≡ conf_in other
unfolding conf_in
long_confs file other long long' =
    let tall : nat_lt 1048576 (length file) ≡ true = lt-ltb _ _ long in
    let tall' : nat_lt 1048576 (length other) ≡ true = lt-ltb _ _ long' in
    rw (tall, tall') refl

long_assocs : (file other : List ℕ) → 4194304 < length file → 4194304 < length other
    → assocs_in file ≡ assocs_in other
unfolding assocs_in
long_assocs file other long long' =
    let tall : nat_lt 4194304 (length file) ≡ true = lt-ltb _ _ long in
    let tall' : nat_lt 4194304 (length other) ≡ true = lt-ltb _ _ long' in
    rw (tall, tall') refl

-- the front of a file that tells how long it is
conf_in-take : (n : ℕ) (file : List ℕ) → n ≡ 1048577 → conf_in (take n file) ≡ conf_in file
conf_in-take n file e = elim (cases_lt 1048576 (length file)) [
  | inl long ↦ long_confs (take n file) file (omega (arith, e, long, length-take n file)) long
  | inr short ↦ ap conf_in (take_all n file (omega (arith, e, short)))
]

assocs_in-take : (n : ℕ) (file : List ℕ) → n ≡ 4194305 → assocs_in (take n file) ≡ assocs_in file
assocs_in-take n file e = elim (cases_lt 4194304 (length file)) [
  | inl long ↦ long_assocs (take n file) file (omega (arith, e, long, length-take n file)) long
  | inr short ↦ ap assocs_in (take_all n file (omega (arith, e, short)))
]

-- texts of saved states that are too long are refused alike
long_states : (conf : ConfView) (assocs : AssocView) (front file : List ℕ) (opened : Result State ClusterRefusal)
    → longest_text < length front → longest_text < length file
    → Restores conf assocs front opened → Restores conf assocs file opened
long_states conf assocs front file (Ok s) long long' (saved, is_text, restored) =
    absurd (omega (arith, long, is_text.short))
long_states conf assocs front file (Err (Bad (bad_file.State line))) long long' (inl bad) =
    inl (record { long = λ tall. bad.long long; short = λ few. absurd (omega (arith, long', few)) })
long_states conf assocs front file (Err (Bad (bad_file.State line))) long long' (inr (zero_line, (saved, is_text, misfit))) =
    absurd (omega (arith, long, is_text.short))
long_states conf assocs front file (Err (Bad (bad_file.Conf line kind))) long long' restores = absurd restores
long_states conf assocs front file (Err (Bad (bad_file.Assocs line kind))) long long' restores = absurd restores
long_states conf assocs front file (Err Memory) long long' restores = absurd restores

longest_is : longest_text ≡ 268435456
unfolding longest_text
longest_is = refl

restores-take : (conf : ConfView) (assocs : AssocView) (n : ℕ) (file : List ℕ) (opened : Result State ClusterRefusal)
    → n ≡ 268435457 → Restores conf assocs (take n file) opened → Restores conf assocs file opened
restores-take conf assocs n file opened e restores = elim (cases_lt 268435456 (length file)) [
  | inl long ↦ long_states conf assocs (take n file) file opened
      (omega (arith, e, long, longest_is, length-take n file)) (omega (arith, long, longest_is)) restores
  | inr short ↦ subst (λ t. Restores conf assocs t opened) (take_all n file (omega (arith, e, short))) restores
]

begins-take : (both : Result (ConfView × AssocView) ClusterRefusal) (n : ℕ) (file : List ℕ)
    (opened : Result State ClusterRefusal) → n ≡ 268435457 → Begins both (Some (take n file)) opened
    → Begins both (Some file) opened
begins-take (Err refusal) n file opened e begins = begins
begins-take (Ok both) n file opened e begins = restores-take both.0 both.1 n file opened e begins

-- a file of which this was read, where its front says what it says
found : {X : Type 0} (says : List ℕ → X) (named : Option (List ℕ)) (n : ℕ) (bytes : List ℕ)
    → ((file : List ℕ) → says (take n file) ≡ says file) → IsSomeAnd named (λ file. bytes ≡ take n file)
    → (text : List ℕ) × (named ≡ Some text) × (says text ≡ says bytes)
found says None n bytes front read = absurd read
found says (Some file) n bytes front read = (file, refl, sym (ap says read ∙ front file))

text_read : {X : Type 0} (says : List ℕ → X) (told : Option (List ShelfFile)) (name : List ℕ) (n : ℕ) (bytes : List ℕ)
    → ((file : List ℕ) → says (take n file) ≡ says file) → IsFrontOf told name n bytes
    → (text : List ℕ) × IsTextOf told name text × (says text ≡ says bytes)
text_read says None name n bytes front read = (bytes, tt, refl)
text_read says (Some files) name n bytes front read = found says (bytes_named files name) n bytes front read

-- what was read of the saved state opens no more than this text
abbrev OpensAs : Option (List ℕ) → Option (List ℕ) → Type 0
OpensAs read state = (both : Result (ConfView × AssocView) ClusterRefusal) (opened : Result State ClusterRefusal)
    → Begins both read opened → Begins both state opened

found_state : (named : Option (List ℕ)) (n : ℕ) (bytes : List ℕ) → n ≡ 268435457
    → IsSomeAnd named (λ file. bytes ≡ take n file)
    → (text : List ℕ) × (named ≡ Some text) × OpensAs (Some bytes) (Some text)
found_state None n bytes e read = absurd read
found_state (Some file) n bytes e read = (
  file,
  refl,
  λ both opened begins. begins-take both n file opened e (subst (λ t. Begins both (Some t) opened) read begins),
)

told_state : (files : List ShelfFile) (name : List ℕ) (n : ℕ) (bytes : List ℕ)
    → ((text : List ℕ) × (bytes_named files name ≡ Some text) × OpensAs (Some bytes) (Some text))
    → (state : Option (List ℕ)) × IsTextIf (Some files) (Some name) state × OpensAs (Some bytes) state
told_state files name n bytes (text, is, opens) = (Some text, is, opens)

state_read : (told : Option (List ShelfFile)) (name : Option (List ℕ)) (n : ℕ) (read : Option (List ℕ))
    → n ≡ 268435457 → IsFrontIf told name n read
    → (state : Option (List ℕ)) × IsTextIf told name state × OpensAs read state
state_read told None n read e front =
    (None, refl, λ both opened begins. subst (λ r. Begins both r opened) front begins)
state_read told (Some name) n None e front = absurd front
state_read None (Some name) n (Some bytes) e front = (Some bytes, tt, λ both opened begins. begins)
state_read (Some files) (Some name) n (Some bytes) e front =
    told_state files name n bytes (found_state (bytes_named files name) n bytes e front)

-- a cluster is the same where both files say the same
cluster_in-same : (conf conf' assocs assocs' : List ℕ) → conf_in conf ≡ conf_in conf'
    → assocs_in assocs ≡ assocs_in assocs' → cluster_in conf assocs ≡ cluster_in conf' assocs'
unfolding cluster_in
cluster_in-same conf conf' assocs assocs' same same' = rw (same, same') refl

-- the files of which these were read open what these open
pub opens_as_read : (told : Option (List ShelfFile)) (named : Named) (n m k : ℕ) (conf assocs : List ℕ)
    (state : Option (List ℕ)) (opened : Result State ClusterRefusal) → n ≡ 1048577 → m ≡ 4194305 → k ≡ 268435457
    → IsFrontOf told named.conf n conf → IsFrontOf told named.assocs m assocs → IsFrontIf told named.state k state
    → AreOpenedBy conf assocs state opened → Opens told named opened
opens_as_read told named n m k conf assocs state opened e e' e'' conf_read assocs_read is_read is =
    let own = text_read conf_in told named.conf n conf (λ file. conf_in-take n file e) conf_read in
    let own' = text_read assocs_in told named.assocs m assocs (λ file. assocs_in-take m file e') assocs_read in
    let own'' = state_read told named.state k state e'' is_read in
    record {
      conf = own.0;
      assocs = own'.0;
      state = own''.0;
      is_conf = own.1;
      is_assocs = own'.1;
      is_state = own''.1;
      is_opened = subst (λ both. Begins both own''.0 opened) (sym (cluster_in-same own.0 conf own'.0 assocs own.2 own'.2))
          (own''.2 (cluster_in conf assocs) opened is);
    }
