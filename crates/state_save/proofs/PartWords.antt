-- Processors, parts and shares are read from the words that they are written as, and what is read fits.
use Rattle.std.specs.Prelude.{All, option_and_then}
use Rattle.std.proofs.Common.{◌≡◌, ℕ, zero, suc, ◌+◌, ◌<◌, ◌==◌, Bool, true, false, if◌then◌else◌, Some, List, [], ◌∷◌, ◌++◌, length, map, decimal, codes, refl, ap, ◌∙◌, subst, arith, append_assoc, length-append}
use Rattle.std.specs.List.{list_all}
use Rattle.std.specs.Str.{byte}
use Rattle.std.proofs.lemmas.Bool.{eqb-true}
use Rattle.small_texts.specs.Fields.{fields}
use Rattle.small_texts.specs.Name.{is_name_byte}
use Rattle.line_words.specs.Words.{is_word_byte}
use Rattle.host_lists.specs.Folding.{with_commas}
use Rattle.text_values.specs.Names.{name_in}
use Rattle.table_texts.specs.Ranges.{continued, runs, run_text, ranges_text}
use Rattle.reply_data.specs.declared.view.NamedPart.{NamedPart}
use Rattle.saved_data.specs.declared.parts.SavedShare.{SavedShare}
use Rattle.state_save.specs.Fitting.{FitsU32, FitsU64, AreCpus, PartFits, ShareFits}
use Rattle.state_save.specs.Meanings.{u32_in, u64_in, amounts_of, share_with, share_of, share_in, run_of, run_in, rising_from, cpus_in, list_in, part_with, part_of, part_in}
use Rattle.state_save.specs.Texts.{joined, share_text, shares_text, part_text, parts_text}
use Rattle.state_save.specs.declared.ranges.Run.{Run}
use Rattle.state_save.proofs.Bytes.{lacks, other_than, all_append, all_joined, all_weaker, colon, comma, semicolon, named_word, decimal_named, decimal_some, decimal_lacks_dash, name_named, fields_marked, fields_lacking}
use Rattle.state_save.proofs.HostWords.{name_lacks}
use Rattle.state_save.proofs.ListWords.{IsRead, gives, list_back}
use Rattle.state_save.proofs.Rising.{as_run, as_runs, cpus_sound, rising_back}
use Rattle.state_save.proofs.Values.{fields_two, fields_three, name_back, name_sound, u32_back, u32_sound, u64_back, u64_sound}

-- runs

abbrev run_word : Run → List ℕ
run_word run = run_text run.first run.last

record RunFits (run : Run) : Type 0 where
  first_fits : FitsU32 run.first
  last_fits : FitsU32 run.last

run_choice_back : (t : Bool) (run : Run) → (run.first == run.last) ≡ t → RunFits run
    → run_in (if t then decimal run.first else decimal run.first ++ codes "-" ++ decimal run.last) ≡ Some run
unfolding run_of
run_choice_back true run same fits =
    let equal : run.first ≡ run.last = eqb-true run.first run.last same in
    let low = fits.first_fits in
    rw (fields_lacking 45 (decimal run.first) (decimal_lacks_dash run.first (omega arith)), u32_back run.first low)
    (ap (λ n. Some (record { first = run.first; last = n })) equal)
run_choice_back false run other fits =
    let low = fits.first_fits in
    let high = fits.last_fits in
    rw (
      fields_two 45 (decimal run.first) (decimal run.last) (decimal_lacks_dash run.first (omega arith)) (decimal_lacks_dash run.last (omega arith)),
      u32_back run.first low,
      u32_back run.last high,
    ) refl

run_back : (run : Run) → RunFits run → run_in (run_word run) ≡ Some run
unfolding run_text
run_back run fits = run_choice_back (run.first == run.last) run refl fits

run_choice_named : (t : Bool) (run : Run) → RunFits run
    → list_all is_name_byte (if t then decimal run.first else decimal run.first ++ codes "-" ++ decimal run.last) ≡ true
run_choice_named true run fits = let low = fits.first_fits in decimal_named run.first (omega arith)
run_choice_named false run fits =
    let low = fits.first_fits in
    let high = fits.last_fits in
    all_append is_name_byte (decimal run.first ++ codes "-") (decimal run.last)
    (all_append is_name_byte (decimal run.first) (codes "-") (decimal_named run.first (omega arith)) refl) (decimal_named run.last (omega arith))

run_named : (run : Run) → RunFits run → list_all is_name_byte (run_word run) ≡ true
unfolding run_text
run_named run fits = run_choice_named (run.first == run.last) run fits

run_choice_some : (t : Bool) (run : Run) → RunFits run
    → 0 < length (if t then decimal run.first else decimal run.first ++ codes "-" ++ decimal run.last)
run_choice_some true run fits = let low = fits.first_fits in decimal_some run.first (omega arith)
run_choice_some false run fits =
    let low = fits.first_fits in
    simp length-append (omega (arith, decimal_some run.first (omega arith)))

run_some : (run : Run) → RunFits run → 0 < length (run_word run)
unfolding run_text
run_some run fits = run_choice_some (run.first == run.last) run fits

abbrev Few : List (ℕ × ℕ) → Type 0
Few [] = Unit {0}
Few (ends ∷ rs) = ((ends.0 < 1024) × (ends.1 < 1024)) × Few rs

continued_few : (first last : ℕ) (rs : List (ℕ × ℕ)) → first < 1024 → last < 1024 → Few rs → Few (continued first last rs)
continued_few first last [] low high few = ((low, high), tt)
continued_few first last (next ∷ rs) low high few = by_test (next.0 == last + 1) where
  by_test : (t : Bool) → Few (if t then (first, next.1) ∷ rs else (first, last) ∷ next ∷ rs)
  by_test true = ((low, few.0.1), few.1)
  by_test false = ((low, high), few)

runs_few : (ids : List ℕ) → All (λ n. n < 1024) ids → Few (runs ids)
runs_few [] all = tt
runs_few (id ∷ ids) all =
    let here : id < 1024 = all 0 0 (omega arith) in
    continued_few id id (runs ids) here here (runs_few ids (λ k d within. all (suc k) d (omega arith)))

runs_fit : (rs : List (ℕ × ℕ)) → Few rs → All RunFits (as_runs rs)
runs_fit [] few k d within = absurd (omega arith)
runs_fit (ends ∷ rs) few zero d within =
    let low = few.0.0 in
    let high = few.0.1 in
    record { first_fits = omega arith; last_fits = omega arith }
runs_fit (ends ∷ rs) few (suc k) d within = runs_fit rs few.1 k d (omega arith)

runs_joined : (rs : List (ℕ × ℕ)) → with_commas (map (λ run. run_text run.0 run.1) rs) ≡ joined 44 (map run_word (as_runs rs))
runs_joined [] = refl
runs_joined (ends ∷ rs) = ap (λ ts. joined 44 (run_text ends.0 ends.1 ∷ ts)) (texts rs) where
  texts : (rs : List (ℕ × ℕ)) → map (λ run. run_text run.0 run.1) rs ≡ map run_word (as_runs rs)
  texts [] = refl
  texts (ends ∷ rs) = ap (λ ts. run_text ends.0 ends.1 ∷ ts) (texts rs)

cpus_joined : (ids : List ℕ) → ranges_text ids ≡ joined 44 (map run_word (as_runs (runs ids)))
cpus_joined ids = runs_joined (runs ids)

run_lacks_comma : (run : Run) → RunFits run → lacks 44 (run_word run) ≡ true
run_lacks_comma run fits = all_weaker is_name_byte (other_than 44) (comma.foreign) (run_word run) (run_named run fits)

runs_read : IsRead RunFits run_word run_in
runs_read = record { back = run_back; some = run_some }

pub cpus_back : (ids : List ℕ) → AreCpus ids → cpus_in (ranges_text ids) ≡ Some ids
cpus_back ids are =
    ap (option_and_then (rising_from 0)) (ap (list_in run_in 44) (cpus_joined ids)
    ∙ list_back RunFits run_word run_in runs_read 44 run_lacks_comma (as_runs (runs ids)) (runs_fit (runs ids) (runs_few ids are.small)))
    ∙ rising_back 0 ids (record { rising = are.rising; above = λ k d within. omega arith; small = are.small })

texts_pass : (p : ℕ → Bool) → ((b : ℕ) → is_name_byte b ≡ true → p b ≡ true) → (rs : List (ℕ × ℕ)) → Few rs
    → All (λ t. list_all p t ≡ true) (map run_word (as_runs rs))
texts_pass p weak [] few k d within = absurd (omega arith)
texts_pass p weak (ends ∷ rs) few zero d within =
    let low = few.0.0 in
    let high = few.0.1 in
    all_weaker is_name_byte p weak (run_text ends.0 ends.1) (run_named (as_run ends) (record { first_fits = omega arith; last_fits = omega arith }))
texts_pass p weak (ends ∷ rs) few (suc k) d within = texts_pass p weak rs few.1 k d (omega arith)

pub cpus_pass : (p : ℕ → Bool) → ((b : ℕ) → is_name_byte b ≡ true → p b ≡ true) → p 44 ≡ true → (ids : List ℕ) → AreCpus ids
    → list_all p (ranges_text ids) ≡ true
cpus_pass p weak marked ids are =
    rw (cpus_joined ids) (all_joined p 44 (map run_word (as_runs (runs ids))) marked (texts_pass p weak (runs ids) (runs_few ids are.small)))

-- parts

decimal_pass : (p : ℕ → Bool) → ((b : ℕ) → is_name_byte b ≡ true → p b ≡ true) → (number : ℕ) → FitsU64 number → list_all p (decimal number) ≡ true
decimal_pass p weak number fits = all_weaker is_name_byte p weak (decimal number) (decimal_named number fits)

part_back : (part : NamedPart) → PartFits part → part_in (part_text part) ≡ Some part
unfolding part_of part_with
part_back part fits =
    rw (
      fields_three 58 part.node (ranges_text part.cpus) (decimal part.mem) (name_lacks 58 colon part.node fits.named)
          (cpus_pass (other_than 58) (colon.foreign) refl part.cpus fits.cpus) (decimal_pass (other_than 58) (colon.foreign) part.mem fits.mem),
      u64_back part.mem fits.mem,
      cpus_back part.cpus fits.cpus,
      name_back part.node fits.named,
    ) refl

part_pass : (p : ℕ → Bool) → ((b : ℕ) → is_name_byte b ≡ true → p b ≡ true) → p 44 ≡ true → p 58 ≡ true → (part : NamedPart) → PartFits part
    → list_all p (part_text part) ≡ true
part_pass p weak commas colons part fits =
    let mark : list_all p (codes ":") ≡ true = rw colons refl in
    all_append p (part.node ++ codes ":" ++ ranges_text part.cpus ++ codes ":") (decimal part.mem)
    (all_append p (part.node ++ codes ":" ++ ranges_text part.cpus) (codes ":")
    (all_append p (part.node ++ codes ":") (ranges_text part.cpus)
    (all_append p part.node (codes ":") (all_weaker is_name_byte p weak part.node (name_named part.node fits.named)) mark)
    (cpus_pass p weak commas part.cpus fits.cpus)) mark)
    (decimal_pass p weak part.mem fits.mem)

part_some : (part : NamedPart) → PartFits part → 0 < length (part_text part)
part_some part fits = simp length-append (omega arith)

parts_read : IsRead PartFits part_text part_in
parts_read = record { back = part_back; some = part_some }

pub parts_text_back : (parts : List NamedPart) → All PartFits parts → list_in part_in 59 (parts_text parts) ≡ Some parts
parts_text_back parts all =
    list_back PartFits part_text part_in parts_read 59 (λ part fits. part_pass (other_than 59) (semicolon.foreign) refl refl part fits) parts all

all_texts : {X : Type 0} (fits : X → Type 0) (text : X → List ℕ) (p : ℕ → Bool) → ((x : X) → fits x → list_all p (text x) ≡ true)
    → (xs : List X) → All fits xs → All (λ t. list_all p t ≡ true) (map text xs)
all_texts fits text p pass [] all k d within = absurd (omega arith)
all_texts fits text p pass (x ∷ xs) all zero d within = pass x (all 0 x (omega arith))
all_texts fits text p pass (x ∷ xs) all (suc k) d within = all_texts fits text p pass xs (λ j e inside. all (suc j) e (omega arith)) k d (omega arith)

pub listed_pass : {X : Type 0} (fits : X → Type 0) (text : X → List ℕ) (p : ℕ → Bool) → ((x : X) → fits x → list_all p (text x) ≡ true)
    → (mark : ℕ) → p mark ≡ true → (xs : List X) → All fits xs → list_all p (joined mark (map text xs)) ≡ true
listed_pass fits text p pass mark marked xs all = all_joined p mark (map text xs) marked (all_texts fits text p pass xs all)

pub parts_text_word : (parts : List NamedPart) → All PartFits parts → list_all is_word_byte (parts_text parts) ≡ true
parts_text_word parts all =
    listed_pass PartFits part_text is_word_byte (λ part fits. part_pass is_word_byte named_word refl refl part fits) 59 refl parts all

abbrev part_at : List ℕ → List ℕ → ℕ → NamedPart
part_at node cpus mem = record { node = node; cpus = cpus; mem = mem }

part_with_sound : (name cpus mem : List ℕ) (part : NamedPart) → ((word ids : List ℕ) → cpus_in word ≡ Some ids → AreCpus ids)
    → part_with name cpus mem ≡ Some part → PartFits part
unfolding part_with
part_with_sound name cpus mem part sound e =
    let m = gives (u64_in mem) (λ m. option_and_then (λ c. option_and_then (λ node. Some (part_at node c m)) (name_in name)) (cpus_in cpus)) part e in
    let c = gives (cpus_in cpus) (λ c. option_and_then (λ node. Some (part_at node c m.0)) (name_in name)) part m.2 in
    let n = gives (name_in name) (λ node. Some (part_at node c.0 m.0)) part c.2 in
    let last : Some (part_at n.0 c.0 m.0) ≡ Some part = n.2 in
    let same : part_at n.0 c.0 m.0 ≡ part = cc in
    subst PartFits same (record { named = name_sound name n.0 n.1; cpus = sound cpus c.0 c.1; mem = u64_sound mem m.0 m.1 })

part_of_sound : (parts : List (List ℕ)) (part : NamedPart) → ((word ids : List ℕ) → cpus_in word ≡ Some ids → AreCpus ids)
    → part_of parts ≡ Some part → PartFits part
unfolding part_of
part_of_sound [] part sound e = absurd (cc)
part_of_sound (name ∷ []) part sound e = absurd (cc)
part_of_sound (name ∷ cpus ∷ []) part sound e = absurd (cc)
part_of_sound (name ∷ cpus ∷ mem ∷ []) part sound e = part_with_sound name cpus mem part sound e
part_of_sound (name ∷ cpus ∷ mem ∷ more ∷ parts) part sound e = absurd (cc)

pub part_sound : (word : List ℕ) (part : NamedPart) → part_in word ≡ Some part → PartFits part
part_sound word part e = part_of_sound (fields (byte ":") word) part cpus_sound e

-- shares

regroup_four : (mark : ℕ) (a b c d : List ℕ)
    → a ++ mark ∷ [] ++ b ++ mark ∷ [] ++ c ++ mark ∷ [] ++ d ≡ a ++ mark ∷ (b ++ mark ∷ [] ++ c ++ mark ∷ [] ++ d)
regroup_four mark a b c d = simp append_assoc

share_back : (share : SavedShare) → ShareFits share → share_in (share_text share) ≡ Some share
unfolding share_with amounts_of
share_back share fits =
    let tasks = fits.tasks in
    let cpus = fits.cpus in
    ap (λ t. share_in t) (regroup_four 58 share.node (decimal share.tasks) (decimal share.cpus) (decimal share.mem))
    ∙ rw (
      fields_marked 58 share.node (decimal share.tasks ++ codes ":" ++ decimal share.cpus ++ codes ":" ++ decimal share.mem) (name_lacks 58 colon share.node fits.named),
      fields_three 58 (decimal share.tasks) (decimal share.cpus) (decimal share.mem) (decimal_pass (other_than 58) (colon.foreign) share.tasks (omega arith))
          (decimal_pass (other_than 58) (colon.foreign) share.cpus (omega arith)) (decimal_pass (other_than 58) (colon.foreign) share.mem fits.mem),
      u32_back share.tasks tasks,
      u32_back share.cpus cpus,
      u64_back share.mem fits.mem,
      name_back share.node fits.named,
    ) refl

share_pass : (p : ℕ → Bool) → ((b : ℕ) → is_name_byte b ≡ true → p b ≡ true) → p 58 ≡ true → (share : SavedShare) → ShareFits share
    → list_all p (share_text share) ≡ true
share_pass p weak colons share fits =
    let tasks = fits.tasks in
    let cpus = fits.cpus in
    let mark : list_all p (codes ":") ≡ true = rw colons refl in
    all_append p (share.node ++ codes ":" ++ decimal share.tasks ++ codes ":" ++ decimal share.cpus ++ codes ":") (decimal share.mem)
    (all_append p (share.node ++ codes ":" ++ decimal share.tasks ++ codes ":" ++ decimal share.cpus) (codes ":")
    (all_append p (share.node ++ codes ":" ++ decimal share.tasks ++ codes ":") (decimal share.cpus)
    (all_append p (share.node ++ codes ":" ++ decimal share.tasks) (codes ":")
    (all_append p (share.node ++ codes ":") (decimal share.tasks)
    (all_append p share.node (codes ":") (all_weaker is_name_byte p weak share.node (name_named share.node fits.named)) mark)
    (decimal_pass p weak share.tasks (omega arith))) mark)
    (decimal_pass p weak share.cpus (omega arith))) mark)
    (decimal_pass p weak share.mem fits.mem)

share_some : (share : SavedShare) → ShareFits share → 0 < length (share_text share)
share_some share fits = simp length-append (omega arith)

shares_read : IsRead ShareFits share_text share_in
shares_read = record { back = share_back; some = share_some }

pub shares_text_back : (shares : List SavedShare) → All ShareFits shares → list_in share_in 59 (shares_text shares) ≡ Some shares
shares_text_back shares all =
    list_back ShareFits share_text share_in shares_read 59 (λ share fits. share_pass (other_than 59) (semicolon.foreign) refl share fits) shares all

pub shares_text_word : (shares : List SavedShare) → All ShareFits shares → list_all is_word_byte (shares_text shares) ≡ true
shares_text_word shares all =
    listed_pass ShareFits share_text is_word_byte (λ share fits. share_pass is_word_byte named_word refl share fits) 59 refl shares all

amounts_sound : (parts : List (List ℕ)) (amounts : ℕ × ℕ × ℕ) → amounts_of parts ≡ Some amounts
    → (FitsU32 amounts.0) × (FitsU32 amounts.1) × (FitsU64 amounts.2)
unfolding amounts_of
amounts_sound [] amounts e = absurd (cc)
amounts_sound (tasks ∷ []) amounts e = absurd (cc)
amounts_sound (tasks ∷ cpus ∷ []) amounts e = absurd (cc)
amounts_sound (tasks ∷ cpus ∷ mem ∷ []) amounts e =
    let t = gives (u32_in tasks) (λ t. option_and_then (λ c. option_and_then (λ m. Some (t, c, m)) (u64_in mem)) (u32_in cpus)) amounts e in
    let c = gives (u32_in cpus) (λ c. option_and_then (λ m. Some (t.0, c, m)) (u64_in mem)) amounts t.2 in
    let m = gives (u64_in mem) (λ m. Some (t.0, c.0, m)) amounts c.2 in
    let Fits : ℕ × ℕ × ℕ → Type 0 = λ a. (FitsU32 a.0) × (FitsU32 a.1) × (FitsU64 a.2) in
    subst Fits (some_same (t.0, c.0, m.0) amounts m.2) (u32_sound tasks t.0 t.1, u32_sound cpus c.0 c.1, u64_sound mem m.0 m.1)
  where
    some_same : (a b : ℕ × ℕ × ℕ) → Some a ≡ Some b → a ≡ b
    some_same a b is = cc
amounts_sound (tasks ∷ cpus ∷ mem ∷ more ∷ parts) amounts e = absurd (cc)

abbrev share_at : List ℕ → ℕ × ℕ × ℕ → SavedShare
share_at node a = record { node = node; tasks = a.0; cpus = a.1; mem = a.2 }

share_of_sound : (parts : List (List ℕ)) (share : SavedShare) → share_of parts ≡ Some share → ShareFits share
unfolding share_with
share_of_sound [] share e = absurd (cc)
share_of_sound (name ∷ amounts) share e =
    let a = gives (amounts_of amounts) (λ a. option_and_then (λ node. Some (share_at node a)) (name_in name)) share e in
    let n = gives (name_in name) (λ node. Some (share_at node a.0)) share a.2 in
    let last : Some (share_at n.0 a.0) ≡ Some share = n.2 in
    let same : share_at n.0 a.0 ≡ share = cc in
    let fits = amounts_sound amounts a.0 a.1 in
    subst ShareFits same (record { named = name_sound name n.0 n.1; tasks = fits.0; cpus = fits.1; mem = fits.2 })

pub share_sound : (word : List ℕ) (share : SavedShare) → share_in word ≡ Some share → ShareFits share
share_sound word share e = share_of_sound (fields (byte ":") word) share e
