-- What a job wants of its nodes and waits for: read from the words that they are written as, and what is read fits.
use Rattle.std.specs.Prelude.{All, bytes_eq, flat_map, option_and_then, ◌≢◌}
use Rattle.std.proofs.Common.{◌≡◌, ℕ, zero, suc, ◌<◌, ◌≤◌, ◌==◌, Bool, true, false, not, ◌&&◌, ◌||◌, if◌then◌else◌, nat_le, Option, Some, None, option_map, List, [], ◌∷◌, ◌++◌, length, map, decimal, codes, refl, sym, ap, ◌∙◌, subst, arith, append_assoc}
use Rattle.std.specs.List.{list_all, list_any, onto_first}
use Rattle.std.proofs.lemmas.List.Splits.{length-slice_split}
use Rattle.std.proofs.lemmas.Bool.Decides.{nat_tests}
use Rattle.std.proofs.lemmas.List.{append-nil}
use Rattle.small_texts.specs.Fields.{fields}
use Rattle.small_texts.specs.Name.{is_name_byte}
use Rattle.line_words.specs.Words.{is_word_byte}
use Rattle.host_lists.specs.Hosts.{all_some}
use Rattle.text_values.specs.Jobs.{job_of, job_in}
use Rattle.text_values.specs.Lists.{parts_in}
use Rattle.text_values.specs.Names.{name_in}
use Rattle.text_values.specs.Numbers.{u32_in}
use Rattle.sbatch_reader.specs.Dependency.{id_in, kind_in, item_naming, item_of, item_in, is_any, items_in, count_ids, dependency_in}
use Rattle.sbatch_reader.specs.Features.{together_in, features_in}
use Rattle.table_texts.specs.Dependency.{kind_word, index_text, id_text, item_text}
use Rattle.plain_data.specs.declared.dependency.DepId.{DepId}
use Rattle.plain_data.specs.declared.dependency.DepItem.{DepItem}
use Rattle.plain_data.specs.declared.dependency.DepKind.{DepKind}
use Rattle.plain_data.specs.declared.dependency.DepKind.TheVariants.{After, AfterAny, AfterOk, AfterNotOk, AfterCorr, Singleton}
use Rattle.plain_data.specs.declared.dependency.DepSpec.{DepSpec}
use Rattle.plain_data.specs.declared.features.FeatureExpr.{FeatureExpr}
use Rattle.state_save.specs.Fitting.{FitsU32, FitsOptional, IsName, FeaturesFit, IdFits, ItemFits, NamesJobs, DependencyFits}
use Rattle.state_save.specs.Texts.{joined, name_text, together_text, features_text, mark_of, dependency_text}
use Rattle.state_save.proofs.Bytes.{lacks, other_than, all_append, all_weaker, ampersand, bar, colon, comma, question, IsMark, named_word, decimal_named, decimal_read_ten, decimal_lacks_underscore, name_named, name_some, fields_lacking, fields_joined, at_least}
use Rattle.state_save.proofs.HostWords.{name_lacks}
use Rattle.state_save.proofs.ListWords.{gives, mapped_to, parts_back, parts_sound, parts_some, length-all_some, all_some_by, some_length, all_some_back}
use Rattle.state_save.proofs.PartWords.{listed_pass}
use Rattle.state_save.proofs.Values.{fields_two, name_back, name_sound, chosen, within_bound}

-- features

together_back : (names : List (List ℕ)) → names ≢ [] → All IsName names → together_in (together_text names) ≡ Some names
together_back [] some all = absurd (some refl)
together_back (name ∷ names) some all =
    parts_back name_in name_text 38 name names (λ k d within. name_back _ (all k d within)) (lacking (name ∷ names) all)
  where
    lacking : (ns : List (List ℕ)) → All IsName ns → All (λ t. lacks 38 t ≡ true) (map name_text ns)
    lacking [] fit k d within = absurd (omega arith)
    lacking (n ∷ ns) fit zero d within = name_lacks 38 ampersand n (fit 0 n (omega arith))
    lacking (n ∷ ns) fit (suc k) d within = lacking ns (λ j e inside. fit (suc j) e (omega arith)) k d (omega arith)

abbrev TogetherFits : List (List ℕ) → Type 0
TogetherFits names = (names ≢ []) × All IsName names

together_pass : (p : ℕ → Bool) → ((b : ℕ) → is_name_byte b ≡ true → p b ≡ true) → p 38 ≡ true → (names : List (List ℕ)) → TogetherFits names
    → list_all p (together_text names) ≡ true
together_pass p weak marked names fits =
    listed_pass IsName name_text p (λ name named. all_weaker is_name_byte p weak name (name_named name named)) 38 marked names fits.1

lists_lack : (alternatives : List (List (List ℕ))) → All TogetherFits alternatives → All (λ t. lacks 124 t ≡ true) (map together_text alternatives)
lists_lack [] fit k d within = absurd (omega arith)
lists_lack (names ∷ others) fit zero d within = together_pass (other_than 124) (bar.foreign) refl names (fit 0 names (omega arith))
lists_lack (names ∷ others) fit (suc k) d within = lists_lack others (λ j e inside. fit (suc j) e (omega arith)) k d (omega arith)

abbrev as_features : List (List (List ℕ)) → FeatureExpr
as_features alternatives = record { alternatives = alternatives }

alternatives_back : (alternatives : List (List (List ℕ))) → alternatives ≢ [] → All TogetherFits alternatives
    → parts_in together_in 124 (joined 124 (map together_text alternatives)) ≡ Some alternatives
alternatives_back [] some all = absurd (some refl)
alternatives_back (names ∷ others) some all =
    parts_back together_in together_text 124 names others
    (λ k d within. let fits = all k d within in together_back _ fits.0 fits.1) (lists_lack (names ∷ others) all)

pub features_back : (features : FeatureExpr) → FeaturesFit features → features_in (features_text features) ≡ Some features
unfolding features_in
features_back features fits = ap (option_map as_features) (alternatives_back features.alternatives fits.some fits.named)

pub features_word : (features : FeatureExpr) → FeaturesFit features → list_all is_word_byte (features_text features) ≡ true
features_word features fits =
    listed_pass TogetherFits together_text is_word_byte (together_pass is_word_byte named_word refl) 124 refl features.alternatives fits.named

joined_some : (mark : ℕ) (text : List ℕ) (texts : List (List ℕ)) → 0 < length text → 0 < length (joined mark (text ∷ texts))
joined_some mark [] texts some = absurd (omega arith)
joined_some mark (b ∷ text) texts some = omega arith

together_some : (names : List (List ℕ)) → TogetherFits names → 0 < length (together_text names)
together_some [] fits = absurd (fits.0 refl)
together_some (name ∷ names) fits = joined_some 38 name (map name_text names) (name_some name (fits.1 0 name (omega arith)))

alternatives_some : (alternatives : List (List (List ℕ))) → alternatives ≢ [] → All TogetherFits alternatives
    → 0 < length (joined 124 (map together_text alternatives))
alternatives_some [] some all = absurd (some refl)
alternatives_some (names ∷ others) some all =
    joined_some 124 (together_text names) (map together_text others) (together_some names (all 0 names (omega arith)))

pub features_some : (features : FeatureExpr) → FeaturesFit features → 0 < length (features_text features)
features_some features fits = alternatives_some features.alternatives fits.some fits.named

together_sound : (word : List ℕ) (names : List (List ℕ)) → together_in word ≡ Some names → TogetherFits names
together_sound word names e = (parts_some name_in 38 word names e, parts_sound IsName name_in name_sound 38 word names e)

pub features_sound : (word : List ℕ) (features : FeatureExpr) → features_in word ≡ Some features → FeaturesFit features
unfolding features_in
features_sound word features e =
    let a = mapped_to (parts_in together_in 124 word) as_features features e in
    subst FeaturesFit a.2 (record {
      some = parts_some together_in 124 word a.0 a.1;
      named = parts_sound TogetherFits together_in together_sound 124 word a.0 a.1;
    })

-- the jobs of a dependency

-- a job, without the colon before it
abbrev job_word : DepId → List ℕ
job_word id = decimal id.id ++ index_text id.index

ten_back : (number : ℕ) → FitsU32 number → u32_in (decimal number) ≡ Some number
ten_back number fits = decimal_read_ten number 4_294_967_295 (omega arith) (omega arith)

abbrev as_id : ℕ × Option ℕ → DepId
as_id job = record { id = job.0; index = job.1 }

job_back : (id : ℕ) (index : Option ℕ) → FitsU32 id → FitsOptional FitsU32 index → job_in (decimal id ++ index_text index) ≡ Some (id, index)
unfolding job_of
job_back id None fits fit =
    ap job_in (append-nil (decimal id)) ∙ rw (fields_lacking 95 (decimal id) (decimal_lacks_underscore id (omega arith)), ten_back id fits) refl
job_back id (Some index) fits fit =
    ap job_in (sym (append_assoc (decimal id) (codes "_") (decimal index)))
    ∙ rw (
      fields_two 95 (decimal id) (decimal index) (decimal_lacks_underscore id (omega arith)) (decimal_lacks_underscore index (omega arith)),
      ten_back id fits,
      ten_back index fit,
    ) refl

id_back : (id : DepId) → IdFits id → id_in (job_word id) ≡ Some id
id_back id fits = ap (option_map as_id) (job_back id.id id.index fits.id_fits fits.index_fits)

index_pass : (p : ℕ → Bool) → ((b : ℕ) → is_name_byte b ≡ true → p b ≡ true) → (index : Option ℕ) → FitsOptional FitsU32 index
    → list_all p (index_text index) ≡ true
index_pass p weak None fit = refl
index_pass p weak (Some index) fit = all_weaker is_name_byte p weak (codes "_" ++ decimal index) (all_append is_name_byte (codes "_") (decimal index) refl (decimal_named index (omega arith)))

id_pass : (p : ℕ → Bool) → ((b : ℕ) → is_name_byte b ≡ true → p b ≡ true) → (id : DepId) → IdFits id → list_all p (job_word id) ≡ true
id_pass p weak id fits =
    let low = fits.id_fits in
    all_append p (decimal id.id) (index_text id.index) (all_weaker is_name_byte p weak (decimal id.id) (decimal_named id.id (omega arith)))
    (index_pass p weak id.index fits.index_fits)

-- items

ids_joined : (word : List ℕ) (ids : List DepId) → word ++ flat_map id_text ids ≡ joined 58 (word ∷ map job_word ids)
ids_joined word ids = ap (λ t. word ++ t) (behind ids) where
  behind : (ids : List DepId) → flat_map id_text ids ≡ flat_map (λ t. 58 ∷ t) (map job_word ids)
  behind [] = refl
  behind (id ∷ ids) = ap (λ t. 58 ∷ t) (append_assoc (decimal id.id) (index_text id.index) (flat_map id_text ids)) ∙ ap (λ t. 58 ∷ (decimal id.id ++ (index_text id.index ++ t))) (behind ids) ∙ ap (λ t. 58 ∷ t) (sym (append_assoc (decimal id.id) (index_text id.index) (flat_map (λ t. 58 ∷ t) (map job_word ids))))

kind_named : (kind : DepKind) → list_all is_name_byte (kind_word kind) ≡ true
kind_named After = refl
kind_named AfterAny = refl
kind_named AfterOk = refl
kind_named AfterNotOk = refl
kind_named AfterCorr = refl
kind_named Singleton = refl

ids_lack : (ids : List DepId) → All IdFits ids → All (λ t. lacks 58 t ≡ true) (map job_word ids)
ids_lack [] fit k d within = absurd (omega arith)
ids_lack (id ∷ ids) fit zero d within = id_pass (other_than 58) (colon.foreign) id (fit 0 id (omega arith))
ids_lack (id ∷ ids) fit (suc k) d within = ids_lack ids (λ j e inside. fit (suc j) e (omega arith)) k d (omega arith)

item_fields : (item : DepItem) → All IdFits item.ids → fields 58 (item_text item) ≡ kind_word item.kind ∷ map job_word item.ids
item_fields item all =
    ap (fields 58) (ids_joined (kind_word item.kind) item.ids)
    ∙ fields_joined 58 (kind_word item.kind) (map job_word item.ids) (first (kind_word item.kind) (map job_word item.ids)
    (all_weaker is_name_byte (other_than 58) (colon.foreign) (kind_word item.kind) (kind_named item.kind)) (ids_lack item.ids all))
  where
    first : (t : List ℕ) (ts : List (List ℕ)) → lacks 58 t ≡ true → All (λ u. lacks 58 u ≡ true) ts → All (λ u. lacks 58 u ≡ true) (t ∷ ts)
    first t ts one all zero d within = one
    first t ts one all (suc k) d within = all k d (omega arith)

jobs_back : (ids : List DepId) → All IdFits ids → all_some (map id_in (map job_word ids)) ≡ Some ids
jobs_back ids all = all_some_back id_in job_word ids (λ k d within. id_back _ (all k d within))

kind_back : (kind : DepKind) → (kind ≡ Singleton → ⊥) → kind_in (kind_word kind) ≡ Some kind
unfolding kind_in
kind_back After other = refl
kind_back AfterAny other = refl
kind_back AfterOk other = refl
kind_back AfterNotOk other = refl
kind_back AfterCorr other = refl
kind_back Singleton other = absurd (other refl)

abbrev as_item : DepKind → List DepId → DepItem
as_item kind ids = record { kind = kind; ids = ids }

naming_back : (kind : DepKind) (ids : List DepId) → (kind ≡ Singleton → ⊥) → All IdFits ids
    → item_naming (kind_word kind) (map job_word ids) ≡ Some (as_item kind ids)
unfolding item_naming
naming_back kind ids other all = rw (kind_back kind other, jobs_back ids all) refl

of_naming : (kind : DepKind) (ids : List DepId) → ids ≢ [] → (kind ≡ Singleton → ⊥) → All IdFits ids
    → item_of (kind_word kind ∷ map job_word ids) ≡ Some (as_item kind ids)
unfolding item_of
of_naming kind [] some other all = absurd (some refl)
of_naming kind (id ∷ ids) some other all = naming_back kind (id ∷ ids) other all

of_item : (kind : DepKind) (ids : List DepId) → NamesJobs kind ids → All IdFits ids → item_of (kind_word kind ∷ map job_word ids) ≡ Some (as_item kind ids)
unfolding item_of
of_item After ids names all = of_naming After ids names (λ is. cc) all
of_item AfterAny ids names all = of_naming AfterAny ids names (λ is. cc) all
of_item AfterOk ids names all = of_naming AfterOk ids names (λ is. cc) all
of_item AfterNotOk ids names all = of_naming AfterNotOk ids names (λ is. cc) all
of_item AfterCorr ids names all = of_naming AfterCorr ids names (λ is. cc) all
of_item Singleton [] names all = refl
of_item Singleton (id ∷ ids) names all = absurd (let is : id ∷ ids ≡ [] = names in cc)

item_back : (item : DepItem) → ItemFits item → item_in (item_text item) ≡ Some item
item_back item fits = ap item_of (item_fields item fits.ids) ∙ of_item item.kind item.ids fits.names fits.ids

ids_pass : (p : ℕ → Bool) → ((b : ℕ) → is_name_byte b ≡ true → p b ≡ true) → p 58 ≡ true → (ids : List DepId) → All IdFits ids
    → list_all p (flat_map id_text ids) ≡ true
ids_pass p weak colons [] all = refl
ids_pass p weak colons (id ∷ ids) all =
    all_append p (id_text id) (flat_map id_text ids)
    (all_append p (codes ":" ++ decimal id.id) (index_text id.index)
    (all_append p (codes ":") (decimal id.id) (rw colons refl)
    (let low = (all 0 id (omega arith)).id_fits in all_weaker is_name_byte p weak (decimal id.id) (decimal_named id.id (omega arith))))
    (index_pass p weak id.index (all 0 id (omega arith)).index_fits))
    (ids_pass p weak colons ids (λ k d within. all (suc k) d (omega arith)))

item_pass : (p : ℕ → Bool) → ((b : ℕ) → is_name_byte b ≡ true → p b ≡ true) → p 58 ≡ true → (item : DepItem) → ItemFits item
    → list_all p (item_text item) ≡ true
item_pass p weak colons item fits =
    all_append p (kind_word item.kind) (flat_map id_text item.ids) (all_weaker is_name_byte p weak (kind_word item.kind) (kind_named item.kind))
    (ids_pass p weak colons item.ids fits.ids)

-- a dependency

none_asks : (text : List ℕ) → list_all (other_than 63) text ≡ true → list_any (λ b. b == 63) text ≡ false
none_asks [] all = refl
none_asks (b ∷ text) all = by_test (none_asks text) (b == 63) all where
  by_test : (list_all (other_than 63) text ≡ true → list_any (λ b. b == 63) text ≡ false) → (t : Bool)
      → (not t && list_all (other_than 63) text) ≡ true → (t || list_any (λ b. b == 63) text) ≡ false
  by_test more true both = absurd (cc)
  by_test more false both = more both

some_ask : (front back : List ℕ) → list_any (λ b. b == 63) (front ++ 63 ∷ back) ≡ true
some_ask [] back = refl
some_ask (b ∷ front) back = by_test (some_ask front back) (b == 63) where
  by_test : list_any (λ b. b == 63) (front ++ 63 ∷ back) ≡ true → (t : Bool) → (t || list_any (λ b. b == 63) (front ++ 63 ∷ back)) ≡ true
  by_test more true = refl
  by_test more false = more

items_pass : (items : List DepItem) → All ItemFits items → list_all (other_than 63) (joined 44 (map item_text items)) ≡ true
items_pass items all = listed_pass ItemFits item_text (other_than 63) (item_pass (other_than 63) (question.foreign) refl) 44 refl items all

items_lack : (mark : ℕ) → IsMark mark → other_than mark 58 ≡ true → (items : List DepItem) → All ItemFits items → All (λ t. lacks mark t ≡ true) (map item_text items)
items_lack mark is colons [] fit k d within = absurd (omega arith)
items_lack mark is colons (item ∷ items) fit zero d within = item_pass (other_than mark) (is.foreign) colons item (fit 0 item (omega arith))
items_lack mark is colons (item ∷ items) fit (suc k) d within = items_lack mark is colons items (λ j e inside. fit (suc j) e (omega arith)) k d (omega arith)

abbrev as_dependency : Bool → List DepItem → DepSpec
as_dependency any items = record { any = any; items = items }

dependency_of : (any : Bool) (text : List ℕ) (items : List DepItem) → is_any text ≡ any → parts_in item_in (mark_of any) text ≡ Some items
    → count_ids items ≤ 64 → dependency_in text ≡ Some (as_dependency any items)
unfolding dependency_in
dependency_of any text items ask is few = rw (ask, is, at_least (count_ids items) 64 few) refl

items_back : (mark : ℕ) → IsMark mark → other_than mark 58 ≡ true → (item : DepItem) (items : List DepItem) → All ItemFits (item ∷ items)
    → parts_in item_in mark (joined mark (map item_text (item ∷ items))) ≡ Some (item ∷ items)
items_back mark is colons item items all =
    parts_back item_in item_text mark item items (λ k d within. item_back _ (all k d within)) (items_lack mark is colons (item ∷ items) all)

dependency_by : (any : Bool) (items : List DepItem) → items ≢ [] → All ItemFits items → count_ids items ≤ 64 → (length items ≡ 1 → any ≡ false)
    → dependency_in (joined (mark_of any) (map item_text items)) ≡ Some (as_dependency any items)
dependency_by any [] some all few single = absurd (some refl)
dependency_by false (item ∷ items) some all few single =
    dependency_of false (joined 44 (map item_text (item ∷ items))) (item ∷ items) (none_asks (joined 44 (map item_text (item ∷ items))) (items_pass (item ∷ items) all))
    (items_back 44 comma refl item items all) few
dependency_by true (item ∷ []) some all few single = let no : true ≡ false = single refl in absurd (cc)
dependency_by true (item ∷ next ∷ items) some all few single =
    dependency_of true (joined 63 (map item_text (item ∷ next ∷ items))) (item ∷ next ∷ items)
    (some_ask (item_text item) (item_text next ++ flat_map (λ t. 63 ∷ t) (map item_text items)))
    (items_back 63 question refl item (next ∷ items) all) few

pub dependency_back : (dependency : DepSpec) → DependencyFits dependency → dependency_in (dependency_text dependency) ≡ Some dependency
dependency_back dependency fits = dependency_by dependency.any dependency.items fits.some fits.items fits.few fits.single

mark_good : (any : Bool) → is_word_byte (mark_of any) ≡ true
mark_good true = refl
mark_good false = refl

pub dependency_word : (dependency : DepSpec) → DependencyFits dependency → list_all is_word_byte (dependency_text dependency) ≡ true
dependency_word dependency fits =
    listed_pass ItemFits item_text is_word_byte (item_pass is_word_byte named_word refl) (mark_of dependency.any) (mark_good dependency.any)
    dependency.items fits.items

kind_some : (kind : DepKind) (rest : List ℕ) → 0 < length (kind_word kind ++ rest)
kind_some After rest = omega arith
kind_some AfterAny rest = omega arith
kind_some AfterOk rest = omega arith
kind_some AfterNotOk rest = omega arith
kind_some AfterCorr rest = omega arith
kind_some Singleton rest = omega arith

items_some : (mark : ℕ) (items : List DepItem) → items ≢ [] → 0 < length (joined mark (map item_text items))
items_some mark [] some = absurd (some refl)
items_some mark (item ∷ items) some = joined_some mark (item_text item) (map item_text items) (kind_some item.kind (flat_map id_text item.ids))

pub dependency_some : (dependency : DepSpec) → DependencyFits dependency → 0 < length (dependency_text dependency)
dependency_some dependency fits = items_some (mark_of dependency.any) dependency.items fits.some

-- what is read of a dependency fits

ten_sound : (text : List ℕ) (number : ℕ) → u32_in text ≡ Some number → FitsU32 number
ten_sound text number e = let low = within_bound 10 4_294_967_295 text number e in omega arith

abbrev JobFitsIn : ℕ × Option ℕ → Type 0
JobFitsIn job = (FitsU32 job.0) × FitsOptional FitsU32 job.1

same_job : (a b : ℕ × Option ℕ) → Some a ≡ Some b → a ≡ b
same_job a b is = cc

job_of_sound : (parts : List (List ℕ)) (job : ℕ × Option ℕ) → job_of parts ≡ Some job → JobFitsIn job
unfolding job_of
job_of_sound [] job e = absurd (cc)
job_of_sound (id ∷ []) job e =
    let i = gives (u32_in id) (λ i. Some (i, None)) job e in
    subst JobFitsIn (same_job (i.0, None) job i.2) (ten_sound id i.0 i.1, tt)
job_of_sound (id ∷ index ∷ []) job e =
    let i = gives (u32_in id) (λ i. option_and_then (λ n. Some (i, Some n)) (u32_in index)) job e in
    let n = gives (u32_in index) (λ n. Some (i.0, Some n)) job i.2 in
    subst JobFitsIn (same_job (i.0, Some n.0) job n.2) (ten_sound id i.0 i.1, ten_sound index n.0 n.1)
job_of_sound (id ∷ index ∷ more ∷ parts) job e = absurd (cc)

id_sound : (word : List ℕ) (id : DepId) → id_in word ≡ Some id → IdFits id
id_sound word id e =
    let j = mapped_to (job_in word) as_id id e in
    let fits = job_of_sound (fields 95 word) j.0 j.1 in
    subst IdFits j.2 (record { id_fits = fits.0; index_fits = fits.1 })

kind_choice : (t : Bool) (kind other : DepKind) (rest : Option DepKind) → (other ≡ Singleton → ⊥) → (rest ≡ Some kind → kind ≡ Singleton → ⊥)
    → (if t then Some other else rest) ≡ Some kind → kind ≡ Singleton → ⊥
kind_choice true kind other rest apart more e is = apart (let same : other ≡ kind = cc in same ∙ is)
kind_choice false kind other rest apart more e is = more e is

kind_sound : (word : List ℕ) (kind : DepKind) → kind_in word ≡ Some kind → kind ≡ Singleton → ⊥
unfolding kind_in
kind_sound word kind =
    kind_choice (bytes_eq word (codes "after")) kind After _ (λ is. cc)
    (kind_choice (bytes_eq word (codes "afterany")) kind AfterAny _ (λ is. cc)
    (kind_choice (bytes_eq word (codes "afterok")) kind AfterOk _ (λ is. cc)
    (kind_choice (bytes_eq word (codes "afternotok")) kind AfterNotOk _ (λ is. cc)
    (kind_choice (bytes_eq word (codes "aftercorr")) kind AfterCorr None (λ is. cc) (λ e is. cc)))))

names_jobs : (kind : DepKind) (ids : List DepId) → (kind ≡ Singleton → ⊥) → ids ≢ [] → NamesJobs kind ids
names_jobs After ids other some = some
names_jobs AfterAny ids other some = some
names_jobs AfterOk ids other some = some
names_jobs AfterNotOk ids other some = some
names_jobs AfterCorr ids other some = some
names_jobs Singleton ids other some = absurd (other refl)

naming_sound : (word id : List ℕ) (ids : List (List ℕ)) (item : DepItem) → item_naming word (id ∷ ids) ≡ Some item → ItemFits item
unfolding item_naming
naming_sound word id ids item e =
    let k = gives (kind_in word) (λ kind. option_and_then (λ jobs. Some (as_item kind jobs)) (all_some (map id_in (id ∷ ids)))) item e in
    let j = gives (all_some (map id_in (id ∷ ids))) (λ jobs. Some (as_item k.0 jobs)) item k.2 in
    let last : Some (as_item k.0 j.0) ≡ Some item = j.2 in
    let same : as_item k.0 j.0 ≡ item = cc in
    subst ItemFits same (record {
      names = names_jobs k.0 j.0 (kind_sound word k.0 k.1) (some_length j.0 (omega (arith, length-all_some id_in (id ∷ ids) j.0 j.1)));
      ids = all_some_by IdFits id_in id_sound (id ∷ ids) j.0 j.1;
    })

item_of_sound : (parts : List (List ℕ)) (item : DepItem) → item_of parts ≡ Some item → ItemFits item
unfolding item_of
item_of_sound [] item e = absurd (cc)
item_of_sound (word ∷ []) item e =
    let parts = chosen (bytes_eq word (codes "singleton")) (as_item Singleton []) item e in
    subst ItemFits parts.1 (record { names = refl; ids = λ k d within. absurd (omega arith) })
item_of_sound (word ∷ id ∷ ids) item e = naming_sound word id ids item e

item_sound : (word : List ℕ) (item : DepItem) → item_in word ≡ Some item → ItemFits item
item_sound word item e = item_of_sound (fields 58 word) item e

length-onto_first : (b : ℕ) (parts : List (List ℕ)) → 0 < length parts → length (onto_first b parts) ≡ length parts
length-onto_first b [] some = absurd (omega arith)
length-onto_first b (part ∷ parts) some = refl

fields_some : (mark : ℕ) (text : List ℕ) → 0 < length (fields mark text)
fields_some mark text = omega (arith, length-slice_split (λ b. b == mark) text)

two_fields : (mark : ℕ) (text : List ℕ) → list_any (λ b. b == mark) text ≡ true → 2 ≤ length (fields mark text)
two_fields mark [] e = absurd (cc)
two_fields mark (b ∷ text) e = by_test (two_fields mark text) (b == mark) e where
  by_test : (list_any (λ b. b == mark) text ≡ true → 2 ≤ length (fields mark text)) → (t : Bool)
      → (t || list_any (λ b. b == mark) text) ≡ true → 2 ≤ length (if t then [] ∷ fields mark text else onto_first b (fields mark text))
  by_test more true either = let some = fields_some mark text in omega arith
  by_test more false either =
      let rest = more either in
      let same = length-onto_first b (fields mark text) (fields_some mark text) in
      omega arith

needed_alone : (word : List ℕ) (items : List DepItem) → items_in word ≡ Some items → length items ≡ 1 → is_any word ≡ false
needed_alone word items e one = by_test (is_any word) refl where
  by_test : (t : Bool) → is_any word ≡ t → t ≡ false
  by_test true ask =
      let more : parts_in item_in 63 word ≡ Some items = rw ask at e in
      let many = two_fields 63 word ask in
      let same = length-all_some item_in (fields 63 word) items more in
      absurd (omega arith)
  by_test false ask = refl

pub dependency_sound : (word : List ℕ) (dependency : DepSpec) → dependency_in word ≡ Some dependency → DependencyFits dependency
unfolding dependency_in
dependency_sound word dependency e =
    let i = gives (items_in word) (λ items. if nat_le (count_ids items) 64 then Some (as_dependency (is_any word) items) else None) dependency e in
    let parts = chosen (nat_le (count_ids i.0) 64) (as_dependency (is_any word) i.0) dependency i.2 in
    let low : nat_le (count_ids i.0) 64 ≡ true = parts.0 in
    subst DependencyFits parts.1 (record {
      some = parts_some item_in (if is_any word then 63 else 44) word i.0 i.1;
      items = parts_sound ItemFits item_in item_sound (if is_any word then 63 else 44) word i.0 i.1;
      few = grind (arith, nat_tests);
      single = needed_alone word i.0 i.1;
    })
