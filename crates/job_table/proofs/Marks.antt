-- What is marked in the blocks of the table.
use Rattle.std.proofs.Common.{◌≡◌, ◌≢◌, ℕ, zero, suc, ◌+◌, ◌/◌, ◌<◌, ◌≤◌, Bool, true, false, ◌||◌, nat_eq, List, [], ◌∷◌, ◌++◌, length, map, take, set, get_or, slice_get, unwrap_or, All, IfSome, Option, None, Some, inl, inr, refl, sym, ap, ◌∙◌, arith, true≢false}
use Rattle.std.specs.List.{AllWithin, list_any}
use Rattle.std.proofs.lemmas.Bool.{cases_Bool, cases_eq, cases_lt}
use Rattle.std.proofs.lemmas.Bool.Decides.{nat_tests}
use Rattle.std.specs.Prelude.{option_map}
use Rattle.std.proofs.lemmas.Option.{slice_get-get_or, slice_get-map, slice_get_past, none-some}
use Rattle.std.proofs.lemmas.List.Elements.{AllWithin-more, All-head, All-tail, at_read}
use Rattle.plain_data.specs.Rows.{has_id}
use Rattle.job_table.specs.declared.blocks.Block.{Block}
use Rattle.job_table.specs.declared.record.Part.{Part}
use Rattle.job_table.specs.declared.record.JobRecord.{JobRecord}
use Rattle.job_table.specs.Blocks.{AreMarked, AreMarkedBefore, AreMarkedBut, HasMark, IsMarked, Shows, holds_on, mark_of, may_be_holding, may_hold}
use Rattle.job_table.specs.Changes.{is_on}
use Rattle.job_table.specs.JobStates.{is_holding}
use Rattle.job_table.specs.Walks.{map_at}

pub same-one : {X : Type 0} {x y : X} → Some x ≡ Some y → x ≡ y
same-one same = cc

-- the member at a place of a list that is cut, goes on, or is written to
get-take : {X : Type 0} (n k : ℕ) (xs : List X) → k < n → slice_get (take n xs) k ≡ slice_get xs k
get-take zero k xs below = absurd (omega (arith, below))
get-take (suc n) k [] below = refl
get-take (suc n) zero (x ∷ xs) below = refl
get-take (suc n) (suc k) (x ∷ xs) below = get-take n k xs (omega (arith, below))

pub get-append : {X : Type 0} (xs ys : List X) (k : ℕ) → k < length xs → slice_get (xs ++ ys) k ≡ slice_get xs k
get-append [] ys k below = absurd (omega (arith, below))
get-append (x ∷ xs) ys zero below = refl
get-append (x ∷ xs) ys (suc k) below = get-append xs ys k (omega (arith, below))

get-seam : {X : Type 0} (xs : List X) (x : X) → slice_get (xs ++ x ∷ []) (length xs) ≡ Some x
get-seam [] x = refl
get-seam (y ∷ xs) x = get-seam xs x

get-set : {X : Type 0} (xs : List X) (k : ℕ) (x : X) → k < length xs → slice_get (set xs k x) k ≡ Some x
get-set [] k x below = absurd (omega (arith, below))
get-set (y ∷ xs) zero x below = refl
get-set (y ∷ xs) (suc k) x below = get-set xs k x (omega (arith, below))

get-set_other : {X : Type 0} (xs : List X) (k j : ℕ) (x : X) → j ≢ k → slice_get (set xs k x) j ≡ slice_get xs j
get-set_other [] zero j x other = refl
get-set_other [] (suc k) j x other = refl
get-set_other (y ∷ xs) zero zero x other = absurd (other refl)
get-set_other (y ∷ xs) zero (suc j) x other = refl
get-set_other (y ∷ xs) (suc k) zero x other = refl
get-set_other (y ∷ xs) (suc k) (suc j) x other = get-set_other xs k j x (λ same. other (ap suc same))

get-map_at_other : {X : Type 0} (f : X → X) (k j : ℕ) (xs : List X) → j ≢ k
    → slice_get (map_at k f xs) j ≡ slice_get xs j
get-map_at_other f k j [] other = refl
get-map_at_other f zero zero (x ∷ xs) other = absurd (other refl)
get-map_at_other f zero (suc j) (x ∷ xs) other = refl
get-map_at_other f (suc k) zero (x ∷ xs) other = refl
get-map_at_other f (suc k) (suc j) (x ∷ xs) other = get-map_at_other f k j xs (λ same. other (ap suc same))

pub get-changed : {X : Type 0} (f : X → X) (k : ℕ) (xs : List X) (x : X) → slice_get xs k ≡ Some x
    → slice_get (map_at k f xs) k ≡ Some (f x)
get-changed f k [] x there = absurd (none-some x there)
get-changed f zero (y ∷ xs) x there = ap (λ z. Some (f z)) (same-one there)
get-changed f (suc k) (y ∷ xs) x there = get-changed f k xs x there

pub length-map_at : {X : Type 0} (f : X → X) (k : ℕ) (xs : List X) → length (map_at k f xs) ≡ length xs
length-map_at f k [] = refl
length-map_at f zero (x ∷ xs) = refl
length-map_at f (suc k) (x ∷ xs) = ap suc (length-map_at f k xs)

-- one more mark
abbrev pub AddsMark : ℕ → List ℕ → List ℕ → Type 0
AddsMark mark old new = (other : ℕ) → has_id new other ≡ (has_id old other || nat_eq mark other)

pub mark-kept : (mark : ℕ) (old new : List ℕ) → AddsMark mark old new → (number : ℕ) → has_id old number ≡ true
    → has_id new number ≡ true
mark-kept mark old new added number has = added number ∙ ap (λ b. b || nat_eq mark number) has

mark-there : (mark : ℕ) (old new : List ℕ) → AddsMark mark old new → has_id new mark ≡ true
mark-there mark old new added = added mark ∙ by (has_id old mark)
  where
    itself : nat_eq mark mark ≡ true
    itself = grind (arith, nat_tests)

    by : (b : Bool) → (b || nat_eq mark mark) ≡ true
    by true = refl
    by false = itself

pub mark-next : (parts : List Part) (i : ℕ) (part : Part) (old new : List ℕ) → i < length parts
    → part ≡ get_or parts i part → AddsMark (mark_of part.node) old new → AllWithin (HasMark old) parts 0 i
    → AllWithin (HasMark new) parts 0 (i + 1)
mark-next parts i part old new inside is added before =
    AllWithin-more (HasMark new) parts 0 i
    (λ k d low below. mark-kept (mark_of part.node) old new added (mark_of (get_or parts k d).node) (before k d low below))
    (at_read parts (HasMark new) i part inside is (mark-there (mark_of part.node) old new added))

-- a block that has these marks as well, and says so where the job holds processors
pub shows-more : (old new : Block) (holds : Bool)
    → ((number : ℕ) → has_id old.nodes number ≡ true → has_id new.nodes number ≡ true)
    → new.holding ≡ (old.holding || holds) → (job : JobRecord) → Shows old job → Shows new job
shows-more old new holds stays is job shown = record {
  nodes = λ k d below. stays (mark_of (get_or job.parts k d).node) (shown.nodes k d below);
  holding = λ state. is ∙ ap (λ b. b || holds) (shown.holding state);
}

pub shows-job : (old new : Block) (holds : Bool) (job : JobRecord) → All (HasMark new.nodes) job.parts
    → new.holding ≡ (old.holding || holds) → holds ≡ is_holding job.state → Shows new job
shows-job old new holds job marked is same = record {
  nodes = marked;
  holding = λ state. is ∙ by old.holding (same ∙ state);
}
  where
    by : (b : Bool) → holds ≡ true → (b || holds) ≡ true
    by true so = refl
    by false so = so

-- the jobs from one place on and before another are shown
abbrev pub ShowsWithin : Block → List JobRecord → ℕ → ℕ → Type 0
ShowsWithin block jobs first end =
    (place : ℕ) (job : JobRecord) → first ≤ place → place < end → slice_get jobs place ≡ Some job → Shows block job

pub shows-next : (old new : Block) (jobs : List JobRecord) (first i : ℕ) (job : JobRecord) → i < length jobs
    → job ≡ get_or jobs i job → Shows new job → ((other : JobRecord) → Shows old other → Shows new other)
    → ShowsWithin old jobs first i → ShowsWithin new jobs first (i + 1)
shows-next old new jobs first i job inside is shown stays before = λ place one low below there. elim (cases_lt place i) [
  | inl early ↦ stays one (before place one low early there)
  | inr late ↦
      let here : i ≡ place = omega (arith, late, below) in
      let found : slice_get jobs i ≡ Some job = slice_get-get_or jobs i job inside ∙ ap Some (sym is) in
      let same : job ≡ one = same-one (sym found ∙ ap (slice_get jobs) here ∙ there) in
      rw (sym same) shown
]

-- what is shown by a block that is kept, and by one that isn't
marked-in : (blocks : List Block) (place : ℕ) (job : JobRecord) (block : Block)
    → slice_get blocks (place / 64) ≡ Some block → Shows block job → IsMarked blocks place job
marked-in blocks place job block is shown = rw is shown

marked-none : (blocks : List Block) (place : ℕ) (job : JobRecord) → slice_get blocks (place / 64) ≡ None
    → IsMarked blocks place job
marked-none blocks place job none = rw none tt

marked-same : (blocks others : List Block) (place : ℕ) (job : JobRecord)
    → slice_get others (place / 64) ≡ slice_get blocks (place / 64) → IsMarked blocks place job
    → IsMarked others place job
marked-same blocks others place job same marked = rw same marked

-- one job has changed, whose block isn't kept, or shows the job
pub marked-missing : (blocks : List Block) (jobs : List JobRecord) (at : ℕ) → length blocks ≤ at / 64
    → AreMarkedBut at blocks jobs → AreMarked blocks jobs
marked-missing blocks jobs at past others = λ place job there. elim (cases_eq place at) [
  | inl here ↦
      marked-none blocks place job
      (slice_get_past blocks (place / 64) (omega (arith, past, ap (λ n. n / 64) here)))
  | inr other ↦ others place job other there
]

pub marked-more : (blocks : List Block) (jobs : List JobRecord) (at : ℕ) (old new : Block) (job : JobRecord)
    → at / 64 < length blocks → old ≡ get_or blocks (at / 64) old → at < length jobs → job ≡ get_or jobs at job
    → Shows new job → ((other : JobRecord) → Shows old other → Shows new other) → AreMarkedBut at blocks jobs
    → AreMarked (set blocks (at / 64) new) jobs
marked-more blocks jobs at old new job inside old_is below job_is shown stays others = λ place one there.
    let after = set blocks (at / 64) new in
    let was : slice_get blocks (at / 64) ≡ Some old =
    slice_get-get_or blocks (at / 64) old inside ∙ ap Some (sym old_is) in
    let is : slice_get jobs at ≡ Some job = slice_get-get_or jobs at job below ∙ ap Some (sym job_is) in
    let put : slice_get after (at / 64) ≡ Some new = get-set blocks (at / 64) new inside in
    elim (cases_eq place at) [
      | inl here ↦
          let same : job ≡ one = same-one (sym is ∙ ap (slice_get jobs) (sym here) ∙ there) in
          marked-in after place one new (ap (λ n. slice_get after (n / 64)) here ∙ put) (rw (sym same) shown)
      | inr other ↦ elim (cases_eq (place / 64) (at / 64)) [
        | inl beside ↦
            let before : slice_get blocks (place / 64) ≡ Some old = ap (slice_get blocks) beside ∙ was in
            marked-in after place one new (ap (slice_get after) beside ∙ put)
            (stays one (rw before at (others place one other there)))
        | inr apart ↦
            marked-same blocks after place one (get-set_other blocks (at / 64) (place / 64) new apart)
            (others place one other there)
      ]
    ]

-- jobs that come behind, change at a place, or keep their parts and their state
pub marked-front : (blocks : List Block) (old more : List JobRecord) (count : ℕ) → count ≡ length old
    → AreMarked blocks old → AreMarkedBefore (count / 64) blocks (old ++ more)
marked-front blocks old more count long marked = λ place job below there.
    let inside : place < length old = omega (arith, below, long) in
    marked place job (sym (get-append old more place inside) ∙ there)

pub marked-but : (blocks : List Block) (jobs : List JobRecord) (at : ℕ) (f : JobRecord → JobRecord)
    → AreMarked blocks jobs → AreMarkedBut at blocks (map_at at f jobs)
marked-but blocks jobs at f marked = λ place job other there.
    marked place job (sym (get-map_at_other f at place jobs other) ∙ there)

shown-same : (found : Option Block) (one job : JobRecord) → one.parts ≡ job.parts → one.state ≡ job.state
    → IfSome found (λ block. Shows block one) → IfSome found (λ block. Shows block job)
shown-same None one job parts state shown = tt
shown-same (Some block) one job parts state shown = record {
  nodes = rw parts at shown.nodes;
  holding = λ holds. shown.holding (ap is_holding state ∙ holds);
}

pub marked-kept : (blocks : List Block) (jobs : List JobRecord) (f : JobRecord → JobRecord)
    → ((job : JobRecord) → (f job).parts ≡ job.parts) → ((job : JobRecord) → (f job).state ≡ job.state)
    → AreMarked blocks jobs → AreMarked blocks (map f jobs)
marked-kept blocks jobs f keeps stays marked = λ place job there.
    by place job (slice_get jobs place) refl (sym (slice_get-map f jobs place) ∙ there)
  where
    by : (place : ℕ) (job : JobRecord) (found : Option JobRecord) → slice_get jobs place ≡ found
        → option_map f found ≡ Some job → IsMarked blocks place job
    by place job None is there = absurd (none-some job there)
    by place job (Some one) is there =
        let same : f one ≡ job = same-one there in
        shown-same (slice_get blocks (place / 64)) one job
        (sym (keeps one) ∙ ap (λ (each : JobRecord). each.parts) same)
        (sym (stays one) ∙ ap (λ (each : JobRecord). each.state) same) (marked place one is)

-- where nothing on the node is marked no job holds something of it
unmarked-off : (found : Option Block) (node : ℕ) (parts : List Part) → may_hold found node ≡ false
    → All (λ (part : Part). may_hold found part.node ≡ true) parts → list_any (is_on node) parts ≡ false
unmarked-off found node [] none marked = refl
unmarked-off found node (part ∷ parts) none marked =
    let rest = unmarked-off found node parts none
    (All-tail (λ (one : Part). may_hold found one.node ≡ true) part parts marked) in
    elim (cases_eq part.node node) [
      | inl same ↦
          let has : may_hold found part.node ≡ true =
          All-head (λ (one : Part). may_hold found one.node ≡ true) part parts marked in
          absurd (true≢false (sym has ∙ ap (may_hold found) same ∙ none))
      | inr apart ↦
          let off : nat_eq part.node node ≡ false = grind (arith, nat_tests) in
          ap (λ b. b || list_any (is_on node) parts) off ∙ rest
    ]

-- each node of which a job holds something is marked in what is kept of its block
marks-shown : (found : Option Block) (job : JobRecord) → IfSome found (λ block. Shows block job)
    → All (λ (part : Part). may_hold found part.node ≡ true) job.parts
marks-shown None job shown = λ k d below. refl
marks-shown (Some block) job shown = shown.nodes

-- from one place on and before another the node isn't marked
abbrev pub NoneWithin : List Block → ℕ → ℕ → ℕ → Type 0
NoneWithin blocks node from end = (place : ℕ) → from ≤ place → place < end
    → may_hold (slice_get blocks (place / 64)) node ≡ false

within-end : (found : Option ℕ) (from end : ℕ) → IfSome found (λ place. (from ≤ place) × (place < end))
    → unwrap_or found end ≤ end
within-end None from end there = omega arith
within-end (Some place) from end there = omega (arith, there.1)

pub none-on : (blocks : List Block) (jobs : List JobRecord) (node from : ℕ) (found : Option ℕ)
    → AreMarked blocks jobs → IfSome found (λ place. (from ≤ place) × (place < length jobs))
    → NoneWithin blocks node from (unwrap_or found (length jobs))
    → AllWithin (λ job. holds_on node job ≡ false) jobs from (unwrap_or found (length jobs))
none-on blocks jobs node from found marked there none = λ k d low below.
    let inside : k < length jobs = omega (arith, below, within-end found from (length jobs) there) in
    let job = get_or jobs k d in
    unmarked-off (slice_get blocks (k / 64)) node job.parts (none k low below)
    (marks-shown (slice_get blocks (k / 64)) job (marked k job (slice_get-get_or jobs k d inside)))

-- where no job of a block may be in a state that holds processors none is
idle-shown : (found : Option Block) (job : JobRecord) → may_be_holding found ≡ false
    → IfSome found (λ block. Shows block job) → is_holding job.state ≡ false
idle-shown None job none shown = absurd (true≢false none)
idle-shown (Some block) job none shown = elim (cases_Bool (is_holding job.state)) [
  | inl holds ↦ absurd (true≢false (sym (shown.holding holds) ∙ none))
  | inr idle ↦ idle
]

-- from one place on and before another no job may be in such a state
abbrev pub IdleWithin : List Block → ℕ → ℕ → Type 0
IdleWithin blocks from end = (place : ℕ) → from ≤ place → place < end
    → may_be_holding (slice_get blocks (place / 64)) ≡ false

pub none-holding : (blocks : List Block) (jobs : List JobRecord) (from : ℕ) (found : Option ℕ)
    → AreMarked blocks jobs → IfSome found (λ place. (from ≤ place) × (place < length jobs))
    → IdleWithin blocks from (unwrap_or found (length jobs))
    → AllWithin (λ job. is_holding job.state ≡ false) jobs from (unwrap_or found (length jobs))
none-holding blocks jobs from found marked there none = λ k d low below.
    let inside : k < length jobs = omega (arith, below, within-end found from (length jobs) there) in
    idle-shown (slice_get blocks (k / 64)) (get_or jobs k d) (none k low below)
    (marked k (get_or jobs k d) (slice_get-get_or jobs k d inside))
