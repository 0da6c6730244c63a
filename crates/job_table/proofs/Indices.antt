-- Jobs whose indices rise with their numbers in each array: where a task lies.
use Rattle.std.proofs.Common.{◌≡◌, ◌≢◌, ℕ, zero, suc, ◌+◌, ◌-◌, ◌<◌, ◌≤◌, Bool, true, false, ◌&&◌, ◌||◌, nat_eq, nat_lt, List, [], ◌∷◌, length, map, take, drop, get_or, slice_get, min, All, IfSome, Option, None, Some, refl, sym, ap, ◌∙◌, arith, true≢false, inl, inr}
use Rattle.std.specs.Prelude.{unwrap_or}
use Rattle.std.specs.List.{AllWithin}
use Rattle.std.specs.Map.{values_of}
use Rattle.std.specs.List.Sorted.{IsPartitionedBy}
use Rattle.std.proofs.lemmas.Bool.{cases_lt}
use Rattle.std.proofs.lemmas.Bool.Decides.{nat_tests}
use Rattle.std.proofs.lemmas.List.{get_or-drop, get_or-map, get_or-take, get_or_default, length-drop, length-map, length-take, length-take-le, take_all}
use Rattle.job_table.specs.declared.record.JobRecord.{JobRecord}
use Rattle.job_table.specs.Table.{HaveRisingIds, IsJobTable, IsTable, entry_of}
use Rattle.job_table.specs.Behind.{NoneWaitsBehind}
use Rattle.job_table.specs.Blocks.{AreMarked}
use Rattle.job_table.specs.declared.blocks.Block.{Block}
use Rattle.job_table.specs.Tallies.{IsTallied}
use Rattle.job_table.specs.declared.unended.Tallies.{Tallies}
use Rattle.job_table.specs.Walks.{map_at}
use Rattle.job_table.proofs.Entries.{values-entries}
use Rattle.job_table.specs.Targets.{AreTogether, HaveRisingIndices, follows, follows_in, found_by, index_of, is_named_by, is_number, is_task_of, lies_before}

is-array : (array : ℕ) (of : Option ℕ) → is_number array of ≡ true → of ≡ Some array
is-array array None is = absurd (true≢false (sym is))
is-array array (Some other) is = let same : other ≡ array = grind (arith, nat_tests) in ap Some same

-- a job behind the last one
after-last : (array : Option ℕ) (one last job : JobRecord) → follows_in array last job ≡ true → one.id ≤ last.id
    → IfSome last.array (λ first. first ≤ one.id → index_of one ≤ index_of last)
    → IfSome array (λ first. first ≤ one.id → index_of one < index_of job)
after-last None one last job follow before rises = tt
after-last (Some array) one last job follow before rises = λ low.
    let task : is_task_of array last ≡ true = grind (arith, nat_tests) in
    let later : nat_lt (index_of last) (index_of job) ≡ true = grind (arith, nat_tests) in
    let of = is-array array last.array task in
    let above : index_of one ≤ index_of last = (rw of at rises) low in
    grind (arith, nat_tests)

at-most : (array : Option ℕ) (one last : JobRecord)
    → IfSome array (λ first. first ≤ one.id → index_of one < index_of last)
    → IfSome array (λ first. first ≤ one.id → index_of one ≤ index_of last)
at-most None one last rises = tt
at-most (Some array) one last rises = λ low. omega (arith, rises low)

itself : (array : Option ℕ) (one : JobRecord) → IfSome array (λ first. first ≤ one.id → index_of one ≤ index_of one)
itself None one = tt
itself (Some array) one = λ low. omega arith

pub rises-first : (jobs : List JobRecord) → HaveRisingIndices (take (0 + 1) jobs)
rises-first jobs i j d less within = absurd (omega (arith, less, within, length-take (0 + 1) jobs))

rises-on : (jobs : List JobRecord) (place : ℕ) (d : JobRecord) → HaveRisingIds jobs → place + 1 < length jobs
    → follows (get_or jobs place d) (get_or jobs (place + 1) d) ≡ true
    → HaveRisingIndices (take (place + 1) jobs) → HaveRisingIndices (take (place + 1 + 1) jobs)
rises-on jobs place d rising inside follow before i j e less within =
    let last : j < place + 1 + 1 = omega (arith, length-take-le (place + 1 + 1) jobs (omega arith)) in
    rw (get_or-take (place + 1 + 1) jobs i e (omega arith), get_or-take (place + 1 + 1) jobs j e last)
    (elim (cases_lt j (place + 1)) [
      | inl early ↦
          rw (get_or-take (place + 1) jobs i e (omega arith), get_or-take (place + 1) jobs j e early)
          at (before i j e less (omega (arith, length-take-le (place + 1) jobs (omega arith))))
      | inr late ↦
          let is : place + 1 ≡ j = omega arith in
          rw (sym is) (behind i (omega arith))
    ])
  where
    behind : (i : ℕ) → i < place + 1
        → IfSome (get_or jobs (place + 1) e).array
        (λ first. first ≤ (get_or jobs i e).id → index_of (get_or jobs i e) < index_of (get_or jobs (place + 1) e))
    behind i below =
        let after = rw (get_or_default jobs place d e (omega (arith, inside)), get_or_default jobs (place + 1) d e inside)
        at follow in
        let one = get_or jobs i e in
        let last = get_or jobs place e in
        let job = get_or jobs (place + 1) e in
        elim (cases_lt i place) [
          | inl early ↦
              let lower : one.id ≤ last.id = omega (arith, rising i place e early (omega (arith, inside))) in
              let rises = rw (get_or-take (place + 1) jobs i e below, get_or-take (place + 1) jobs place e (omega arith))
              at (before i place e early (omega (arith, length-take-le (place + 1) jobs (omega (arith, inside))))) in
              after-last job.array one last job after lower (at-most last.array one last rises)
          | inr late ↦
              let is : place ≡ i = omega arith in
              rw (sym is) (after-last job.array last last job after (omega arith) (itself last.array last))
        ]

pub rises-next : (jobs : List JobRecord) (place : ℕ) (last job : JobRecord) → HaveRisingIds jobs → place < length jobs
    → place ≢ 0 → last ≡ get_or jobs (place - 1) last → job ≡ get_or jobs place job → follows last job ≡ true
    → HaveRisingIndices (take place jobs) → HaveRisingIndices (take (place + 1) jobs)
rises-next jobs place last job rising inside some is_last is follow rises =
    let next : place - 1 + 1 ≡ place = omega arith in
    let at_last : last ≡ get_or jobs (place - 1) job =
    is_last ∙ get_or_default jobs (place - 1) last job (omega (arith, inside)) in
    let at : job ≡ get_or jobs (place - 1 + 1) job = rw next is in
    let step = rises-on jobs (place - 1) job rising (omega (arith, inside)) (rw (← at_last, ← at) follow) in
    (rw next at step) rises

pub rises-all : (jobs : List JobRecord) (place : ℕ) → length jobs ≤ place → HaveRisingIndices (take place jobs)
    → HaveRisingIndices jobs
rises-all jobs place long rises = rw (take_all place jobs long) at rises

-- Jobs that are found by the same have indices that rise as they did.
pub indices-same : (jobs were : List JobRecord) → map found_by jobs ≡ map found_by were → HaveRisingIndices were
    → HaveRisingIndices jobs
indices-same jobs were same rises i j d before below =
    let first = at i d (omega (arith, before, below)) in
    let second = at j d below in
    alike (get_or jobs i d) (get_or jobs j d) (get_or were i d) (get_or were j d) first second
    (rises i j d before (omega (arith, long, below)))
  where
    long : length jobs ≡ length were
    long = sym (length-map jobs found_by) ∙ ap length same ∙ length-map were found_by

    at : (k : ℕ) (d : JobRecord) → k < length jobs → found_by (get_or jobs k d) ≡ found_by (get_or were k d)
    at k d below =
        sym (get_or-map found_by jobs k d (found_by d) below) ∙ ap (λ all. get_or all k (found_by d)) same
        ∙ get_or-map found_by were k d (found_by d) (omega (arith, long, below))

    alike : (one other earlier later : JobRecord) → found_by one ≡ found_by earlier → found_by other ≡ found_by later
        → IfSome later.array (λ array. array ≤ earlier.id → index_of earlier < index_of later)
        → IfSome other.array (λ array. array ≤ one.id → index_of one < index_of other)
    alike one other earlier later first second rises =
        rw (
          ap (λ by. by.0) first,
          ap (λ by. by.1) second,
          ap (λ by. unwrap_or by.2 0) first,
          ap (λ by. unwrap_or by.2 0) second,
        ) rises

-- So they do where each that changes is found by the same.
module _ (f : JobRecord → JobRecord) (keeps : (job : JobRecord) → found_by (f job) ≡ found_by job) where
  pub found-map : (jobs : List JobRecord) → map found_by (map f jobs) ≡ map found_by jobs
  found-map [] = refl
  found-map (job ∷ jobs) =
      ap (λ by. by ∷ map found_by (map f jobs)) (keeps job) ∙ ap (λ rest. found_by job ∷ rest) (found-map jobs)

  pub found-map_at : (place : ℕ) (jobs : List JobRecord) → map found_by (map_at place f jobs) ≡ map found_by jobs
  found-map_at place [] = refl
  found-map_at zero (job ∷ jobs) = ap (λ by. by ∷ map found_by jobs) (keeps job)
  found-map_at (suc place) (job ∷ jobs) = ap (λ rest. found_by job ∷ rest) (found-map_at place jobs)

-- and where one is put in the place of one that is found by the same
pub found-put_at : (one old : JobRecord) (place : ℕ) (jobs : List JobRecord) → slice_get jobs place ≡ Some old
    → found_by one ≡ found_by old
    → map found_by (map_at place (λ job. one) jobs) ≡ map found_by jobs
found-put_at one old place [] at same = refl
found-put_at one old zero (job ∷ jobs) at same =
    let is : job ≡ old = cc in
    rw is (ap (λ by. by ∷ map found_by jobs) same)
found-put_at one old (suc place) (job ∷ jobs) at same =
    ap (λ rest. found_by job ∷ rest) (found-put_at one old place jobs at same)

-- Where a task lies: those before it have lower numbers than its array, or are tasks of it with lower indices.
lies-both : (array index : ℕ) (one other : JobRecord) → one.id < other.id
    → IfSome other.array (λ first. first ≤ one.id → one.array ≡ Some first)
    → IfSome other.array (λ first. first ≤ one.id → index_of one < index_of other)
    → lies_before array index other ≡ true → lies_before array index one ≡ true
lies-both array index one other below together rises lies = by (nat_lt one.id array) refl
  where
    by : (b : Bool) → nat_lt one.id array ≡ b → (b || (is_task_of array one && nat_lt (index_of one) index)) ≡ true
    by true is = refl
    by false is =
        let low : array ≤ one.id = grind (arith, nat_tests) in
        let high : nat_lt other.id array ≡ false = grind (arith, nat_tests) in
        let task : is_task_of array other ≡ true = grind (arith, nat_tests) in
        let before : nat_lt (index_of other) index ≡ true = grind (arith, nat_tests) in
        let of = is-array array other.array task in
        let same : one.array ≡ Some array = (rw of at together) low in
        let rise : index_of one < index_of other = (rw of at rises) low in
        let first : nat_lt (index_of one) index ≡ true = grind (arith, nat_tests) in
        let itself : nat_eq array array ≡ true = grind (arith, nat_tests) in
        rw (same, itself, first) refl

pub parted-lies : (jobs : List JobRecord) (array index : ℕ) → HaveRisingIds jobs → AreTogether jobs
    → HaveRisingIndices jobs
    → IsPartitionedBy (lies_before array index) jobs
parted-lies jobs array index rising are rises i j d le within lies = elim (cases_lt i j) [
  | inl less ↦
      lies-both array index (get_or jobs i d) (get_or jobs j d) (rising i j d less within) (are.together i j d less within)
      (rises i j d less within) lies
  | inr more ↦
      let is : j ≡ i = omega arith in
      rw is at lies
]

-- an index that a task's is below, or above
index-below : (of : Option ℕ) (index : ℕ) → unwrap_or of 0 < index → is_number index of ≡ false
index-below None index below = refl
index-below (Some other) index below = grind (arith, nat_tests)

index-above : (of : Option ℕ) (index : ℕ) → index < unwrap_or of 0 → is_number index of ≡ false
index-above None index above = refl
index-above (Some other) index above = grind (arith, nat_tests)

unnamed-lies : (array index : ℕ) (job : JobRecord) → IfSome job.array (λ first. first ≤ job.id)
    → lies_before array index job ≡ true → is_named_by array (Some index) job ≡ false
unnamed-lies array index job after lies = by (is_task_of array job) refl
  where
    by : (b : Bool) → is_task_of array job ≡ b → (b && is_number index job.index) ≡ false
    by false is = refl
    by true is =
        let of = is-array array job.array is in
        let low : array ≤ job.id = rw of at after in
        let not : nat_lt job.id array ≡ false = grind (arith, nat_tests) in
        let lower : nat_lt (index_of job) index ≡ true = grind (arith, nat_tests) in
        index-below job.index index (grind (arith, nat_tests))

unnamed-later : (array index : ℕ) (one other : JobRecord)
    → IfSome other.array (λ first. first ≤ one.id → one.array ≡ Some first)
    → IfSome other.array (λ first. first ≤ one.id → index_of one < index_of other)
    → lies_before array index one ≡ false → is_named_by array (Some index) other ≡ false
unnamed-later array index one other together rises not = by (is_task_of array other) refl
  where
    by : (b : Bool) → is_task_of array other ≡ b → (b && is_number index other.index) ≡ false
    by false is = refl
    by true is =
        let of = is-array array other.array is in
        let high : nat_lt one.id array ≡ false = grind (arith, nat_tests) in
        let low : array ≤ one.id = grind (arith, nat_tests) in
        let same : one.array ≡ Some array = (rw of at together) low in
        let itself : nat_eq array array ≡ true = grind (arith, nat_tests) in
        let task : is_task_of array one ≡ true = rw (same, itself) refl in
        let least : nat_lt (index_of one) index ≡ false = grind (arith, nat_tests) in
        let rise : index_of one < index_of other = (rw of at rises) low in
        index-above other.index index (grind (arith, nat_tests))

pub task-before : (jobs : List JobRecord) (array index first : ℕ) → AreTogether jobs → first ≤ length jobs
    → AllWithin (λ (job : JobRecord). lies_before array index job ≡ true) jobs 0 first
    → All (λ job. is_named_by array (Some index) job ≡ false) (take first jobs)
task-before jobs array index first are within below k d inside =
    let before : k < first = omega (arith, length-take-le first jobs within, inside) in
    let there : k < length jobs = omega (arith, before, within) in
    rw (get_or-take first jobs k d before)
    (unnamed-lies array index (get_or jobs k d) (are.after k d there) (below k d (omega arith) before))

pub task-behind : (jobs : List JobRecord) (array index first : ℕ) → AreTogether jobs → HaveRisingIndices jobs
    → AllWithin (λ (job : JobRecord). lies_before array index job ≡ false) jobs first (length jobs)
    → All (λ job. is_named_by array (Some index) job ≡ false) (drop (min (length jobs) (first + 1)) jobs)
task-behind jobs array index first are rises above k d inside =
    let end : ℕ = min (length jobs) (first + 1) in
    let there : end + k < length jobs = omega (arith, length-drop end jobs, inside) in
    let later : first < end + k = omega (arith, there) in
    rw (get_or-drop end jobs k d)
    (unnamed-later array index (get_or jobs first d) (get_or jobs (end + k) d)
    (are.together first (end + k) d later there) (rises first (end + k) d later there)
    (above first d (omega arith) (omega (arith, later, there))))

pub found-alike : (one other : JobRecord) → one.id ≡ other.id → one.array ≡ other.array → one.index ≡ other.index
    → found_by one ≡ found_by other
found-alike one other same array index = cc

-- A table whose records are found by the same as those of another.
pub table-found : (entries : List (ℕ × JobRecord)) (jobs were : List JobRecord) (by_index : Bool)
    (blocks : List Block) (tallies : Tallies) (may_wait : Bool)
    → IsTable entries
    → entries ≡ map entry_of jobs → map found_by jobs ≡ map found_by were
    → (by_index ≡ true → HaveRisingIndices were)
    → AreMarked blocks jobs → IsTallied tallies jobs → (may_wait ≡ false → NoneWaitsBehind jobs)
    → IsJobTable entries by_index blocks tallies may_wait
table-found entries jobs were by_index blocks tallies may_wait table are same rises marked tallied behind =
    let listed : values_of entries ≡ jobs = ap values_of are ∙ values-entries jobs in
    record {
      table = table;
      indices = λ known. rw listed (indices-same jobs were same (rises known));
      marked = rw listed marked;
      tallied = rw listed tallied;
      behind = λ none. rw listed (behind none);
    }
