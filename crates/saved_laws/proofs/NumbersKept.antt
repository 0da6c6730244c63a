-- Jobs stay few, and arrays stay those of which there are tasks.
use Rattle.std.proofs.Common.{ℕ, ◌≡◌, ◌∙◌, ◌+◌, ◌<◌, ◌≤◌, ◌⊎◌, inl, inr, zero, suc, Bool, true, false, ◌&&◌, cond, List, [], ◌∷◌, ◌++◌, map, filter, length, get_or, All, AllPairs, Any, Option, Some, None, slice_get, refl, ap, sym, subst, arith}
use Rattle.std.specs.Prelude.{is_none, nat_le, nat_lt}
use Rattle.std.specs.List.{enumerate_from, list_any}
use Rattle.std.proofs.lemmas.Bool.{and_parts, eq-eqb, eqb-true, le-leb, leb-true, lt-ltb, ltb-true}
use Rattle.std.proofs.lemmas.List.{length-append, length-map}
use Rattle.std.proofs.lemmas.List.Elements.{All-append, All-cons, All-filter, All-map, All-nil, All-weaker, filter_passes}
use Rattle.std.proofs.lemmas.List.Folds.{Any-from_list_any, list_any-from_Any}
use Rattle.std.proofs.lemmas.List.FromFn.{length-enumerate_from}
use Rattle.std.proofs.lemmas.List.Kept.{AllPairs-filter}
use Rattle.list_lemmas.proofs.Filters.{filter-less}
use Rattle.list_lemmas.proofs.Pairs.{pairs-append}
use Rattle.job_table.specs.declared.record.JobRecord.{JobRecord}
use Rattle.job_table.specs.Targets.{is_number, is_task_of}
use Rattle.ctl_state.specs.declared.record.ArrayRecord.{ArrayRecord}
use Rattle.ctl_pass.specs.Readiness.{arrays_left}
use Rattle.saved_laws.specs.Kept.{AreIndices, AreNumbered, HasTasks, IsAlone, IsTask, Numbers, is_numbered_in, numbers_of}
use Rattle.saved_laws.proofs.Positions.{all_unmap, one_place, there, within}

-- ---- what stands in a list

pub index_is : {A : Type 0} (xs : List A) (k : ℕ) (x d : A) → slice_get xs k ≡ Some x → get_or xs k d ≡ x
index_is [] k x d is = absurd (cc)
index_is (y ∷ ys) zero x d is = cc
index_is (y ∷ ys) (suc k) x d is = index_is ys k x d is

pub any_at : {A : Type 0} (P : A → Type 0) (xs : List A) (k : ℕ) (x : A) → slice_get xs k ≡ Some x → P x → Any P xs
any_at P xs k x is holds = (k, x, within xs k x is, index_is xs k x x is, holds)

-- an element of which it holds, and its place
pub record IsSomewhere {A : Type 0} (P : A → Type 0) (xs : List A) : Type 0 where
  pub place : ℕ
  pub one : A
  pub at : slice_get xs place ≡ Some one
  pub holds : P one

pub any_there : {A : Type 0} (P : A → Type 0) (xs : List A) → Any P xs → IsSomewhere P xs
any_there P xs any =
    let here = there xs any.0 any.2 in
    let same : here.0 ≡ any.1 = sym (index_is xs any.0 here.0 any.1 here.1) ∙ any.3 in
    record { place = any.0; one = any.1; at = here.1 ∙ ap Some same; holds = any.4 }

pub map_there : {A B : Type 0} (f : A → B) (xs : List A) (k : ℕ) (x : A) → slice_get xs k ≡ Some x
    → slice_get (map f xs) k ≡ Some (f x)
map_there f [] k x is = absurd (cc)
map_there f (y ∷ ys) zero x is = let same : y ≡ x = cc in ap (λ y. Some (f y)) same
map_there f (y ∷ ys) (suc k) x is = map_there f ys k x is

left-there : {A : Type 0} (xs ys : List A) (k : ℕ) (x : A) → slice_get xs k ≡ Some x → slice_get (xs ++ ys) k ≡ Some x
left-there [] ys k x is = absurd (cc)
left-there (z ∷ zs) ys zero x is = is
left-there (z ∷ zs) ys (suc k) x is = left-there zs ys k x is

right-there : {A : Type 0} (xs ys : List A) (k : ℕ) (x : A) → slice_get ys k ≡ Some x
    → (j : ℕ) × (slice_get (xs ++ ys) j ≡ Some x)
right-there [] ys k x is = (k, is)
right-there (z ∷ zs) ys k x is =
    let later = right-there zs ys k x is in
    (suc later.0, later.1)

filter-there : {A : Type 0} (test : A → Bool) (xs : List A) (k : ℕ) (x : A) → slice_get xs k ≡ Some x → test x ≡ true
    → (j : ℕ) × (slice_get (filter test xs) j ≡ Some x)
filter-there test [] k x is passes = absurd (cc)
filter-there test (y ∷ ys) zero x is passes =
    let same : y ≡ x = cc in
    (0, ap (λ (b : Bool). slice_get (cond b (y ∷ filter test ys) (filter test ys)) 0) (ap test same ∙ passes) ∙ ap Some same)
filter-there {A} test (y ∷ ys) (suc k) x is passes = by (test y) (filter-there test ys k x is passes)
  where
    by : (keeps : Bool) → (j : ℕ) × (slice_get (filter test ys) j ≡ Some x)
        → (j : ℕ) × (slice_get (cond keeps (y ∷ filter test ys) (filter test ys)) j ≡ Some x)
    by true later = (suc later.0, later.1)
    by false later = later

any-left : {A : Type 0} (P : A → Type 0) (xs ys : List A) → Any P xs → Any P (xs ++ ys)
any-left P xs ys any =
    let one = any_there P xs any in
    any_at P (xs ++ ys) one.place one.one (left-there xs ys one.place one.one one.at) one.holds

any-right : {A : Type 0} (P : A → Type 0) (xs ys : List A) → Any P ys → Any P (xs ++ ys)
any-right P xs ys any =
    let one = any_there P ys any in
    let later = right-there xs ys one.place one.one one.at in
    any_at P (xs ++ ys) later.0 one.one later.1 one.holds

-- ---- whose number is whose

is-number : (number : ℕ) (found : Option ℕ) → is_number number found ≡ true → found ≡ Some number
is-number number None is = absurd (cc)
is-number number (Some other) is = ap Some (eqb-true other number is)

own-number : (number : ℕ) → is_number number (Some number) ≡ true
own-number number = eq-eqb number number refl

-- the bounds of a number within an array's
in-bounds : (array : ArrayRecord) (job : Numbers) → is_numbered_in array job ≡ true
    → (array.id ≤ job.id) × (job.id < array.id + length array.indices)
in-bounds array job is =
    let parts = and_parts (nat_le array.id job.id) (nat_lt job.id (array.id + length array.indices)) is in
    (leb-true array.id job.id parts.0, ltb-true job.id (array.id + length array.indices) parts.1)

pub from_bounds : (array : ArrayRecord) (job : Numbers) → array.id ≤ job.id → job.id < array.id + length array.indices
    → is_numbered_in array job ≡ true
from_bounds array job above below =
    ap (λ (b : Bool). b && nat_lt job.id (array.id + length array.indices)) (le-leb array.id job.id above)
    ∙ lt-ltb job.id (array.id + length array.indices) below

-- ---- what is kept of numbers

pub record AreFew (limit next : ℕ) (arrays : List ArrayRecord) (jobs : List Numbers) : Type 0 where
  pub few : length jobs ≤ limit
  pub numbered : AreNumbered next arrays jobs

-- the arrays' ids rise
abbrev pub IsBefore : ArrayRecord → ArrayRecord → Type 0
IsBefore one other = one.id < other.id

-- a job is alone or of one of these
abbrev IsOfThese : List ArrayRecord → Numbers → Type 0
IsOfThese arrays job = IsAlone job ⊎ Any (IsTask job) arrays

-- ---- fewer jobs

-- one of the arrays, with its place
abbrev IsAmong : List ArrayRecord → ArrayRecord → Type 0
IsAmong arrays array = (j : ℕ) × (slice_get arrays j ≡ Some array)

among-all : {A : Type 0} (xs : List A) → All (λ x. (j : ℕ) × (slice_get xs j ≡ Some x)) xs
among-all {A} xs k d below =
    let here = there xs k below in
    (k, here.1 ∙ ap Some (sym (index_is xs k here.0 d here.1)))

pub thinned : (limit next : ℕ) (arrays : List ArrayRecord) (jobs : List JobRecord) (keeps : JobRecord → Bool)
    → AreFew limit next arrays (map numbers_of jobs)
    → AreFew limit next (arrays_left (filter keeps jobs) arrays) (map numbers_of (filter keeps jobs))
unfolding arrays_left
thinned limit next arrays jobs keeps few =
    let kept = filter keeps jobs in
    let test : ArrayRecord → Bool = λ array. list_any (is_task_of array.id) kept in
    let Old : JobRecord → Type 0 = λ job. IsOfThese arrays (numbers_of job) in
    let old : All Old kept = All-filter keeps Old jobs (all_unmap (IsOfThese arrays) numbers_of jobs few.numbered.jobs) in
    record {
      few = omega (arith, few.few, length-map jobs numbers_of, length-map kept numbers_of, filter-less keeps jobs);
      numbered = record {
        rising = AllPairs-filter IsBefore test arrays few.numbered.rising;
        arrays = λ k d below.
            let Known : ArrayRecord → Type 0 = λ array. HasTasks next (map numbers_of jobs) array × IsAmong arrays array in
            let known : All Known (filter test arrays) =
            All-filter test Known arrays (λ k d below. (few.numbered.arrays k d below, among-all arrays k d below)) in
            let array = get_or (filter test arrays) k d in
            fewer-tasks next arrays jobs keeps few array (known k d below).0 (known k d below).1 old
            (filter_passes test arrays k d below);
        jobs = All-map (IsOfThese (filter test arrays)) numbers_of kept
            (λ k d below. still-of arrays kept k d below (old k d below));
      };
    }
  where
    still-of : (arrays : List ArrayRecord) (kept : List JobRecord) (k : ℕ) (d : JobRecord) → k < length kept
        → IsOfThese arrays (numbers_of (get_or kept k d))
        → IsOfThese (filter (λ (array : ArrayRecord). list_any (is_task_of array.id) kept) arrays) (numbers_of (get_or kept k d))
    still-of arrays kept k d below (inl alone) = inl alone
    still-of arrays kept k d below (inr some) =
        let job = get_or kept k d in
        let one = any_there (IsTask (numbers_of job)) arrays some in
        let here = there kept k below in
        let same : here.0 ≡ job = sym (index_is kept k here.0 d here.1) in
        let is_his : is_task_of one.one.id job ≡ true =
        ap (is_number one.one.id) one.holds.of ∙ own-number one.one.id in
        let passes : list_any (is_task_of one.one.id) kept ≡ true =
        list_any-from_Any (is_task_of one.one.id) kept
        (any_at (λ (job : JobRecord). is_task_of one.one.id job ≡ true) kept k job (here.1 ∙ ap Some same) is_his) in
        let later = filter-there (λ (array : ArrayRecord). list_any (is_task_of array.id) kept) arrays one.place one.one one.at
        passes in
        inr (any_at (IsTask (numbers_of job)) (filter (λ (array : ArrayRecord). list_any (is_task_of array.id) kept) arrays)
        later.0 one.one later.1 one.holds)

    fewer-tasks : (next : ℕ) (arrays : List ArrayRecord) (jobs : List JobRecord) (keeps : JobRecord → Bool)
        → AreFew limit next arrays (map numbers_of jobs) → (array : ArrayRecord)
        → HasTasks next (map numbers_of jobs) array → IsAmong arrays array
        → All (λ (job : JobRecord). IsOfThese arrays (numbers_of job)) (filter keeps jobs)
        → list_any (is_task_of array.id) (filter keeps jobs) ≡ true
        → HasTasks next (map numbers_of (filter keeps jobs)) array
    fewer-tasks next arrays jobs keeps few array has among old passes =
        let kept = filter keeps jobs in
        let Own : Numbers → Type 0 = λ job. is_numbered_in array job ≡ true → job.array ≡ Some array.id in
        let some = any_there (λ (job : JobRecord). is_task_of array.id job ≡ true) kept
        (Any-from_list_any (is_task_of array.id) kept passes) in
        let of : some.one.array ≡ Some array.id = is-number array.id some.one.array some.holds in
        let inside = within kept some.place some.one some.at in
        let his : IsOfThese arrays (numbers_of some.one) =
        subst (λ (job : JobRecord). IsOfThese arrays (numbers_of job)) (index_is kept some.place some.one some.one some.at)
        (old some.place some.one inside) in
        record {
          indices = has.indices;
          next = has.next;
          some = any_at (λ (job : Numbers). is_numbered_in array job ≡ true) (map numbers_of kept) some.place
              (numbers_of some.one) (map_there numbers_of kept some.place some.one some.at)
              (numbered-so arrays few.numbered.rising array among some.one of his);
          all = All-map Own numbers_of kept
              (All-filter keeps (λ (job : JobRecord). Own (numbers_of job)) jobs (all_unmap Own numbers_of jobs has.all));
        }
      where
        numbered-so : (arrays : List ArrayRecord) → AllPairs IsBefore arrays → (array : ArrayRecord) → IsAmong arrays array
            → (job : JobRecord) → job.array ≡ Some array.id → IsOfThese arrays (numbers_of job)
            → is_numbered_in array (numbers_of job) ≡ true
        numbered-so arrays rising array among job of (inl alone) =
            absurd (let none = alone.array in let some = ap is_none of in cc)
        numbered-so arrays rising array among job of (inr some) =
            let one = any_there (IsTask (numbers_of job)) arrays some in
            let equal : Some one.one.id ≡ Some array.id = sym one.holds.of ∙ of in
            let ids : one.one.id ≡ array.id = cc in
            let places = one_place IsBefore arrays rising one.place among.0 one.one array one.at among.1
            (λ before. absurd (omega (arith, before, ids))) (λ before. absurd (omega (arith, before, ids))) in
            let found : Some one.one ≡ Some array = sym one.at ∙ ap (slice_get arrays) places ∙ among.1 in
            let same : one.one ≡ array = cc in
            subst (λ (array : ArrayRecord). is_numbered_in array (numbers_of job) ≡ true) same one.holds.within

-- ---- more jobs

pub added : (limit next count : ℕ) (arrays news : List ArrayRecord) (jobs more : List Numbers)
    → AreFew limit next arrays jobs → All (λ (job : Numbers). job.id < next) jobs
    → All (λ (job : Numbers). next ≤ job.id) more → AllPairs IsBefore news
    → All (λ (array : ArrayRecord). next ≤ array.id) news → All (HasTasks (next + count) more) news
    → All (IsOfThese news) more → length jobs + length more ≤ limit
    → AreFew limit (next + count) (arrays ++ news) (jobs ++ more)
added limit next count arrays news jobs more few below above rising after has of room =
    let Old : ArrayRecord → Type 0 = HasTasks next jobs in
    let After : ArrayRecord → Type 0 = λ array. next ≤ array.id in
    record {
      few = omega (arith, room, length-append jobs more);
      numbered = record {
        rising = pairs-append IsBefore arrays news few.numbered.rising rising
            (All-weaker Old (λ (one : ArrayRecord). All (IsBefore one) news)
            (λ one has. All-weaker After (IsBefore one)
            (λ other after. omega (arith, has.next, has.indices.few.0, after)) news after) arrays few.numbered.arrays);
        arrays = All-append (HasTasks (next + count) (jobs ++ more)) arrays news
            (All-weaker Old (HasTasks (next + count) (jobs ++ more)) (λ array has. older array has) arrays few.numbered.arrays)
            (λ k d inside. newer (get_or news k d) (after k d inside) (has k d inside));
        jobs = All-append (IsOfThese (arrays ++ news)) jobs more
            (All-weaker (IsOfThese arrays) (IsOfThese (arrays ++ news)) (λ job of. lefts job of) jobs few.numbered.jobs)
            (All-weaker (IsOfThese news) (IsOfThese (arrays ++ news)) (λ job of. rights job of) more of);
      };
    }
  where
    lefts : (job : Numbers) → IsOfThese arrays job → IsOfThese (arrays ++ news) job
    lefts job (inl alone) = inl alone
    lefts job (inr some) = inr (any-left (IsTask job) arrays news some)

    rights : (job : Numbers) → IsOfThese news job → IsOfThese (arrays ++ news) job
    rights job (inl alone) = inl alone
    rights job (inr some) = inr (any-right (IsTask job) arrays news some)

    older : (array : ArrayRecord) → HasTasks next jobs array → HasTasks (next + count) (jobs ++ more) array
    older array has = record {
      indices = has.indices;
      next = omega (arith, has.next);
      some = any-left (λ (job : Numbers). is_numbered_in array job ≡ true) jobs more has.some;
      all = All-append (λ (job : Numbers). is_numbered_in array job ≡ true → job.array ≡ Some array.id) jobs more has.all
          (All-weaker (λ (job : Numbers). next ≤ job.id)
          (λ (job : Numbers). is_numbered_in array job ≡ true → job.array ≡ Some array.id)
          (λ job above is. absurd (let bounds = in-bounds array job is in omega (arith, has.next, above, bounds.1))) more above);
    }

    newer : (array : ArrayRecord) → next ≤ array.id → HasTasks (next + count) more array
        → HasTasks (next + count) (jobs ++ more) array
    newer array after has = record {
      indices = has.indices;
      next = has.next;
      some = any-right (λ (job : Numbers). is_numbered_in array job ≡ true) jobs more has.some;
      all = All-append (λ (job : Numbers). is_numbered_in array job ≡ true → job.array ≡ Some array.id) jobs more
          (All-weaker (λ (job : Numbers). job.id < next)
          (λ (job : Numbers). is_numbered_in array job ≡ true → job.array ≡ Some array.id)
          (λ job below is. absurd (let bounds = in-bounds array job is in omega (arith, after, below, bounds.0))) jobs below)
          has.all;
    }

-- ---- the tasks of a new array

-- a task of an array by the place of its index
abbrev pub numbers_at : ℕ → Option ℕ → ℕ × ℕ → Numbers
numbers_at id at_once one = record { id = id + one.0; array = Some id; index = Some one.1; at_once = at_once }

tasks-from : (array : ArrayRecord) (at_once : Option ℕ) (first : ℕ) (rest : List ℕ)
    → ((k index : ℕ) → slice_get rest k ≡ Some index → slice_get array.indices (first + k) ≡ Some index)
    → All (λ (job : Numbers). IsTask job array) (map (numbers_at array.id at_once) (enumerate_from first rest))
tasks-from array at_once first [] at = All-nil (λ (job : Numbers). IsTask job array)
tasks-from array at_once first (index ∷ rest) at =
    let here : slice_get array.indices first ≡ Some index = ap (slice_get array.indices) (omega arith) ∙ at 0 index refl in
    let job = numbers_at array.id at_once (first, index) in
    All-cons (λ (job : Numbers). IsTask job array) job (map (numbers_at array.id at_once) (enumerate_from (first + 1) rest))
    (record {
      of = refl;
      within = from_bounds array job (omega arith) (omega (arith, within array.indices first index here));
      index = λ place is. ap (slice_get array.indices) (omega (arith, is)) ∙ here;
    })
    (tasks-from array at_once (first + 1) rest
    (λ k one is. ap (slice_get array.indices) (omega arith) ∙ at (suc k) one is))

above-from : (id : ℕ) (at_once : Option ℕ) (first : ℕ) (rest : List ℕ)
    → All (λ (job : Numbers). id ≤ job.id) (map (numbers_at id at_once) (enumerate_from first rest))
above-from id at_once first [] = All-nil (λ (job : Numbers). id ≤ job.id)
above-from id at_once first (index ∷ rest) =
    All-cons (λ (job : Numbers). id ≤ job.id) (numbers_at id at_once (first, index))
    (map (numbers_at id at_once) (enumerate_from (first + 1) rest)) (omega arith) (above-from id at_once (first + 1) rest)

own-from : (id : ℕ) (at_once : Option ℕ) (first : ℕ) (rest : List ℕ)
    → All (λ (job : Numbers). job.array ≡ Some id) (map (numbers_at id at_once) (enumerate_from first rest))
own-from id at_once first [] = All-nil (λ (job : Numbers). job.array ≡ Some id)
own-from id at_once first (index ∷ rest) =
    All-cons (λ (job : Numbers). job.array ≡ Some id) (numbers_at id at_once (first, index))
    (map (numbers_at id at_once) (enumerate_from (first + 1) rest)) refl (own-from id at_once (first + 1) rest)

some-from : (array : ArrayRecord) (at_once : Option ℕ) (rest : List ℕ) → 1 ≤ length rest
    → length rest ≤ length array.indices
    → Any (λ (job : Numbers). is_numbered_in array job ≡ true) (map (numbers_at array.id at_once) (enumerate_from 0 rest))
some-from array at_once [] some less = absurd (omega (arith, some))
some-from array at_once (index ∷ rest) some less =
    any_at (λ (job : Numbers). is_numbered_in array job ≡ true)
    (map (numbers_at array.id at_once) (enumerate_from 0 (index ∷ rest))) 0 (numbers_at array.id at_once (0, index)) refl
    (from_bounds array (numbers_at array.id at_once (0, index)) (omega arith) (omega (arith, some, less)))

-- a new array with its tasks
pub array_added : (limit next : ℕ) (arrays : List ArrayRecord) (jobs : List Numbers) (indices : List ℕ) (at_once : Option ℕ)
    → AreFew limit next arrays jobs → All (λ (job : Numbers). job.id < next) jobs → AreIndices indices
    → length jobs + length indices ≤ limit
    → AreFew limit (next + length indices) (arrays ++ record { id = next; indices = indices } ∷ [])
    (jobs ++ map (numbers_at next at_once) (enumerate_from 0 indices))
array_added limit next arrays jobs indices at_once few below are room =
    let array : ArrayRecord = record { id = next; indices = indices } in
    let more = map (numbers_at next at_once) (enumerate_from 0 indices) in
    let long : length more ≡ length indices =
    length-map (enumerate_from 0 indices) (numbers_at next at_once) ∙ length-enumerate_from 0 indices in
    let tasks = tasks-from array at_once 0 indices (λ k index is. ap (slice_get indices) (omega arith) ∙ is) in
    added limit next (length indices) arrays (array ∷ []) jobs more few below (above-from next at_once 0 indices)
    (λ i j d before inside. absurd (omega (arith, before, inside)))
    (All-cons (λ (array : ArrayRecord). next ≤ array.id) array [] (omega arith) (All-nil (λ (array : ArrayRecord). next ≤ array.id)))
    (All-cons (HasTasks (next + length indices) more) array []
    (record {
      indices = are;
      next = omega arith;
      some = some-from array at_once indices are.few.0 (omega arith);
      all = All-weaker (λ (job : Numbers). job.array ≡ Some next)
          (λ (job : Numbers). is_numbered_in array job ≡ true → job.array ≡ Some next) (λ job own is. own) more
          (own-from next at_once 0 indices);
    }) (All-nil (HasTasks (next + length indices) more)))
    (All-weaker (λ (job : Numbers). IsTask job array) (IsOfThese (array ∷ []))
    (λ job task. inr (any_at (IsTask job) (array ∷ []) 0 array refl task)) more tasks)
    (omega (arith, room, long))

-- one more job that is alone
pub lone_added : (limit next : ℕ) (arrays : List ArrayRecord) (jobs : List Numbers) (job : Numbers)
    → AreFew limit next arrays jobs → All (λ (job : Numbers). job.id < next) jobs → job.id ≡ next → IsAlone job
    → length jobs + 1 ≤ limit → AreFew limit (next + 1) (arrays ++ []) (jobs ++ job ∷ [])
lone_added limit next arrays jobs job few below id alone room =
    added limit next 1 arrays [] jobs (job ∷ []) few below
    (All-cons (λ (job : Numbers). next ≤ job.id) job [] (omega (arith, id)) (All-nil (λ (job : Numbers). next ≤ job.id)))
    (λ i j d before inside. absurd (omega (arith, inside)))
    (All-nil (λ (array : ArrayRecord). next ≤ array.id)) (All-nil (HasTasks (next + 1) (job ∷ [])))
    (All-cons (IsOfThese []) job [] (inl alone) (All-nil (IsOfThese [])))
    (omega (arith, room))
