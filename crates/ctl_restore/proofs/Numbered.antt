-- Arrays and their tasks, found by their numbers, which rise.
use Rattle.std.proofs.Common.{◌≡◌, ℕ, zero, suc, ◌+◌, ◌<◌, ◌≤◌, Bool, true, false, ◌&&◌, List, [], ◌∷◌, ◌++◌, length, filter, take, drop, All, AllPairs, Any, get_or, Some, refl, sym, ap, ◌∙◌, arith, inl, inr}
use Rattle.std.specs.Prelude.{nat_le, nat_lt}
use Rattle.std.specs.List.Sorted.{IsPartitionedBy}
use Rattle.std.proofs.lemmas.Bool.{both_ways, cases_lt}
use Rattle.std.proofs.lemmas.Bool.Decides.{nat_tests}
use Rattle.std.proofs.lemmas.List.{append-nil, get_or-drop, get_or-take, get_or_default, length-drop, length-take-le, take-append-drop}
use Rattle.std.proofs.lemmas.List.Elements.{All-cons, All-head, All-nil, All-tail, filter-append}
use Rattle.saved_data.specs.declared.job.SavedJob.{SavedJob}
use Rattle.saved_data.specs.declared.parts.SavedArray.{SavedArray}
use Rattle.list_lemmas.proofs.Filters.{filter-none}
use Rattle.ctl_restore.specs.Fits.{HasItsTasks, IsTaskOf, is_within}

pub parted : {X : Type 0} (number : X → ℕ) (xs : List X) (n : ℕ) → AllPairs (λ one other. number one < number other) xs
    → IsPartitionedBy (λ x. nat_lt (number x) n) xs
parted number xs n rising i j d le within = grind (arith, nat_tests, rising i j d)

some-same : (one other : ℕ) → Some one ≡ Some other → one ≡ other
some-same one other is = cc

-- only the array at the place where its number parts the others can be the job's
pub only-there : (job : SavedJob) (arrays : List SavedArray) (id place : ℕ)
    → AllPairs (λ (one other : SavedArray). one.id < other.id) arrays → job.array ≡ Some id
    → ((k : ℕ) (d : SavedArray) → k < place → k < length arrays → (get_or arrays k d).id < id)
    → ((k : ℕ) (d : SavedArray) → place ≤ k → k < length arrays → id ≤ (get_or arrays k d).id)
    → Any (IsTaskOf job) arrays
    → (place < length arrays) × ((d : SavedArray) → IsTaskOf job (get_or arrays place d))
only-there job arrays id place rising is before from (k, array, inside, found, task) =
    (omega (arith, exact, inside), λ d. rw (← exact, get_or_default arrays k d array inside, found) task)
  where
    same : (get_or arrays k array).id ≡ id
    same = ap (λ (one : SavedArray). one.id) found ∙ some-same array.id id (sym task.of ∙ is)

    reached : place ≤ k
    reached = elim (cases_lt k place) as (λ _. place ≤ k) [
      | inl below ↦ absurd (omega (arith, same, before k array below inside))
      | inr past ↦ past
    ]

    exact : k ≡ place
    exact = elim (cases_lt place k) as (λ _. k ≡ place) [
      | inl less ↦ absurd (omega (arith, same, rising place k array less inside, from place array (omega arith) (omega (arith, less, inside))))
      | inr past ↦ omega (arith, past, reached)
    ]

-- the jobs within an array are its tasks
later-any : {X : Type 0} (P : X → Type 0) (y : X) (xs : List X) → Any P xs → Any P (y ∷ xs)
later-any P y xs (k, x, below, found, is) = (suc k, x, omega (arith, below), found, is)

any-from_filter : {X : Type 0} (p : X → Bool) (xs : List X) (x : X) (rest : List X) → filter p xs ≡ x ∷ rest
    → Any (λ x. p x ≡ true) xs
any-from_filter p [] x rest is = absurd (let never = is in cc)
any-from_filter {X} p (y ∷ ys) x rest is = at (p y) refl (λ fails. any-from_filter p ys x rest (rw fails at is)) where
  at : (b : Bool) → p y ≡ b → (p y ≡ false → Any (λ x. p x ≡ true) ys) → Any (λ x. p x ≡ true) (y ∷ ys)
  at true passes on = (0, y, omega arith, refl, passes)
  at false fails on = later-any (λ x. p x ≡ true) y ys (on fails)

none-in_filter : {X : Type 0} (p : X → Bool) (xs : List X) → filter p xs ≡ [] → Any (λ x. p x ≡ true) xs → ⊥
none-in_filter p [] is (k, x, below, found, passes) = omega (arith, below)
none-in_filter {X} p (y ∷ ys) is (k, x, below, found, passes) =
    at (p y) refl k below found (λ fails j inside here. none-in_filter p ys (rw fails at is) (j, x, inside, here, passes)) where
      at : (b : Bool) → p y ≡ b → (k : ℕ) → k < length (y ∷ ys) → get_or (y ∷ ys) k x ≡ x
          → (p y ≡ false → (j : ℕ) → j < length ys → get_or ys j x ≡ x → ⊥) → ⊥
      at true holds k below found on = absurd (let never = rw holds at is in cc)
      at false fails zero below found on = both_ways (p y) fails (ap p found ∙ passes)
      at false fails (suc k) below found on = on fails k (omega (arith, below)) found

all-where : {X : Type 0} (p : X → Bool) (P : X → Type 0) (xs : List X) → All P (filter p xs)
    → All (λ x. p x ≡ true → P x) xs
all-where p P [] all = All-nil (λ x. p x ≡ true → P x)
all-where {X} p P (x ∷ xs) all = at (p x) refl (λ rest. all-where p P xs rest) where
  Where : X → Type 0
  Where x = p x ≡ true → P x

  at : (b : Bool) → p x ≡ b → (All P (filter p xs) → All Where xs) → All Where (x ∷ xs)
  at true passes on =
      let here : All P (x ∷ filter p xs) = rw passes at all in
      All-cons Where x xs (λ yes. All-head P x (filter p xs) here) (on (All-tail P x (filter p xs) here))
  at false fails on = All-cons Where x xs (λ yes. absurd (both_ways (p x) fails yes)) (on (rw fails at all))

where-all : {X : Type 0} (p : X → Bool) (P : X → Type 0) (xs : List X) → All (λ x. p x ≡ true → P x) xs
    → All P (filter p xs)
where-all p P [] all = All-nil P
where-all {X} p P (x ∷ xs) all = at (p x) refl (where-all p P xs (All-tail (λ x. p x ≡ true → P x) x xs all)) where
  at : (b : Bool) → p x ≡ b → All P (filter p xs) → All P (filter p (x ∷ xs))
  at true passes rest = rw passes (All-cons P x (filter p xs) (All-head (λ x. p x ≡ true → P x) x xs all passes) rest)
  at false fails rest = rw fails rest

pub its-tasks : (jobs tasks : List SavedJob) (array : SavedArray) → tasks ≡ filter (is_within array) jobs
    → (tasks ≡ [] → ⊥) → All (λ (job : SavedJob). job.array ≡ Some array.id) tasks → HasItsTasks jobs array
its-tasks jobs [] array is some all = absurd (some refl)
its-tasks jobs (task ∷ tasks) array is some all = record {
  some = any-from_filter (is_within array) jobs task tasks (sym is);
  all = all-where (is_within array) (λ (job : SavedJob). job.array ≡ Some array.id) jobs (rw (← is) all);
}

pub tasks-some : (jobs tasks : List SavedJob) (array : SavedArray) → tasks ≡ filter (is_within array) jobs
    → HasItsTasks jobs array → tasks ≡ [] → ⊥
tasks-some jobs tasks array is has none = none-in_filter (is_within array) jobs (sym is ∙ none) has.some

pub tasks-all : (jobs tasks : List SavedJob) (array : SavedArray) → tasks ≡ filter (is_within array) jobs
    → HasItsTasks jobs array → All (λ (job : SavedJob). job.array ≡ Some array.id) tasks
tasks-all jobs tasks array is has =
    rw is (where-all (is_within array) (λ (job : SavedJob). job.array ≡ Some array.id) jobs has.all)

-- those between two places are those that pass, where no other does
filter-whole : {X : Type 0} (p : X → Bool) (xs : List X) → All (λ x. p x ≡ true) xs → filter p xs ≡ xs
filter-whole p [] all = refl
filter-whole p (x ∷ xs) all =
    rw (All-head (λ x. p x ≡ true) x xs all)
    (ap (λ rest. x ∷ rest) (filter-whole p xs (All-tail (λ x. p x ≡ true) x xs all)))

pub filter-parts : {X : Type 0} (p : X → Bool) (first count : ℕ) (xs : List X)
    → All (λ x. p x ≡ false) (take first xs)
    → All (λ x. p x ≡ true) (take count (drop first xs))
    → All (λ x. p x ≡ false) (drop count (drop first xs))
    → take count (drop first xs) ≡ filter p xs
filter-parts p first count xs before inside behind =
    sym (filter-whole p (take count (drop first xs)) inside)
    ∙ sym (append-nil (filter p (take count (drop first xs))))
    ∙ ap (λ rest. filter p (take count (drop first xs)) ++ rest) (sym (filter-none p (drop count (drop first xs)) behind))
    ∙ sym (filter-append p (take count (drop first xs)) (drop count (drop first xs)))
    ∙ ap (filter p) (take-append-drop count (drop first xs))
    ∙ ap (λ front. front ++ filter p (drop first xs)) (sym (filter-none p (take first xs) before))
    ∙ sym (filter-append p (take first xs) (drop first xs))
    ∙ ap (filter p) (take-append-drop first xs)

pub below : (a b : ℕ) → nat_lt a b ≡ true → a < b
below a b is = grind (arith, nat_tests)

pub at-least : (a b : ℕ) → nat_lt a b ≡ false → b ≤ a
at-least a b is = grind (arith, nat_tests)

-- numbers that rise rise from any place on
pub rising-rest : {X : Type 0} (number : X → ℕ) (xs : List X) (n : ℕ)
    → AllPairs (λ one other. number one < number other) xs → AllPairs (λ one other. number one < number other) (drop n xs)
rising-rest number xs n rising i j d before below =
    rw (get_or-drop n xs i d, get_or-drop n xs j d)
    (rising (n + i) (n + j) d (omega (arith, before)) (omega (arith, below, length-drop n xs)))

-- the numbers before an array's, its own, and those behind
before-it : (id first end : ℕ) → nat_lt id first ≡ true → (nat_le first id && nat_lt id end) ≡ false
before-it id first end less = grind (arith, nat_tests, less)

inside-it : (id first end : ℕ) → nat_lt id first ≡ false → nat_lt id end ≡ true
    → (nat_le first id && nat_lt id end) ≡ true
inside-it id first end from less = grind (arith, nat_tests, from, less)

behind-it : (id first end : ℕ) → nat_lt id end ≡ false → (nat_le first id && nat_lt id end) ≡ false
behind-it id first end past = grind (arith, nat_tests, past)

pub members-within : (array : SavedArray) (jobs : List SavedJob) (first count : ℕ) → first ≤ length jobs
    → count ≤ length (drop first jobs)
    → ((k : ℕ) (d : SavedJob) → 0 ≤ k → k < first → nat_lt (get_or jobs k d).id array.id ≡ true)
    → ((k : ℕ) (d : SavedJob) → first ≤ k → k < length jobs → nat_lt (get_or jobs k d).id array.id ≡ false)
    → ((k : ℕ) (d : SavedJob) → 0 ≤ k → k < count
    → nat_lt (get_or (drop first jobs) k d).id (array.id + length array.indices) ≡ true)
    → ((k : ℕ) (d : SavedJob) → count ≤ k → k < length (drop first jobs)
    → nat_lt (get_or (drop first jobs) k d).id (array.id + length array.indices) ≡ false)
    → take count (drop first jobs) ≡ filter (is_within array) jobs
members-within array jobs first count within some less from inside behind =
    filter-parts (is_within array) first count jobs
    (λ k d below.
    let low : k < first = omega (arith, below, length-take-le first jobs within) in
    rw (get_or-take first jobs k d low)
    (before-it (get_or jobs k d).id array.id end (less k d (omega arith) low)))
    (λ k d below.
    let low : k < count = omega (arith, below, length-take-le count (drop first jobs) some) in
    rw (get_or-take count (drop first jobs) k d low)
    (inside-it (get_or (drop first jobs) k d).id array.id end
    (rw (get_or-drop first jobs k d)
    (from (first + k) d (omega arith) (omega (arith, low, some, length-drop first jobs))))
    (inside k d (omega arith) low)))
    (λ k d below.
    rw (get_or-drop count (drop first jobs) k d)
    (behind-it (get_or (drop first jobs) (count + k) d).id array.id end
    (behind (count + k) d (omega arith) (omega (arith, below, length-drop count (drop first jobs))))))
  where
    end : ℕ
    end = array.id + length array.indices

pub none-there : {X : Type 0} (xs : List X) → length xs ≤ 0 → xs ≡ []
none-there [] few = refl
none-there (x ∷ xs) few = absurd (omega (arith, few))
