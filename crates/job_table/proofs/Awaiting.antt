-- Jobs for which others wait.
use Rattle.std.proofs.Common.{◌≡◌, ℕ, zero, suc, ◌+◌, ◌<◌, ◌≤◌, Bool, true, false, ◌&&◌, ◌||◌, not, cond, nat_eq, List, [], ◌∷◌, ◌++◌, take, drop, length, get_or, All, Option, None, Some, refl, sym, ap, ◌∙◌, arith}
use Rattle.std.specs.Prelude.{unwrap_or, option_map}
use Rattle.std.specs.List.{filter, list_any, slice_range}
use Rattle.std.proofs.lemmas.Bool.Decides.{nat_tests}
use Rattle.std.proofs.lemmas.List.{append-nil, take-append-drop, take_all}
use Rattle.std.proofs.lemmas.List.Elements.{All-head, All-tail, filter-append}
use Rattle.std.proofs.lemmas.List.Folds.{drop_split, list_any_more}
use Rattle.plain_data.specs.declared.dependency.DepSpec.{DepSpec}
use Rattle.request_data.specs.declared.state.JobState.{JobState}
use Rattle.request_data.specs.declared.state.JobState.TheVariants.{Pending, Running, Completing, Ended}
use Rattle.request_data.specs.declared.state.Final.TheVariants as finals
use Rattle.job_table.specs.declared.awaited.Awaited.{Awaited}
use Rattle.job_table.specs.declared.record.JobRecord.{JobRecord}
use Rattle.job_table.specs.declared.record.Part.{Part}
use Rattle.job_table.specs.declared.terms.Terms.{Terms}
use Rattle.job_table.specs.declared.change.Change.{Change}
use Rattle.job_table.specs.declared.change.Change.TheVariants.{Start, Leave, CancelPending, CancelRequeue, DropPart, SetHold, SetLimit, SetNice}
use Rattle.job_table.specs.Awaiting.{AddsAwaited, ShowsAwaited, awaits, has_awaited, index_named, is_awaited, names_by, names_in, names_job}
use Rattle.job_table.specs.Changes.{changed, not_again, off_node, parts_off, with_left}
use Rattle.job_table.specs.JobStates.{is_pending, is_running}
use Rattle.job_table.specs.Table.{HaveRisingIds}
use Rattle.job_table.specs.Targets.{found_by, is_named_by}

any-same : {X : Type 0} (f g : X → Bool) (xs : List X) → ((x : X) → f x ≡ g x) → list_any f xs ≡ list_any g xs
any-same f g [] same = refl
any-same f g (x ∷ xs) same =
    let one = same x in
    let rest = any-same f g xs same in
    cc

-- who is awaited rests on a job's numbers
named-same : (id : ℕ) (index : Option ℕ) (one other : JobRecord) → one.id ≡ other.id → one.array ≡ other.array
    → one.index ≡ other.index
    → is_named_by id index one ≡ is_named_by id index other
named-same id None one other same array index = cc
named-same id (Some number) one other same array index = cc

names-same : (spec : DepSpec) (one other : JobRecord) → one.id ≡ other.id → one.array ≡ other.array
    → one.index ≡ other.index
    → names_job spec one ≡ names_job spec other
names-same spec one other same array index =
    any-same (names_in one) (names_in other) spec.items
    (λ item. any-same (names_by item.kind one) (names_by item.kind other) item.ids
    (λ id. named-same id.id (index_named item.kind id) one other same array index))

awaits-same : (waiting one other : JobRecord) → one.id ≡ other.id → one.array ≡ other.array
    → one.index ≡ other.index
    → awaits waiting one ≡ awaits waiting other
awaits-same waiting one other same array index =
    ap (λ named. is_pending waiting.state && named) (by waiting.terms.dependency)
  where
    by : (dependency : Option DepSpec)
        → unwrap_or (option_map (λ (spec : DepSpec). names_job spec one) dependency) false
        ≡ unwrap_or (option_map (λ (spec : DepSpec). names_job spec other) dependency) false
    by None = refl
    by (Some spec) = names-same spec one other same array index

pub awaited-by_number : (jobs : List JobRecord) (one other : JobRecord) → one.id ≡ other.id → one.array ≡ other.array
    → one.index ≡ other.index
    → is_awaited jobs one ≡ is_awaited jobs other
unfolding is_awaited
awaited-by_number jobs one other same array index =
    any-same (λ waiting. awaits waiting one) (λ waiting. awaits waiting other) jobs
    (λ waiting. awaits-same waiting one other same array index)

-- what a change leaves of a job: what it is found by, and its terms
abbrev lasting : JobRecord → (ℕ × Option ℕ × Option ℕ) × Terms
lasting job = (found_by job, job.terms)

off_node-lasting : (now node : ℕ) (job : JobRecord) (state : JobState)
    → lasting (off_node now node job state) ≡ lasting job
off_node-lasting now node job Pending = refl
off_node-lasting now node job Running = refl
off_node-lasting now node job (Completing final) = by (parts_off node job.parts)
  where
    by : (parts : List Part) → lasting (with_left now final parts job) ≡ lasting job
    by [] = refl
    by (part ∷ later) = refl
off_node-lasting now node job (Ended final) = refl

not_again-lasting : (job : JobRecord) (state : JobState) → lasting (not_again job state) ≡ lasting job
not_again-lasting job Pending = refl
not_again-lasting job Running = refl
not_again-lasting job (Completing finals.Requeue) = refl
not_again-lasting job (Completing final) = refl
not_again-lasting job (Ended final) = refl

cond-lasting : (b : Bool) (one other : JobRecord) → lasting one ≡ lasting other
    → lasting (cond b one other) ≡ lasting other
cond-lasting true one other same = same
cond-lasting false one other same = refl

changed-lasting : (change : Change) (job : JobRecord) → lasting (changed change job) ≡ lasting job
changed-lasting (Start now parts nodes) job = refl
changed-lasting (Leave final now exit) job = cond-lasting (is_running job.state) _ job refl
changed-lasting (CancelPending now) job = cond-lasting (is_pending job.state) _ job refl
changed-lasting CancelRequeue job = not_again-lasting job job.state
changed-lasting (DropPart node now) job = off_node-lasting now node job job.state
changed-lasting (SetHold by) job = refl
changed-lasting (SetLimit limit) job = refl
changed-lasting (SetNice nice) job = refl

pub changed-found : (change : Change) (job : JobRecord) → found_by (changed change job) ≡ found_by job
changed-found change job = ap (λ of. of.0) (changed-lasting change job)

pub changed-terms : (change : Change) (job : JobRecord) → (changed change job).terms ≡ job.terms
changed-terms change job = ap (λ of. of.1) (changed-lasting change job)

pub awaited-changed : (jobs : List JobRecord) (change : Change) (job : JobRecord)
    → is_awaited jobs (changed change job) ≡ is_awaited jobs job
awaited-changed jobs change job =
    let found = changed-found change job in
    awaited-by_number jobs (changed change job) job (ap (λ by. by.0) found) (ap (λ by. by.1) found)
    (ap (λ by. by.2) found)

-- and on those alone that wait for a start
abbrev is_found : JobRecord → List JobRecord → Bool
is_found job jobs = list_any (λ (waiting : JobRecord). awaits waiting job) jobs

idle-waiting : (waiting job : JobRecord) → is_pending waiting.state ≡ false → awaits waiting job ≡ false
idle-waiting waiting job idle = rw idle refl

pub awaited-without_others : (jobs : List JobRecord) (goes : JobRecord → Bool) (job : JobRecord)
    → ((one : JobRecord) → goes one ≡ true → is_pending one.state ≡ false)
    → is_awaited (filter (λ one. not (goes one)) jobs) job ≡ is_awaited jobs job
unfolding is_awaited
awaited-without_others [] goes job others = refl
awaited-without_others (one ∷ jobs) goes job others =
    by (goes one) (others one) (awaited-without_others jobs goes job others)
  where
    by : (b : Bool) → (b ≡ true → is_pending one.state ≡ false)
        → is_found job (filter (λ other. not (goes other)) jobs) ≡ is_found job jobs
        → is_found job
        (cond (not b) (one ∷ filter (λ other. not (goes other)) jobs) (filter (λ other. not (goes other)) jobs))
        ≡ (awaits one job || is_found job jobs)
    by true idle rest = rest ∙ sym (ap (λ found. found || is_found job jobs) (idle-waiting one job (idle refl)))
    by false idle rest = ap (λ later. awaits one job || later) rest

-- What is added by one member of a list after the other.
or-more : (new middle old here before more : Bool) → new ≡ (middle || here) → middle ≡ (old || before)
    → more ≡ (before || here)
    → new ≡ (old || more)
or-more new middle true here before more second first both = second ∙ ap (λ found. found || here) first
or-more new middle false here before more second first both = second ∙ ap (λ found. found || here) first ∙ sym both

pub adds-more : {X : Type 0} (by : X → JobRecord → Bool) (xs : List X) (jobs : List JobRecord)
    (old middle new : Awaited) (i : ℕ) (x : X)
    → i < length xs → x ≡ get_or xs i x → AddsAwaited (λ job. list_any (λ one. by one job) (take i xs)) jobs old middle
    → AddsAwaited (by x) jobs middle new
    → AddsAwaited (λ job. list_any (λ one. by one job) (take (i + 1) xs)) jobs old new
adds-more by xs jobs old middle new i x inside is before here = record {
  each = λ k d within.
      let job = get_or jobs k d in
      let both = list_any_more (λ one. by one job) xs i x inside
      ∙ ap (λ one. list_any (λ other. by other job) (take i xs) || by one job) (sym is) in
      or-more (has_awaited new job.id job.array) (has_awaited middle job.id job.array)
      (has_awaited old job.id job.array) (by x job) (list_any (λ one. by one job) (take i xs))
      (list_any (λ one. by one job) (take (i + 1) xs)) (here.each k d within) (before.each k d within) both;
}

pub adds-all : {X : Type 0} (by : X → JobRecord → Bool) (xs : List X) (jobs : List JobRecord) (old new : Awaited)
    (i : ℕ)
    → length xs ≤ i → AddsAwaited (λ job. list_any (λ one. by one job) (take i xs)) jobs old new
    → AddsAwaited (λ job. list_any (λ one. by one job) xs) jobs old new
adds-all by xs jobs old new i long adds = rw (take_all i xs long) at adds

-- what is added to nothing is all there is
nothing-awaited : (awaited : Awaited) (id : ℕ) (array : Option ℕ) → awaited.numbers.keys ≡ [] → awaited.jobs.keys ≡ []
    → has_awaited awaited id array ≡ false
unfolding has_awaited
nothing-awaited awaited id None numbers jobs = rw (numbers, jobs) refl
nothing-awaited awaited id (Some first) numbers jobs = rw (numbers, jobs) refl

pub shows-all : (jobs : List JobRecord) (old new : Awaited) (i : ℕ) → old.numbers.keys ≡ [] → old.jobs.keys ≡ []
    → length jobs ≤ i → AddsAwaited (λ job. list_any (λ waiting. awaits waiting job) (take i jobs)) jobs old new
    → ShowsAwaited new jobs
unfolding is_awaited
shows-all jobs old new i numbers tasks long adds = record {
  each = λ k d inside.
      let job = get_or jobs k d in
      (adds-all awaits jobs jobs old new i long adds).each k d inside
      ∙ ap (λ found. found || list_any (λ waiting. awaits waiting job) jobs)
      (nothing-awaited old job.id job.array numbers tasks);
}

-- Where none is found before a place and none from another on, all that are found lie between.
filter-none : {X : Type 0} (test : X → Bool) (xs : List X) → All (λ x. test x ≡ false) xs → filter test xs ≡ []
filter-none test [] none = refl
filter-none test (x ∷ xs) none =
    rw (All-head (λ y. test y ≡ false) x xs none) (filter-none test xs (All-tail (λ y. test y ≡ false) x xs none))

pub filter-between : {X : Type 0} (test : X → Bool) (xs : List X) (first end : ℕ) → first ≤ end
    → All (λ x. test x ≡ false) (take first xs) → All (λ x. test x ≡ false) (drop end xs)
    → filter test (slice_range xs first end) ≡ filter test xs
filter-between test xs first end below before behind =
    let middle = slice_range xs first end in
    let parts : filter test (middle ++ drop end xs) ≡ filter test middle =
    filter-append test middle (drop end xs) ∙ ap (λ rest. filter test middle ++ rest)
    (filter-none test (drop end xs) behind) ∙ append-nil (filter test middle) in
    let all : filter test xs ≡ filter test (drop first xs) =
    ap (filter test) (sym (take-append-drop first xs)) ∙ filter-append test (take first xs) (drop first xs)
    ∙ ap (λ front. front ++ filter test (drop first xs)) (filter-none test (take first xs) before) in
    sym (all ∙ ap (filter test) (drop_split xs first end below) ∙ parts)

-- where numbers rise a test finds the number of a job exactly where it finds the job
abbrev pub finds_number : (JobRecord → Bool) → List JobRecord → ℕ → Bool
finds_number test jobs id = list_any (λ (other : JobRecord). nat_eq id other.id) (filter test jobs)

number-above : (test : JobRecord → Bool) (id : ℕ) (jobs : List JobRecord)
    → All (λ (other : JobRecord). id < other.id) jobs
    → finds_number test jobs id ≡ false
number-above test id [] above = refl
number-above test id (one ∷ jobs) above =
    let apart : id < one.id = All-head (λ (other : JobRecord). id < other.id) one jobs above in
    let differs : nat_eq id one.id ≡ false = grind (arith, nat_tests) in
    by (test one) differs (number-above test id jobs (All-tail (λ (other : JobRecord). id < other.id) one jobs above))
  where
    by : (b : Bool) → nat_eq id one.id ≡ false → finds_number test jobs id ≡ false
        → list_any (λ (other : JobRecord). nat_eq id other.id) (cond b (one ∷ filter test jobs) (filter test jobs))
        ≡ false
    by true differs rest = rw differs rest
    by false differs rest = rest

pub number-found : (test : JobRecord → Bool) (jobs : List JobRecord) → HaveRisingIds jobs
    → All (λ (job : JobRecord). finds_number test jobs job.id ≡ test job) jobs
number-found test [] rising k d inside = absurd (omega (arith, inside))
number-found test (one ∷ jobs) rising zero d inside =
    by (test one) refl
    (number-above test one.id jobs (λ k d' below. rising 0 (suc k) d' (omega arith) (omega (arith, below))))
  where
    itself : nat_eq one.id one.id ≡ true
    itself = grind (arith, nat_tests)

    by : (b : Bool) → test one ≡ b → finds_number test jobs one.id ≡ false
        → list_any (λ (other : JobRecord). nat_eq one.id other.id) (cond b (one ∷ filter test jobs) (filter test jobs))
        ≡ b
    by true is rest = rw itself refl
    by false is rest = rest
number-found test (one ∷ jobs) rising (suc k) d inside =
    let later : k < length jobs = omega (arith, inside) in
    let apart : one.id < (get_or jobs k d).id = rising 0 (suc k) d (omega arith) inside in
    let differs : nat_eq (get_or jobs k d).id one.id ≡ false = grind (arith, nat_tests) in
    by (test one) differs
    (number-found test jobs
    (λ i j d' before below. rising (suc i) (suc j) d' (omega (arith, before)) (omega (arith, below))) k d later)
  where
    by : (b : Bool) → nat_eq (get_or jobs k d).id one.id ≡ false
        → finds_number test jobs (get_or jobs k d).id ≡ test (get_or jobs k d)
        → list_any (λ (other : JobRecord). nat_eq (get_or jobs k d).id other.id)
        (cond b (one ∷ filter test jobs) (filter test jobs))
        ≡ test (get_or jobs k d)
    by true differs rest = rw differs rest
    by false differs rest = rest
