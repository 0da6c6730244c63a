-- The table of jobs: what stays in the order of the numbers, and which job has a number.
use Rattle.std.proofs.Common.{◌≡◌, ◌≢◌, ℕ, zero, suc, ◌<◌, Bool, true, false, cond, List, [], ◌∷◌, ◌++◌, length, map, get_or, All, AllPairs, HoldsAt, nat_eq, refl, ap, sym, ◌∙◌, arith}
use Rattle.std.proofs.lemmas.Bool.Decides.{nat_tests}
use Rattle.std.proofs.lemmas.List.{get_or-map, get_or_append_left, get_or_at, length-append, length-map}
use Rattle.std.proofs.lemmas.List.Elements.{All-append, All-head, All-tail}
use Rattle.std.proofs.lemmas.List.Kept.{AllPairs-cons}
use Rattle.request_data.specs.declared.state.JobState.{JobState}
use Rattle.request_data.specs.declared.state.JobState.TheVariants.{Pending, Running, Completing, Ended}
use Rattle.request_data.specs.declared.state.Final.TheVariants as finals
use Rattle.job_table.specs.declared.record.JobRecord.{JobRecord}
use Rattle.job_table.specs.declared.record.Part.{Part}
use Rattle.job_table.specs.declared.change.Change.{Change}
use Rattle.job_table.specs.declared.change.Change.TheVariants.{Start, Leave, CancelPending, CancelRequeue, DropPart, SetHold, SetLimit, SetNice}
use Rattle.job_table.specs.Changes.{changed, not_again, off_node, parts_off, with_left}
use Rattle.job_table.specs.JobStates.{is_pending, is_running}
use Rattle.job_table.specs.Table.{HaveRisingIds, put_back_if}
use Rattle.job_table.specs.Walks.{map_at}
use Rattle.job_table.proofs.Walks.{map-same}
use Rattle.list_lemmas.proofs.Pairs.{pairs-head, pairs-tail}

pub pairs-append : {X : Type 0} (R : X → X → Type 0) (xs ys : List X) → AllPairs R xs → AllPairs R ys
    → All (λ x. All (R x) ys) xs → AllPairs R (xs ++ ys)
pairs-append R [] ys one two across = two
pairs-append R (x ∷ xs) ys one two across =
    AllPairs-cons R x (xs ++ ys)
    (All-append (R x) xs ys (pairs-head R x xs one) (All-head (λ y. All (R y) ys) x xs across))
    (pairs-append R xs ys (pairs-tail R x xs one) two (All-tail (λ y. All (R y) ys) x xs across))

-- what holds of each two of a list holds of one of them and each before it
pub pairs-before : {X : Type 0} (R : X → X → Type 0) (xs : List X) (y : X) (ys : List X) → AllPairs R (xs ++ y ∷ ys)
    → All (λ x. R x y) xs
pairs-before R xs y ys pairs k d below =
    rw (get_or_append_left xs (y ∷ ys) d k below, get_or_at xs y ys d (length xs) refl)
    at (pairs k (length xs) d below (omega (arith, length-append xs (y ∷ ys))))

pub pairs-front : {X : Type 0} (R : X → X → Type 0) (xs ys : List X) → AllPairs R (xs ++ ys) → AllPairs R xs
pairs-front R xs ys pairs i j d before below =
    rw (get_or_append_left xs ys d i (omega (arith, before, below)), get_or_append_left xs ys d j below)
    at (pairs i j d before (omega (arith, below, length-append xs ys)))

-- the member at a place of a rising list is the only one with its number
module _ {X : Type 0} (number : X → ℕ) (change : X → X) (id : ℕ) where
  abbrev pub by_number : X → X
  by_number x = cond (nat_eq (number x) id) (change x) x

  by_number-other : (x : X) → number x ≢ id → by_number x ≡ x
  by_number-other x other = grind (arith, nat_tests)

  by_number-same : (x : X) → number x ≡ id → by_number x ≡ change x
  by_number-same x same = grind (arith, nat_tests)

  pub map-by_number-none : (xs : List X) → All (λ x. number x ≢ id) xs → map by_number xs ≡ xs
  map-by_number-none xs none = map-same by_number xs (λ k d below. by_number-other (get_or xs k d) (none k d below))

  pub map_at-by_number : (place : ℕ) (xs : List X) → AllPairs (λ one other. number one < number other) xs
      → HoldsAt (λ x. number x ≡ id) xs place
      → place < length xs → map_at place change xs ≡ map by_number xs
  map_at-by_number place [] rising here inside = refl
  map_at-by_number zero (x ∷ xs) rising here inside =
      let same : by_number x ≡ change x = by_number-same x (here x) in
      let above = pairs-head (λ one other. number one < number other) x xs rising in
      let rest : map by_number xs ≡ xs =
      map-by_number-none xs (λ k d below is. omega (arith, is, here x, above k d below)) in
      cc
  map_at-by_number (suc place) (x ∷ xs) rising here inside =
      let later = pairs-head (λ one other. number one < number other) x xs rising in
      let above : number x < id = omega (arith, here x, later place x (omega (arith, inside))) in
      let same : by_number x ≡ x = by_number-other x (λ is. omega (arith, is, above)) in
      let rises = pairs-tail (λ one other. number one < number other) x xs rising in
      let rest = map_at-by_number place xs rises here (omega (arith, inside)) in
      cc

-- a change leaves a job's number
off_node-id : (now node : ℕ) (job : JobRecord) (state : JobState) → (off_node now node job state).id ≡ job.id
off_node-id now node job Pending = refl
off_node-id now node job Running = refl
off_node-id now node job (Completing final) = by (parts_off node job.parts)
  where
    by : (parts : List Part) → (with_left now final parts job).id ≡ job.id
    by [] = refl
    by (part ∷ later) = refl
off_node-id now node job (Ended final) = refl

not_again-id : (job : JobRecord) (state : JobState) → (not_again job state).id ≡ job.id
not_again-id job Pending = refl
not_again-id job Running = refl
not_again-id job (Completing finals.Requeue) = refl
not_again-id job (Completing final) = refl
not_again-id job (Ended final) = refl

cond-id : (b : Bool) (one other : JobRecord) → one.id ≡ other.id → (cond b one other).id ≡ other.id
cond-id true one other same = same
cond-id false one other same = refl

pub changed-id : (change : Change) (job : JobRecord) → (changed change job).id ≡ job.id
changed-id (Start now parts nodes) job = refl
changed-id (Leave final now exit) job = cond-id (is_running job.state) _ job refl
changed-id (CancelPending now) job = cond-id (is_pending job.state) _ job refl
changed-id CancelRequeue job = not_again-id job job.state
changed-id (DropPart node now) job = off_node-id now node job job.state
changed-id (SetHold by) job = refl
changed-id (SetLimit limit) job = refl
changed-id (SetNice nice) job = refl

-- so the numbers rise as they did
abbrev pub id_of : JobRecord → ℕ
id_of job = job.id

pub ids-map_at : (change : Change) (place : ℕ) (jobs : List JobRecord)
    → map id_of (map_at place (changed change) jobs) ≡ map id_of jobs
ids-map_at change place [] = refl
ids-map_at change zero (job ∷ jobs) = ap (λ id. id ∷ map id_of jobs) (changed-id change job)
ids-map_at change (suc place) (job ∷ jobs) = ap (λ ids. job.id ∷ ids) (ids-map_at change place jobs)

pub rising-same : (jobs were : List JobRecord) → map id_of jobs ≡ map id_of were → HaveRisingIds were → HaveRisingIds jobs
rising-same jobs were same rising i j d before below =
    let earlier : i < length jobs = omega (arith, before, below) in
    let first : (get_or jobs i d).id ≡ (get_or were i d).id = at i d earlier in
    let second : (get_or jobs j d).id ≡ (get_or were j d).id = at j d below in
    omega (arith, first, second, rising i j d before (omega (arith, long, below)))
  where
    long : length jobs ≡ length were
    long = sym (length-map jobs id_of) ∙ ap length same ∙ length-map were id_of

    at : (k : ℕ) (d : JobRecord) → k < length jobs → (get_or jobs k d).id ≡ (get_or were k d).id
    at k d below =
        sym (get_or-map id_of jobs k d d.id below) ∙ ap (λ ids. get_or ids k d.id) same
        ∙ get_or-map id_of were k d d.id (omega (arith, long, below))

pub rising-map_at : (change : Change) (place : ℕ) (jobs : List JobRecord) → HaveRisingIds jobs
    → HaveRisingIds (map_at place (changed change) jobs)
rising-map_at change place jobs rising =
    rising-same (map_at place (changed change) jobs) jobs (ids-map_at change place jobs) rising

-- nor does a record that is put back change a number
ids-put : (one : JobRecord) (jobs : List JobRecord) → map id_of (map (put_back_if one) jobs) ≡ map id_of jobs
ids-put one [] = refl
ids-put one (job ∷ jobs) =
    let here : (put_back_if one job).id ≡ job.id = grind (arith, nat_tests) in
    let rest = ids-put one jobs in
    cc

pub rising-put : (one : JobRecord) (jobs : List JobRecord) → HaveRisingIds jobs
    → HaveRisingIds (map (put_back_if one) jobs)
rising-put one jobs rising = rising-same (map (put_back_if one) jobs) jobs (ids-put one jobs) rising
