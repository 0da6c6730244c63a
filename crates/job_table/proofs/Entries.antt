-- The entries of the table, each a record under its number, by the list of the records.
use Rattle.std.proofs.Common.{◌≡◌, ℕ, zero, suc, ◌<◌, Bool, true, false, cond, List, [], ◌∷◌, ◌++◌, length, map, filter, position, slice_get, All, HoldsAt, Option, Some, None, is_some, nat_eq, true≢false, refl, ap, sym, ◌∙◌, arith}
use Rattle.std.specs.Map.{keys_of, lookup, values_of}
use Rattle.std.proofs.lemmas.Bool.Decides.{nat_tests}
use Rattle.std.proofs.lemmas.List.{append_assoc, get_or-map, length-map}
use Rattle.std.proofs.lemmas.List.Quantifiers.{position-Some}
use Rattle.std.proofs.lemmas.List.Elements.{All-head, All-tail}
use Rattle.indexmap.specs.IndexMap.{insert_entry, set_value_at}
use Rattle.job_table.specs.declared.record.JobRecord.{JobRecord}
use Rattle.job_table.specs.declared.change.Change.{Change}
use Rattle.job_table.specs.Changes.{changed}
use Rattle.job_table.specs.Table.{HaveRisingIds, IsTable, changed_if, entry_of, has_id, job_with, put_back_if}
use Rattle.job_table.specs.Walks.{map_at}
use Rattle.job_table.proofs.Table.{changed-id, id_of, pairs-before, pairs-front}

-- the records of the entries, and their numbers
pub values-entries : (jobs : List JobRecord) → values_of (map entry_of jobs) ≡ jobs
values-entries [] = refl
values-entries (job ∷ jobs) = ap (λ rest. job ∷ rest) (values-entries jobs)

pub keys-entries : (jobs : List JobRecord) → keys_of (map entry_of jobs) ≡ map id_of jobs
keys-entries [] = refl
keys-entries (job ∷ jobs) = ap (λ rest. job.id ∷ rest) (keys-entries jobs)

pub table-entries : (entries : List (ℕ × JobRecord)) (jobs : List JobRecord) → entries ≡ map entry_of jobs
    → HaveRisingIds jobs → IsTable entries
table-entries entries jobs are rising =
    let same : values_of entries ≡ jobs = ap values_of are ∙ values-entries jobs in
    record { under_ids = rw same are; rising = rw same rising }

-- what is found under a number
lookup-entries : (id : ℕ) (jobs : List JobRecord)
    → lookup (λ other. nat_eq id other) (map entry_of jobs) ≡ job_with id jobs
lookup-entries id [] = refl
lookup-entries id (job ∷ jobs) = let rest = lookup-entries id jobs in grind (arith, nat_tests)

pub lookup-table : (id : ℕ) (entries : List (ℕ × JobRecord)) → IsTable entries
    → lookup (λ other. nat_eq id other) entries ≡ job_with id (values_of entries)
lookup-table id entries table = ap (lookup (λ other. nat_eq id other)) table.under_ids
    ∙ lookup-entries id (values_of entries)

-- where a number is found
pub place-table : (id place : ℕ) (entries : List (ℕ × JobRecord)) → IsTable entries
    → position (nat_eq id) (keys_of entries) ≡ Some place
    → (place < length (values_of entries)) × HoldsAt (λ (job : JobRecord). job.id ≡ id) (values_of entries) place
place-table id place entries table found =
    let jobs = values_of entries in
    let keys : keys_of entries ≡ map id_of jobs = ap keys_of table.under_ids ∙ keys-entries jobs in
    let at : position (nat_eq id) (map id_of jobs) ≡ Some place = rw (sym keys) found in
    let first = position-Some (nat_eq id) (map id_of jobs) place 0 at in
    let inside : place < length jobs = omega (arith, first.0, length-map jobs id_of) in
    let same : HoldsAt (λ (job : JobRecord). nat_eq id job.id ≡ true) jobs place =
    λ d. rw (get_or-map id_of jobs place d 0 inside) at first.1 in
    (inside, λ d. grind (arith, nat_tests, same d))

-- where no job has a number none is changed
pub changed-none : (id : ℕ) (change : Change) (jobs : List JobRecord) → job_with id jobs ≡ None
    → map (changed_if id change) jobs ≡ jobs
changed-none id change [] none = refl
changed-none id change (job ∷ jobs) none = by (has_id id job) (λ later. changed-none id change jobs later) none
  where
    by : (b : Bool) → (job_with id jobs ≡ None → map (changed_if id change) jobs ≡ jobs)
        → cond b (Some job) (job_with id jobs) ≡ None
        → cond b (changed change job) job ∷ map (changed_if id change) jobs ≡ job ∷ jobs
    by true rest some = cc
    by false rest later = ap (λ same. job ∷ same) (rest later)

pub none-where : {X : Type 0} (o : Option X) → false ≡ is_some o → o ≡ None
none-where None is = refl
none-where (Some x) is = absurd (true≢false (sym is))

-- a record that is put in behind all others
insert-entries : (job : JobRecord) (jobs : List JobRecord) → All (λ (one : JobRecord). one.id < job.id) jobs
    → insert_entry nat_eq (map entry_of jobs) job.id job ≡ map entry_of (jobs ++ job ∷ [])
insert-entries job [] above = refl
insert-entries job (one ∷ jobs) above =
    let rest = insert-entries job jobs (All-tail (λ (other : JobRecord). other.id < job.id) one jobs above) in
    let less : one.id < job.id = All-head (λ (other : JobRecord). other.id < job.id) one jobs above in
    let apart : nat_eq job.id one.id ≡ false = grind (arith, nat_tests) in
    rw apart (ap (λ entries. entry_of one ∷ entries) rest)

pub insert-table : (entries : List (ℕ × JobRecord)) (job : JobRecord) (jobs : List JobRecord)
    → entries ≡ map entry_of jobs
    → All (λ (one : JobRecord). one.id < job.id) jobs
    → insert_entry nat_eq entries job.id job ≡ map entry_of (jobs ++ job ∷ [])
insert-table entries job jobs are above = rw are (insert-entries job jobs above)

-- a record that is put in where those behind it are still to come
pub above-done : (done : List JobRecord) (job : JobRecord) (rest items whole : List JobRecord) → items ≡ job ∷ rest
    → done ++ items ≡ whole
    → HaveRisingIds whole → All (λ (one : JobRecord). one.id < job.id) done
above-done done job rest items whole is all rising =
    let both : whole ≡ done ++ job ∷ rest = sym all ∙ ap (λ jobs. done ++ jobs) is in
    let rises : HaveRisingIds (done ++ job ∷ rest) = rw both at rising in
    pairs-before (λ (one other : JobRecord). one.id < other.id) done job rest rises

pub more-done : (entries : List (ℕ × JobRecord)) (done : List JobRecord) (job : JobRecord)
    (rest items whole : List JobRecord)
    → entries ≡ map entry_of (done ++ job ∷ []) → items ≡ job ∷ rest → done ++ items ≡ whole → HaveRisingIds whole
    → IsTable entries × (values_of entries ++ rest ≡ whole)
more-done entries done job rest items whole are is all rising =
    let both : (done ++ job ∷ []) ++ rest ≡ whole = append_assoc done (job ∷ []) rest
    ∙ ap (λ jobs. done ++ jobs) (sym is) ∙ all in
    let rises : HaveRisingIds ((done ++ job ∷ []) ++ rest) = rw both rising in
    let front = pairs-front (λ (one other : JobRecord). one.id < other.id) (done ++ job ∷ []) rest rises in
    let same : values_of entries ≡ done ++ job ∷ [] = ap values_of are ∙ values-entries (done ++ job ∷ []) in
    (table-entries entries (done ++ job ∷ []) are front, ap (λ jobs. jobs ++ rest) same ∙ both)

-- a record that is changed at a place
change-entries : (change : Change) (place : ℕ) (jobs : List JobRecord) (old : JobRecord)
    → slice_get jobs place ≡ Some old
    → set_value_at (map entry_of jobs) place (changed change old) ≡ map entry_of (map_at place (changed change) jobs)
change-entries change place [] old at = refl
change-entries change zero (job ∷ jobs) old at =
    let is : job ≡ old = cc in
    rw (sym is) (ap (λ id. (id, changed change job) ∷ map entry_of jobs) (sym (changed-id change job)))
change-entries change (suc place) (job ∷ jobs) old at =
    ap (λ rest. entry_of job ∷ rest) (change-entries change place jobs old at)

pub change-table : (change : Change) (place : ℕ) (entries : List (ℕ × JobRecord)) (old : JobRecord) → IsTable entries
    → slice_get (values_of entries) place ≡ Some old
    → set_value_at entries place (changed change old) ≡ map entry_of (map_at place (changed change) (values_of entries))
change-table change place entries old table at =
    ap (λ es. set_value_at es place (changed change old)) table.under_ids
    ∙ change-entries change place (values_of entries) old at

-- the records that are kept
filter-entries : (keep : JobRecord → Bool) (jobs : List JobRecord)
    → filter (λ entry. keep entry.1) (map entry_of jobs) ≡ map entry_of (filter keep jobs)
filter-entries keep [] = refl
filter-entries keep (job ∷ jobs) = by (keep job) (filter-entries keep jobs)
  where
    by : (b : Bool) → filter (λ entry. keep entry.1) (map entry_of jobs) ≡ map entry_of (filter keep jobs)
        → cond b (entry_of job ∷ filter (λ entry. keep entry.1) (map entry_of jobs))
        (filter (λ entry. keep entry.1) (map entry_of jobs))
        ≡ map entry_of (cond b (job ∷ filter keep jobs) (filter keep jobs))
    by true rest = ap (λ entries. entry_of job ∷ entries) rest
    by false rest = rest

pub filter-table : (keep : JobRecord → Bool) (entries : List (ℕ × JobRecord)) → IsTable entries
    → filter (λ entry. keep entry.1) entries ≡ map entry_of (filter keep (values_of entries))
filter-table keep entries table = ap (filter (λ entry. keep entry.1)) table.under_ids
    ∙ filter-entries keep (values_of entries)

-- a record that is put back at a place, or nowhere
put-entries : (one : JobRecord) (place : ℕ) (jobs : List JobRecord)
    → HoldsAt (λ (job : JobRecord). job.id ≡ one.id) jobs place
    → set_value_at (map entry_of jobs) place one ≡ map entry_of (map_at place (λ job. one) jobs)
put-entries one place [] same = refl
put-entries one zero (job ∷ jobs) same = ap (λ id. (id, one) ∷ map entry_of jobs) (same job)
put-entries one (suc place) (job ∷ jobs) same = ap (λ rest. entry_of job ∷ rest) (put-entries one place jobs same)

pub put-table : (one : JobRecord) (place : ℕ) (entries : List (ℕ × JobRecord)) → IsTable entries
    → HoldsAt (λ (job : JobRecord). job.id ≡ one.id) (values_of entries) place
    → set_value_at entries place one ≡ map entry_of (map_at place (λ job. one) (values_of entries))
put-table one place entries table same =
    ap (λ es. set_value_at es place one) table.under_ids ∙ put-entries one place (values_of entries) same

pub put-none : (one : JobRecord) (jobs : List JobRecord) → job_with one.id jobs ≡ None
    → map (put_back_if one) jobs ≡ jobs
put-none one [] none = refl
put-none one (job ∷ jobs) none = by (has_id one.id job) (λ later. put-none one jobs later) none
  where
    by : (b : Bool) → (job_with one.id jobs ≡ None → map (put_back_if one) jobs ≡ jobs)
        → cond b (Some job) (job_with one.id jobs) ≡ None
        → cond b one job ∷ map (put_back_if one) jobs ≡ job ∷ jobs
    by true rest some = cc
    by false rest later = ap (λ same. job ∷ same) (rest later)
