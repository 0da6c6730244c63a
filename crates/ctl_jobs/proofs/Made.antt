-- The jobs that a submission makes.
use Rattle.std.proofs.Common.{◌≡◌, ℕ, zero, suc, ◌+◌, ◌<◌, ◌≤◌, ◌∙◌, List, length, map, get_or, All, AllPairs, Option, Some, None, refl, ap, arith, zero-add}
use Rattle.std.specs.Prelude.{IfSome}
use Rattle.std.specs.List.{enumerate_from}
use Rattle.std.proofs.lemmas.List.{get_or-map, length-map}
use Rattle.std.proofs.lemmas.List.FromFn.{get_or-enumerate_from, length-enumerate_from}
use Rattle.plain_data.specs.declared.array.ArraySpec.{ArraySpec}
use Rattle.plain_data.specs.declared.job.JobDesc.{JobDesc}
use Rattle.job_table.specs.declared.record.JobRecord.{JobRecord}
use Rattle.ctl_state.specs.State.{State}
use Rattle.ctl_jobs.specs.Submission.{Basis, count_of_jobs, new_job, new_jobs, task}

-- as many as the submission says
pub length-new_jobs : (s : State) (moment : ℕ) (user : List ℕ) (desc : JobDesc) (basis : Basis)
    (array : Option ArraySpec) → length (new_jobs s moment user desc basis array) ≡ count_of_jobs array
unfolding new_jobs
length-new_jobs s moment user desc basis None = refl
length-new_jobs s moment user desc basis (Some array) =
    length-map (enumerate_from 0 array.indices) (task s moment user desc basis)
    ∙ length-enumerate_from 0 array.indices

-- what is made of a number at a place
numbered-at : (f : ℕ × ℕ → JobRecord) (xs : List ℕ) (k : ℕ) (d : JobRecord) → k < length xs
    → get_or (map f (enumerate_from 0 xs)) k d ≡ f (k, get_or xs k 0)
numbered-at f xs k d below =
    get_or-map f (enumerate_from 0 xs) k (0, 0) d (omega (arith, below, length-enumerate_from 0 xs))
    ∙ ap f (get_or-enumerate_from 0 xs k (0, 0) below)
    ∙ ap (λ place. f (place, get_or xs k 0)) (zero-add k)

-- What holds of a job with a number from the next one on, among as many, holds of all that are made.
pub All-new_jobs : (P : JobRecord → Type 0) (s : State) (moment : ℕ) (user : List ℕ) (desc : JobDesc) (basis : Basis)
    (array : Option ArraySpec)
    → ((id : ℕ) (of : Option ℕ) (own : Option ℕ) → s.next_id ≤ id → id < s.next_id + count_of_jobs array
    → IfSome of (λ first. first ≡ s.next_id) → P (new_job s moment user desc basis id of own))
    → All P (new_jobs s moment user desc basis array)
unfolding new_jobs
All-new_jobs P s moment user desc basis None each zero d within =
    each s.next_id None None (omega arith) (omega arith) tt
All-new_jobs P s moment user desc basis None each (suc k) d within = absurd (omega (arith, within))
All-new_jobs P s moment user desc basis (Some array) each k d within =
    let f : ℕ × ℕ → JobRecord = task s moment user desc basis in
    let here : k < length array.indices =
    omega (arith, within, length-map (enumerate_from 0 array.indices) f, length-enumerate_from 0 array.indices) in
    let own : Option ℕ = Some (get_or array.indices k 0) in
    rw (numbered-at f array.indices k d here)
    (each (s.next_id + k) (Some s.next_id) own (omega arith) (omega (arith, here)) refl)

-- What holds of two tasks of which one has the lower number holds of all that are made.
pub AllPairs-new_jobs : (R : JobRecord → JobRecord → Type 0) (s : State) (moment : ℕ) (user : List ℕ) (desc : JobDesc)
    (basis : Basis) (array : Option ArraySpec)
    → ((one other : ℕ) (own others : Option ℕ) → one < other
    → R (new_job s moment user desc basis one (Some s.next_id) own)
    (new_job s moment user desc basis other (Some s.next_id) others))
    → AllPairs R (new_jobs s moment user desc basis array)
unfolding new_jobs
AllPairs-new_jobs R s moment user desc basis None each i j d before within =
    absurd (omega (arith, before, within))
AllPairs-new_jobs R s moment user desc basis (Some array) each i j d before within =
    let f : ℕ × ℕ → JobRecord = task s moment user desc basis in
    let last : j < length array.indices =
    omega (arith, within, length-map (enumerate_from 0 array.indices) f, length-enumerate_from 0 array.indices) in
    let own : Option ℕ = Some (get_or array.indices i 0) in
    let others : Option ℕ = Some (get_or array.indices j 0) in
    rw (numbered-at f array.indices i d (omega (arith, before, last)), numbered-at f array.indices j d last)
    (each (s.next_id + i) (s.next_id + j) own others (omega (arith, before)))
