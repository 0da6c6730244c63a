-- Jobs that change one after the other and keep their numbers.
use Rattle.std.proofs.Common.{◌≡◌, ℕ, zero, suc, ◌+◌, ◌<◌, ◌≤◌, List, [], ◌∷◌, length, map, set, get_or, slice_get, Some, refl, sym, ap, ◌∙◌, arith}
use Rattle.std.specs.Map.{values_of}
use Rattle.std.proofs.lemmas.List.{drop_all, length-map}
use Rattle.std.proofs.lemmas.List.Elements.{All-nil}
use Rattle.indexmap.specs.IndexMap.{set_value_at}
use Rattle.job_table.specs.declared.record.JobRecord.{JobRecord}
use Rattle.job_table.specs.Table.{HaveRisingIds, entry_of}
use Rattle.job_table.specs.Walks.{map_at, walked}
use Rattle.job_table.proofs.Entries.{values-entries}
use Rattle.job_table.proofs.Table.{id_of, rising-same}
use Rattle.job_table.proofs.Walks.{length-walked, walked-ends, walked-goes_on}

-- the member at a place, written
pub set-map_at : {X : Type 0} (f : X → X) (place : ℕ) (xs : List X) (d : X) → place < length xs
    → set xs place (f (get_or xs place d)) ≡ map_at place f xs
set-map_at f place [] d inside = absurd (omega (arith, inside))
set-map_at f zero (x ∷ xs) d inside = refl
set-map_at f (suc place) (x ∷ xs) d inside = ap (λ rest. x ∷ rest) (set-map_at f place xs d (omega (arith, inside)))

module _ (f : JobRecord → JobRecord) (keeps : (job : JobRecord) → (f job).id ≡ job.id) where
  at-entries : (place : ℕ) (jobs : List JobRecord) (old : JobRecord) → slice_get jobs place ≡ Some old
      → set_value_at (map entry_of jobs) place (f old) ≡ map entry_of (map_at place f jobs)
  at-entries place [] old at = refl
  at-entries zero (job ∷ jobs) old at =
      let is : job ≡ old = cc in
      rw (sym is) (ap (λ id. (id, f job) ∷ map entry_of jobs) (sym (keeps job)))
  at-entries (suc place) (job ∷ jobs) old at = ap (λ rest. entry_of job ∷ rest) (at-entries place jobs old at)

  -- one more of them
  pub more-entries : (place : ℕ) (jobs : List JobRecord) (entries : List (ℕ × JobRecord)) (old : JobRecord)
      → place < length jobs → entries ≡ map entry_of (walked f place jobs)
      → slice_get (values_of entries) place ≡ Some old
      → set_value_at entries place (f old) ≡ map entry_of (walked f (place + 1) jobs)
  more-entries place jobs entries old inside are at =
      let there : slice_get (walked f place jobs) place ≡ Some old =
      ap (λ all. slice_get all place) (sym (ap values_of are ∙ values-entries (walked f place jobs))) ∙ at in
      ap (λ es. set_value_at es place (f old)) are
      ∙ at-entries place (walked f place jobs) old there
      ∙ ap (map entry_of) (walked-goes_on f place jobs inside)

  ids-map : (jobs : List JobRecord) → map id_of (map f jobs) ≡ map id_of jobs
  ids-map [] = refl
  ids-map (job ∷ jobs) = ap (λ id. id ∷ map id_of (map f jobs)) (keeps job) ∙ ap (λ ids. job.id ∷ ids) (ids-map jobs)

  -- and so their numbers rise as they did
  pub rising-map : (jobs : List JobRecord) → HaveRisingIds jobs → HaveRisingIds (map f jobs)
  rising-map jobs rising = rising-same (map f jobs) jobs (ids-map jobs) rising

  -- all of them
  pub all-entries : (place : ℕ) (jobs : List JobRecord) → length jobs ≤ place
      → map entry_of (walked f place jobs) ≡ map entry_of (map f jobs)
  all-entries place jobs past =
      ap (map entry_of) (walked-ends f place jobs (rw (drop_all place jobs past) (All-nil (λ job. f job ≡ job))))

  -- as many as before
  pub long-entries : (place : ℕ) (jobs : List JobRecord) (entries : List (ℕ × JobRecord))
      → entries ≡ map entry_of (walked f place jobs) → length entries ≡ length jobs
  long-entries place jobs entries are =
      ap length are ∙ length-map (walked f place jobs) entry_of ∙ length-walked f place jobs
