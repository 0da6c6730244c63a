-- Which jobs a target doesn't name: those before the first with its number or a greater one, and those behind its
-- array.
use Rattle.std.proofs.Common.{◌≡◌, ◌≢◌, ℕ, ◌+◌, ◌<◌, ◌≤◌, Bool, true, false, List, length, take, drop, get_or, All, nat_eq, nat_lt, Option, None, Some, IfSome, HoldsAt, refl, sym, ap, ◌∙◌, arith, true≢false, inl, inr}
use Rattle.std.specs.List.{AllWithin}
use Rattle.std.specs.List.Sorted.{IsPartitionedBy}
use Rattle.std.proofs.lemmas.Bool.{cases_lt}
use Rattle.std.proofs.lemmas.Bool.Decides.{nat_tests}
use Rattle.std.proofs.lemmas.List.{get_or-drop, get_or-take, length-drop, length-take-le}
use Rattle.request_data.specs.declared.target.Target.{Target}
use Rattle.job_table.specs.declared.record.JobRecord.{JobRecord}
use Rattle.job_table.specs.Table.{HaveRisingIds}
use Rattle.job_table.specs.Targets.{AreTogether, is_named, is_named_by, is_number, is_task_of}

pub parted-ids : (jobs : List JobRecord) (id : ℕ) → HaveRisingIds jobs
    → IsPartitionedBy (λ (job : JobRecord). nat_lt job.id id) jobs
parted-ids jobs id rising i j d le within = grind (arith, nat_tests, rising i j d)

-- a job with another number that is no task of the array isn't named
other-named : (id : ℕ) (index : Option ℕ) (job : JobRecord) → job.id ≢ id → is_task_of id job ≡ false
    → is_named_by id index job ≡ false
other-named id None job other task = grind (arith, nat_tests)
other-named id (Some index) job other task = grind (arith, nat_tests)

-- an array that a number is before, and one that ends before a job
task-after : (id : ℕ) (array : Option ℕ) (number : ℕ) → IfSome array (λ first. first ≤ number) → number < id
    → is_number id array ≡ false
task-after id None number after before = refl
task-after id (Some first) number after before = grind (arith, nat_tests)

task-behind : (id : ℕ) (array ends : Option ℕ) (number : ℕ) → IfSome array (λ first. first ≤ number → ends ≡ Some first)
    → id ≤ number
    → is_number id ends ≡ false → is_number id array ≡ false
task-behind id None ends number together within apart = refl
task-behind id (Some first) ends number together within apart = by (nat_eq first id) refl
  where
    by : (b : Bool) → nat_eq first id ≡ b → nat_eq first id ≡ false
    by false is = is
    by true is =
        let first_is : first ≡ id = grind (arith, nat_tests) in
        absurd (true≢false (sym is ∙ sym (ap (is_number id) (together (omega (arith, first_is, within)))) ∙ apart))

pub named-before : (jobs : List JobRecord) (target : Target) (k : ℕ) (d : JobRecord) → AreTogether jobs
    → k < length jobs
    → (get_or jobs k d).id < target.id → is_named target (get_or jobs k d) ≡ false
named-before jobs target k d are below before =
    let job = get_or jobs k d in
    let task : is_task_of target.id job ≡ false = task-after target.id job.array job.id (are.after k d below) before in
    other-named target.id target.index job (λ is. omega (arith, is, before)) task

-- the number and the array of a job that a number alone doesn't name
unnamed : (id : ℕ) (job : JobRecord) → is_named_by id None job ≡ false → (job.id ≢ id) × (is_task_of id job ≡ false)
unnamed id job not = grind (arith, nat_tests)

pub named-behind : (jobs : List JobRecord) (target : Target) (end k : ℕ) (d : JobRecord) → HaveRisingIds jobs
    → AreTogether jobs
    → is_named_by target.id None (get_or jobs end d) ≡ false → target.id ≤ (get_or jobs end d).id
    → end ≤ k → k < length jobs → is_named target (get_or jobs k d) ≡ false
named-behind jobs target end k d rising are not within after below = elim (cases_lt end k) [
  | inl later ↦
      let last = get_or jobs end d in
      let job = get_or jobs k d in
      let above = rising end k d later below in
      let apart = unnamed target.id last not in
      let task : is_task_of target.id job ≡ false =
      task-behind target.id job.array last.array last.id (are.together end k d later below) within apart.1 in
      other-named target.id target.index job (λ is. omega (arith, is, above, within)) task
  | inr same ↦
      let is : end ≡ k = omega (arith, same, after) in
      let apart = unnamed target.id (get_or jobs end d) not in
      rw (sym is) (other-named target.id target.index (get_or jobs end d) apart.0 apart.1)
]

pub unnamed-before : (jobs : List JobRecord) (target : Target) (first : ℕ) → AreTogether jobs → first ≤ length jobs
    → AllWithin (λ (job : JobRecord). nat_lt job.id target.id ≡ true) jobs 0 first
    → All (λ job. is_named target job ≡ false) (take first jobs)
unnamed-before jobs target first are within below k d inside =
    let before : k < first = omega (arith, length-take-le first jobs within, inside) in
    let less : (get_or jobs k d).id < target.id = grind (arith, nat_tests, below k d (omega arith) before) in
    rw (get_or-take first jobs k d before) (named-before jobs target k d are (omega (arith, before, within)) less)

pub unnamed-behind : (jobs : List JobRecord) (target : Target) (first count : ℕ) → HaveRisingIds jobs → AreTogether jobs
    → AllWithin (λ (job : JobRecord). nat_lt job.id target.id ≡ false) jobs first (length jobs)
    → (count < length (drop first jobs)
    → HoldsAt (λ job. is_named_by target.id None job ≡ false) (drop first jobs) count)
    → All (λ job. is_named target job ≡ false) (drop (first + count) jobs)
unnamed-behind jobs target first count rising are above ends k d inside =
    let end : ℕ = first + count in
    let long : end + k < length jobs = omega (arith, length-drop (first + count) jobs, inside) in
    let not : is_named_by target.id None (get_or jobs (first + count) d) ≡ false =
    rw (get_or-drop first jobs count d) at (ends (omega (arith, length-drop first jobs, long)) d) in
    let least : target.id ≤ (get_or jobs (first + count) d).id =
    grind (arith, nat_tests, above (first + count) d (omega arith) (omega (arith, long))) in
    rw (get_or-drop (first + count) jobs k d)
    (named-behind jobs target (first + count) (first + count + k) d rising are not least (omega arith) long)
