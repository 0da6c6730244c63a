-- Jobs with lower numbers, and whether jobs may wait for such ones.
use Rattle.std.proofs.Common.{◌≡◌, ℕ, ◌+◌, ◌<◌, Bool, true, false, ◌&&◌, ◌||◌, cond, nat_eq, nat_lt, List, [], ◌∷◌, take, drop, length, get_or, All, refl, sym, ap, ◌∙◌, arith, inl, inr}
use Rattle.std.specs.List.{AllWithin, filter, list_any}
use Rattle.std.specs.List.Sorted.{IsPartitionedBy}
use Rattle.std.proofs.lemmas.Bool.Decides.{nat_tests}
use Rattle.std.proofs.lemmas.Bool.{cases_lt}
use Rattle.std.proofs.lemmas.List.{get_or-drop, get_or-take, get_or_default, length-drop, length-take-le, take-append-drop}
use Rattle.std.proofs.lemmas.List.Elements.{All-head, All-tail}
use Rattle.std.proofs.lemmas.List.Folds.{list_any-append, list_any_more, list_any_none}
use Rattle.list_lemmas.proofs.Elements.{any-none}
use Rattle.job_table.specs.declared.record.JobRecord.{JobRecord}
use Rattle.job_table.specs.Behind.{NoneWaitsBehind, is_alike, one_waits_behind, waits_behind}
use Rattle.job_table.specs.Table.{HaveRisingIds}
use Rattle.job_table.specs.Standing.{is_before}
use Rattle.job_table.proofs.Awaiting.{finds_number}

pub parted-ids : (jobs : List JobRecord) (id : ℕ) → HaveRisingIds jobs
    → IsPartitionedBy (λ (job : JobRecord). nat_lt job.id id) jobs
parted-ids jobs id rising i j d le within = grind (arith, nat_tests, rising i j d)

-- none of those from a place on is before the job
none-behind : (own : JobRecord) (jobs : List JobRecord) (count : ℕ)
    → AllWithin (λ (job : JobRecord). nat_lt job.id own.id ≡ false) jobs count (length jobs)
    → All (λ job. is_before own job ≡ false) (drop count jobs)
none-behind own jobs count above k d inside =
    let later : count + k < length jobs = omega (arith, length-drop count jobs, inside) in
    let not : nat_lt (get_or jobs (count + k) d).id own.id ≡ false = above (count + k) d (omega arith) later in
    rw (get_or-drop count jobs k d, not) refl

pub any-before : (own : JobRecord) (jobs : List JobRecord) (count : ℕ)
    → AllWithin (λ (job : JobRecord). nat_lt job.id own.id ≡ false) jobs count (length jobs)
    → list_any (is_before own) (take count jobs) ≡ list_any (is_before own) jobs
any-before own jobs count above =
    let front = list_any (is_before own) (take count jobs) in
    let all : list_any (is_before own) jobs ≡ (front || list_any (is_before own) (drop count jobs)) =
    ap (list_any (is_before own)) (sym (take-append-drop count jobs))
    ∙ list_any-append (is_before own) (take count jobs) (drop count jobs) in
    let none = list_any_none (is_before own) (drop count jobs) (none-behind own jobs count above) in
    sym (all ∙ ap (λ found. front || found) none ∙ or-false front)
  where
    or-false : (b : Bool) → (b || false) ≡ b
    or-false true = refl
    or-false false = refl

-- Those of a job's user and name that come before it have lower numbers, and are all that are before it.
any-alike : {X : Type 0} (f g : X → Bool) (xs : List X) → All (λ x. f x ≡ g x) xs → list_any f xs ≡ list_any g xs
any-alike f g [] same = refl
any-alike f g (x ∷ xs) same =
    let one : f x ≡ g x = All-head (λ y. f y ≡ g y) x xs same in
    let rest = any-alike f g xs (All-tail (λ y. f y ≡ g y) x xs same) in
    cc

pub alike-before : (jobs : List JobRecord) (k : ℕ) (own : JobRecord) → HaveRisingIds jobs → k < length jobs
    → own ≡ get_or jobs k own
    → list_any (is_alike own.user own.terms.name) (take k jobs) ≡ list_any (is_before own) jobs
alike-before jobs k own rising inside is =
    sym (any-alike (is_before own) (is_alike own.user own.terms.name) (take k jobs) lower) ∙ any-before own jobs k above
  where
    at : (d : JobRecord) → get_or jobs k d ≡ own
    at d = get_or_default jobs k d own inside ∙ sym is

    lower : All (λ job. is_before own job ≡ is_alike own.user own.terms.name job) (take k jobs)
    lower i d within =
        let before : i < k = omega (arith, length-take-le k jobs (omega (arith, inside)), within) in
        let less : (get_or jobs i d).id < own.id = rw (at d) at (rising i k d before inside) in
        let is_lower : nat_lt (get_or jobs i d).id own.id ≡ true = grind (arith, nat_tests) in
        rw (get_or-take k jobs i d before, is_lower) refl

    above : AllWithin (λ (job : JobRecord). nat_lt job.id own.id ≡ false) jobs k (length jobs)
    above i d from within =
        elim (cases_lt k i) [
          | inl later ↦
              let less : own.id < (get_or jobs i d).id = rw (at d) at (rising k i d later within) in
              grind (arith, nat_tests)
          | inr same ↦
              let here : k ≡ i = omega (arith, same, from) in
              rw (sym here, at d) (grind (arith, nat_tests))
        ]

pub alike-more : (user name : List ℕ) (jobs : List JobRecord) (k : ℕ) (job : JobRecord) → k < length jobs
    → job ≡ get_or jobs k job
    → list_any (is_alike user name) (take (k + 1) jobs)
    ≡ (list_any (is_alike user name) (take k jobs) || is_alike user name job)
alike-more user name jobs k job inside is =
    list_any_more (is_alike user name) jobs k job inside
    ∙ ap (λ one. list_any (is_alike user name) (take k jobs) || is_alike user name one) (sym is)

-- one more number among those that a test finds
any-filtered : (test by : JobRecord → Bool) (jobs : List JobRecord)
    → list_any by (filter test jobs) ≡ list_any (λ job. test job && by job) jobs
any-filtered test by [] = refl
any-filtered test by (job ∷ jobs) = on (test job) (any-filtered test by jobs)
  where
    on : (b : Bool) → list_any by (filter test jobs) ≡ list_any (λ one. test one && by one) jobs
        → list_any by (cond b (job ∷ filter test jobs) (filter test jobs))
        ≡ ((b && by job) || list_any (λ one. test one && by one) jobs)
    on true rest = ap (λ later. by job || later) rest
    on false rest = rest

pub finds-more : (test : JobRecord → Bool) (jobs : List JobRecord) (k number : ℕ) (job : JobRecord) → k < length jobs
    → job ≡ get_or jobs k job
    → finds_number test (take (k + 1) jobs) number
    ≡ (finds_number test (take k jobs) number || (test job && nat_eq number job.id))
finds-more test jobs k number job inside is =
    let by : JobRecord → Bool = λ other. nat_eq number other.id in
    any-filtered test by (take (k + 1) jobs)
    ∙ list_any_more (λ one. test one && by one) jobs k job inside
    ∙ ap (λ one. list_any (λ other. test other && by other) (take k jobs) || (test one && by one)) (sym is)
    ∙ ap (λ found. found || (test job && by job)) (sym (any-filtered test by (take k jobs)))

-- where none may wait none does, and else where none is found
pub none-left : (may_wait : Bool) (jobs : List JobRecord) → (may_wait ≡ false → NoneWaitsBehind jobs)
    → (may_wait && one_waits_behind jobs) ≡ false
    → NoneWaitsBehind jobs
none-left true jobs known none = any-none (λ (job : JobRecord). waits_behind job.terms) jobs none
none-left false jobs known none = known refl
