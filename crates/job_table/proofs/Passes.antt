-- What changes nothing of what jobs wait for.
use Rattle.std.proofs.Common.{◌≡◌, ℕ, Bool, true, false, ◌||◌, not, cond, nat_eq, nat_lt, List, [], ◌∷◌, map, get_or, All, Option, None, Some, refl, sym, ap, ◌∙◌, arith, true≢false}
use Rattle.std.specs.Prelude.{if◌then◌else◌}
use Rattle.std.specs.List.{Contains, filter, list_any}
use Rattle.std.proofs.lemmas.Bool.{and_right, false_from_ne_true}
use Rattle.std.proofs.lemmas.List.Elements.{All-head, All-tail}
use Rattle.std.proofs.lemmas.List.Folds.{list_any_at}
use Rattle.plain_data.specs.declared.dependency.DepKind.{DepKind}
use Rattle.plain_data.specs.declared.dependency.DepKind.TheVariants as kinds
use Rattle.plain_data.specs.declared.dependency.DepId.{DepId}
use Rattle.plain_data.specs.declared.dependency.DepSpec.{DepSpec}
use Rattle.request_data.specs.declared.state.Final.{Final}
use Rattle.request_data.specs.declared.state.JobState.{JobState}
use Rattle.request_data.specs.declared.state.JobState.TheVariants.{Pending, Running, Completing, Ended}
use Rattle.job_table.specs.declared.record.JobRecord.{JobRecord}
use Rattle.job_table.specs.Awaiting.{awaits, is_awaited, names_by, names_in, names_job}
use Rattle.job_table.specs.JobStates.{is_ended, is_pending}
use Rattle.job_table.specs.Targets.{is_named_by}
use Rattle.job_table.specs.declared.standing.Standing.{Standing}
use Rattle.job_table.specs.declared.standing.Standing.TheVariants.{Satisfied, Waiting}
use Rattle.job_table.specs.Laws.{IsDoneWith, PassesLeaveStandings, SameForOthers}
use Rattle.job_table.specs.Standing.{all_of, at_end, by_failure, by_success, index_meant, is_before, once, one_of, standing, standing_by, standing_by_id, standing_for, standing_if, standing_in, standing_of}
use Rattle.list_lemmas.proofs.Maps.{map-same}

-- What a list shows stays where its members change so that none is found anew, and none goes that was found.
module _ {X : Type 0} (change : X → X) (goes : X → Bool) where
  abbrev pub left : List X → List X
  left xs = filter (λ x. not (goes x)) (map change xs)

  pub any-left : (test : X → Bool) (xs : List X) → All (λ x. test (change x) ≡ test x) xs
      → All (λ x. goes (change x) ≡ true → test x ≡ false) xs
      → list_any test (left xs) ≡ list_any test xs
  any-left test [] same none = refl
  any-left test (x ∷ xs) same none =
      by (goes (change x)) (All-head (λ y. test (change y) ≡ test y) x xs same)
      (All-head (λ y. goes (change y) ≡ true → test y ≡ false) x xs none)
      (any-left test xs (All-tail (λ y. test (change y) ≡ test y) x xs same)
      (All-tail (λ y. goes (change y) ≡ true → test y ≡ false) x xs none))
    where
      by : (b : Bool) → test (change x) ≡ test x → (b ≡ true → test x ≡ false)
          → list_any test (left xs) ≡ list_any test xs
          → list_any test (cond (not b) (change x ∷ left xs) (left xs)) ≡ (test x || list_any test xs)
      by true here fails rest = rest ∙ sym (ap (λ found. found || list_any test xs) (fails refl))
      by false here fails rest = cc

  pub found-left : {Y : Type 0} (f : X → Y) (test : X → Bool) (xs : List X) → All (λ x. test (change x) ≡ test x) xs
      → All (λ x. f (change x) ≡ f x) xs
      → All (λ x. goes (change x) ≡ true → test x ≡ false) xs
      → map f (filter test (left xs)) ≡ map f (filter test xs)
  found-left f test [] same value none = refl
  found-left f test (x ∷ xs) same value none =
      by (goes (change x)) (test (change x)) (test x) (All-head (λ y. test (change y) ≡ test y) x xs same)
      (All-head (λ y. f (change y) ≡ f y) x xs value)
      (All-head (λ y. goes (change y) ≡ true → test y ≡ false) x xs none)
      (found-left f test xs (All-tail (λ y. test (change y) ≡ test y) x xs same)
      (All-tail (λ y. f (change y) ≡ f y) x xs value)
      (All-tail (λ y. goes (change y) ≡ true → test y ≡ false) x xs none))
      refl
    where
      by : (b after before : Bool) → after ≡ before → f (change x) ≡ f x → (b ≡ true → before ≡ false)
          → map f (filter test (left xs)) ≡ map f (filter test xs)
          → test (change x) ≡ after
          → map f (filter test (cond (not b) (change x ∷ left xs) (left xs)))
          ≡ map f (cond before (x ∷ filter test xs) (filter test xs))
      by true after before same value fails rest is = rw (fails refl) rest
      by false true true same value fails rest is = rw is (cc)
      by false false false same value fails rest is = rw is rest
      by false true false same value fails rest is = absurd (true≢false same)
      by false false true same value fails rest is = absurd (true≢false (sym same))

-- a job that is the same for others is to them as before
waits : (judge : Final → Standing) (state : JobState) → is_ended state ≡ false → at_end judge state ≡ Waiting
waits judge Pending is = refl
waits judge Running is = refl
waits judge (Completing final) is = refl
waits judge (Ended final) is = absurd (true≢false is)

at_end-same : (judge : Final → Standing) (state after : JobState) → is_ended after ≡ is_ended state
    → (is_ended state ≡ true → after ≡ state)
    → at_end judge after ≡ at_end judge state
at_end-same judge Pending after ended final = waits judge after ended
at_end-same judge Running after ended final = waits judge after ended
at_end-same judge (Completing to) after ended final = waits judge after ended
at_end-same judge (Ended to) after ended final = ap (at_end judge) (final refl)

standing_of-same : (kind : DepKind) (job after : JobRecord) → SameForOthers job after
    → standing_of kind after ≡ standing_of kind job
standing_of-same kinds.After job after same =
    let starts = same.starts in
    let ended = same.ended in
    ap (λ number. once (not (nat_eq number 0) || is_ended after.state)) starts
    ∙ ap (λ is. once (not (nat_eq job.starts 0) || is)) ended
standing_of-same kinds.AfterAny job after same = ap once same.ended
standing_of-same kinds.AfterOk job after same = at_end-same by_success job.state after.state same.ended same.final
standing_of-same kinds.AfterNotOk job after same = at_end-same by_failure job.state after.state same.ended same.final
standing_of-same kinds.AfterCorr job after same = at_end-same by_success job.state after.state same.ended same.final
standing_of-same kinds.Singleton job after same = refl

named-same : (id : ℕ) (index : Option ℕ) (job after : JobRecord) → SameForOthers job after
    → is_named_by id index after ≡ is_named_by id index job
named-same id None job after same =
    let number = same.id in
    let array = same.array in
    cc
named-same id (Some number) job after same =
    let array : after.array ≡ job.array = same.array in
    let own : after.index ≡ job.index = same.index in
    cc

is_before-same : (own job after : JobRecord) → SameForOthers job after → is_before own after ≡ is_before own job
is_before-same own job after same =
    let number = same.id in
    let ended = same.ended in
    let user = same.user in
    let terms = same.terms in
    cc

-- what a number means to a job it names
meant-named : (kind : DepKind) (own job : JobRecord) (id : DepId)
    → is_named_by id.id (index_meant kind own id) job ≡ true
    → names_by kind job id ≡ true
meant-named kinds.AfterCorr own job id named = by own.index named
  where
    by : (index : Option ℕ) → is_named_by id.id index job ≡ true → is_named_by id.id None job ≡ true
    by None is = is
    by (Some index) is = grind (arith, is)
meant-named kinds.After own job id named = named
meant-named kinds.AfterAny own job id named = named
meant-named kinds.AfterOk own job id named = named
meant-named kinds.AfterNotOk own job id named = named
meant-named kinds.Singleton own job id named = named

-- a job that a pending one names is awaited
named-awaited : (jobs : List JobRecord) (own job : JobRecord) (spec : DepSpec) → Contains jobs own
    → is_pending own.state ≡ true
    → own.terms.dependency ≡ Some spec → names_job spec job ≡ true → is_awaited jobs job ≡ true
unfolding is_awaited
named-awaited jobs own job spec among pending waits names =
    let waiting : awaits own job ≡ true =
    rw (pending, waits) names in
    list_any_at (λ (one : JobRecord). awaits one job) jobs among.0 own among.1
    (rw among.2 waiting)

ended-before : (own job : JobRecord) → is_ended job.state ≡ true → is_before own job ≡ false
ended-before own job ended = rw ended (and_right (nat_lt job.id own.id) false refl)

module _ (jobs : List JobRecord) (change : JobRecord → JobRecord) (goes : JobRecord → Bool) (own : JobRecord)
    (spec : DepSpec) (among : Contains jobs own) (pending : is_pending own.state ≡ true)
    (waits-for : own.terms.dependency ≡ Some spec) (same : All (λ job. SameForOthers job (change job)) jobs)
    (done : All (λ job. goes (change job) ≡ true → IsDoneWith jobs job) jobs) where
  -- whom the number names the dependency names
  abbrev IsOf : DepKind → DepId → Type 0
  IsOf kind id = (job : JobRecord) → names_by kind job id ≡ true → names_job spec job ≡ true

  named-stays : (kind : DepKind) (id : DepId) → IsOf kind id
      → All (λ job. goes (change job) ≡ true → is_named_by id.id (index_meant kind own id) job ≡ false) jobs
  named-stays kind id is_of k d inside gone =
      let job = get_or jobs k d in
      let alone : is_awaited jobs job ≡ false = (done k d inside gone).1 in
      false_from_ne_true (is_named_by id.id (index_meant kind own id) job) (λ named.
      let names = is_of job (meant-named kind own job id named) in
      true≢false (sym (named-awaited jobs own job spec among pending waits-for names) ∙ alone))

  by_id-same : (kind : DepKind) (id : DepId) → IsOf kind id
      → standing_by_id (left change goes jobs) own kind id ≡ standing_by_id jobs own kind id
  by_id-same kind id is_of =
      let named = is_named_by id.id (index_meant kind own id) in
      ap all_of (found-left change goes (standing_of kind) named jobs
      (λ k d inside.
      named-same id.id (index_meant kind own id) (get_or jobs k d) (change (get_or jobs k d)) (same k d inside))
      (λ k d inside. standing_of-same kind (get_or jobs k d) (change (get_or jobs k d)) (same k d inside))
      (named-stays kind id is_of))

  ids-same : (kind : DepKind) (ids : List DepId) → All (IsOf kind) ids
      → all_of (map (standing_by_id (left change goes jobs) own kind) ids)
      ≡ all_of (map (standing_by_id jobs own kind) ids)
  ids-same kind ids are_of =
      ap all_of (map-same (standing_by_id (left change goes jobs) own kind) (standing_by_id jobs own kind) ids
      (λ k d inside. by_id-same kind (get_or ids k d) (are_of k d inside)))

  before-same : list_any (is_before own) (left change goes jobs) ≡ list_any (is_before own) jobs
  before-same = any-left change goes (is_before own) jobs
      (λ k d inside. is_before-same own (get_or jobs k d) (change (get_or jobs k d)) (same k d inside))
      (λ k d inside gone. ended-before own (get_or jobs k d) (done k d inside gone).0)

  in-same : (kind : DepKind) (ids : List DepId) → All (IsOf kind) ids
      → standing_in (left change goes jobs) own kind ids ≡ standing_in jobs own kind ids
  in-same kinds.Singleton ids are_of = ap (λ found. once (not found)) before-same
  in-same kinds.After ids are_of = ids-same kinds.After ids are_of
  in-same kinds.AfterAny ids are_of = ids-same kinds.AfterAny ids are_of
  in-same kinds.AfterOk ids are_of = ids-same kinds.AfterOk ids are_of
  in-same kinds.AfterNotOk ids are_of = ids-same kinds.AfterNotOk ids are_of
  in-same kinds.AfterCorr ids are_of = ids-same kinds.AfterCorr ids are_of

  by-same : All (λ item. standing_by (left change goes jobs) own item ≡ standing_by jobs own item) spec.items
  by-same k d inside =
      let item = get_or spec.items k d in
      in-same item.kind item.ids (λ j e within job named.
      list_any_at (names_in job) spec.items k d inside (list_any_at (names_by item.kind job) item.ids j e within named))

  pub for-same : standing_for (left change goes jobs) own spec ≡ standing_for jobs own spec
  for-same =
      ap (λ parts. if spec.any then one_of parts else all_of parts)
      (map-same (standing_by (left change goes jobs) own) (standing_by jobs own) spec.items by-same)

pub standings-left : PassesLeaveStandings
unfolding standing
standings-left jobs change goes own among pending same done =
    ap (λ found. if nat_eq own.starts 0 then found else Satisfied) (by own.terms.dependency refl)
  where
    by : (dependency : Option DepSpec) → own.terms.dependency ≡ dependency
        → standing_if (left change goes jobs) own dependency ≡ standing_if jobs own dependency
    by None is = refl
    by (Some spec) is = for-same jobs change goes own spec among pending is same done
