-- Who was started by a pass though it waited for others to be ok found them completed.
use Rattle.std.proofs.Common.{ℕ, ◌≡◌, ◌≤◌, ◌<◌, ◌∙◌, Bool, true, false, List, [], ◌∷◌, map, filter, All, Any, Contains, Option, Some, None, is_none, length, get_or, if◌then◌else◌, refl, sym, ap, subst, arith, inl, inr, ◌⊎◌}
use Rattle.std.specs.List.{list_all, list_any}
use Rattle.std.proofs.lemmas.Bool.{and_parts, both_ways, cases_order, cond_both, eq-eqb}
use Rattle.std.proofs.lemmas.List.{get_or_default}
use Rattle.std.proofs.lemmas.List.Elements.{All-cons, All-contains, All-head, All-map, All-nil, All-tail, All-weaker}
use Rattle.plain_data.specs.declared.dependency.DepKind.TheVariants.{AfterOk}
use Rattle.plain_data.specs.declared.dependency.DepId.{DepId}
use Rattle.plain_data.specs.declared.dependency.DepItem.{DepItem}
use Rattle.plain_data.specs.declared.dependency.DepSpec.{DepSpec}
use Rattle.backfill_planner.specs.declared.Placed.{Placed}
use Rattle.reply_data.specs.declared.reply.Reply.{Reply}
use Rattle.request_data.specs.declared.request.Request.TheVariants.{Pass}
use Rattle.request_data.specs.declared.state.Final.TheVariants as final
use Rattle.request_data.specs.declared.state.JobState.{JobState}
use Rattle.request_data.specs.declared.state.JobState.TheVariants.{Pending, Running, Completing, Ended}
use Rattle.request_data.specs.declared.state.Reason.{Reason}
use Rattle.job_table.specs.declared.record.JobRecord.{JobRecord}
use Rattle.job_table.specs.declared.standing.Standing.{Standing as Stand}
use Rattle.job_table.specs.declared.standing.Standing.TheVariants.{Satisfied, Waiting, Never}
use Rattle.job_table.specs.declared.change.Change.TheVariants.{Leave}
use Rattle.job_table.specs.Changes.{changed}
use Rattle.job_table.specs.JobStates.{is_ended, is_pending, is_running}
use Rattle.job_table.specs.Standing.{all_of, at_end, by_success, is_never, is_satisfied, jobs_named, standing, standing_by, standing_by_id, standing_for, standing_if, standing_of}
use Rattle.job_table.specs.Table.{HaveRisingIds, has_id}
use Rattle.job_table.specs.Targets.{is_named_by}
use Rattle.run_limits.specs.Limits.{first_reason}
use Rattle.ctl_state.specs.Soundness.{IsSound}
use Rattle.ctl_state.specs.State.{State, last_moment}
use Rattle.ctl_state.specs.Verdicts.{Stays}
use Rattle.ctl_waiting.specs.Candidates.{is_candidate}
use Rattle.ctl_waiting.specs.Reasons.{awaiting_reason, hindrance}
use Rattle.ctl_nodes.specs.Failing.{after_loss}
use Rattle.ctl_pass.specs.Limits.{is_over, timed_out}
use Rattle.ctl_pass.specs.Passing.{outcome}
use Rattle.ctl_pass.specs.Preempting.{preempted, victims_in}
use Rattle.ctl_pass.specs.Readiness.{jobs_left, placements, ready}
use Rattle.ctl_node_side.specs.Passes.{after_pass, pass_is_idle}
use Rattle.ctl_node_side.specs.Silence.{any_silent, silent_at, silenced}
use Rattle.ctl_core.specs.Step.{raised, state_after}
use Rattle.user_laws.specs.Waiting.{AreCompleted, FoundOk, IsRunningThere, ItemsCompleted}
use Rattle.user_laws.proofs.Lists.{none_is}
use Rattle.user_laws.proofs.Old.{found_by_pass, pending_stays, silenced_job}
use Rattle.user_laws.proofs.Starting.{IsStart, Passes, pass_may, ready_rising, starts_was}
use Rattle.user_laws.proofs.States.{not_both, not_ended}
use Rattle.step_lemmas.proofs.Making.{MakesBy, made_by}
use Rattle.step_lemmas.proofs.Steps.{step_is}
use Rattle.user_laws.proofs.Turning.{left_turns}
use Rattle.daemon_world.proofs.Lists.{any_weaker, any_of_all}
use Rattle.daemon_world.proofs.Starting.{Waits, only-waits as only_waits}

-- ---- what stands well

all-pass : {X : Type 0} (p : X → Bool) (xs : List X) → list_all p xs ≡ true → All (λ (x : X). p x ≡ true) xs
all-pass {X} p [] all = All-nil (λ (x : X). p x ≡ true)
all-pass {X} p (x ∷ xs) all =
    let parts = and_parts (p x) (list_all p xs) all in
    All-cons (λ (x : X). p x ≡ true) x xs parts.0 (all-pass p xs parts.1)

-- where all are needed and have come, each has
each-satisfied : (parts : List Stand) → is_satisfied (all_of parts) ≡ true
    → All (λ (part : Stand). is_satisfied part ≡ true) parts
each-satisfied parts =
    cond_both (list_any is_never parts) Never (if list_all is_satisfied parts then Satisfied else Waiting)
    (λ (one : Stand). is_satisfied one ≡ true → All (λ (part : Stand). is_satisfied part ≡ true) parts)
    (λ never is. absurd (both_ways false refl is))
    (λ none. cond_both (list_all is_satisfied parts) Satisfied Waiting
    (λ (one : Stand). is_satisfied one ≡ true → All (λ (part : Stand). is_satisfied part ≡ true) parts)
    (λ all is. all-pass is_satisfied parts all) (λ not is. absurd (both_ways false refl is)))

unmapped : {X Y : Type 0} (P : Y → Type 0) (f : X → Y) (xs : List X) → All P (map f xs) → All (λ (x : X). P (f x)) xs
unmapped {X} P f [] all = All-nil (λ (x : X). P (f x))
unmapped {X} P f (x ∷ xs) all =
    All-cons (λ (x : X). P (f x)) x xs (All-head P (f x) (map f xs) all) (unmapped P f xs (All-tail P (f x) (map f xs) all))

unfiltered : {X : Type 0} (P : X → Type 0) (p : X → Bool) (xs : List X) → All P (filter p xs)
    → All (λ (x : X). p x ≡ true → P x) xs
unfiltered {X} P p [] all = All-nil (λ (x : X). p x ≡ true → P x)
unfiltered {X} P p (x ∷ xs) all =
    let Passing = λ (x : X). p x ≡ true → P x in
    cond_both (p x) (x ∷ filter p xs) (filter p xs) (λ (rest : List X). All P rest → All Passing (x ∷ xs))
    (λ is all. All-cons Passing x xs (λ again. All-head P x (filter p xs) all)
    (unfiltered P p xs (All-tail P x (filter p xs) all)))
    (λ fails all. All-cons Passing x xs (λ is. absurd (both_ways (p x) fails is)) (unfiltered P p xs all)) all

succeeded : (state : JobState) → is_satisfied (at_end by_success state) ≡ true → state ≡ Ended final.Completed
succeeded Pending is = absurd (both_ways false refl is)
succeeded Running is = absurd (both_ways false refl is)
succeeded (Completing end) is = absurd (both_ways false refl is)
succeeded (Ended final.Completed) is = refl
succeeded (Ended final.Cancelled) is = absurd (both_ways false refl is)
succeeded (Ended final.Failed) is = absurd (both_ways false refl is)
succeeded (Ended final.Timeout) is = absurd (both_ways false refl is)
succeeded (Ended final.NodeFail) is = absurd (both_ways false refl is)
succeeded (Ended final.Requeue) is = absurd (both_ways false refl is)

id-completed : (jobs : List JobRecord) (own : JobRecord) (id : DepId)
    → is_satisfied (standing_by_id jobs own AfterOk id) ≡ true → AreCompleted jobs id
id-completed jobs own id is =
    let Done = λ (job : JobRecord). is_satisfied (standing_of AfterOk job) ≡ true in
    let named = jobs_named jobs own AfterOk id in
    let all = unmapped (λ (part : Stand). is_satisfied part ≡ true) (standing_of AfterOk) named
    (each-satisfied (map (standing_of AfterOk) named) is) in
    All-weaker (λ (job : JobRecord). is_named_by id.id id.index job ≡ true → Done job)
    (λ (job : JobRecord). is_named_by id.id id.index job ≡ true → job.state ≡ Ended final.Completed)
    (λ job each names. succeeded job.state (each names)) jobs
    (unfiltered Done (is_named_by id.id id.index) jobs all)

ids-completed : (jobs : List JobRecord) (own : JobRecord) (ids : List DepId)
    → is_satisfied (all_of (map (standing_by_id jobs own AfterOk) ids)) ≡ true → All (AreCompleted jobs) ids
ids-completed jobs own ids is =
    All-weaker (λ (id : DepId). is_satisfied (standing_by_id jobs own AfterOk id) ≡ true) (AreCompleted jobs)
    (λ id each. id-completed jobs own id each) ids
    (unmapped (λ (part : Stand). is_satisfied part ≡ true) (standing_by_id jobs own AfterOk) ids
    (each-satisfied (map (standing_by_id jobs own AfterOk) ids) is))

item-completed : (jobs : List JobRecord) (own : JobRecord) (item : DepItem)
    → is_satisfied (standing_by jobs own item) ≡ true → item.kind ≡ AfterOk → All (AreCompleted jobs) item.ids
item-completed jobs own item is ok =
    ids-completed jobs own item.ids (rw ok at is)

spec-completed : (jobs : List JobRecord) (own : JobRecord) (spec : DepSpec)
    → is_satisfied (standing_for jobs own spec) ≡ true → spec.any ≡ false → ItemsCompleted jobs spec.items
spec-completed jobs own spec is all =
    let parts : is_satisfied (all_of (map (standing_by jobs own) spec.items)) ≡ true = rw all at is in
    All-weaker (λ (item : DepItem). is_satisfied (standing_by jobs own item) ≡ true)
    (λ (item : DepItem). item.kind ≡ AfterOk → All (AreCompleted jobs) item.ids)
    (λ item each ok. item-completed jobs own item each ok) spec.items
    (unmapped (λ (part : Stand). is_satisfied part ≡ true) (standing_by jobs own) spec.items
    (each-satisfied (map (standing_by jobs own) spec.items) parts))

-- ---- whom nothing hinders

second-none : (one two : Option Reason) (later : List (Option Reason)) → first_reason (one ∷ two ∷ later) ≡ None
    → two ≡ None
second-none None None later none = refl
second-none None (Some reason) later none = absurd (cc)
second-none (Some reason) two later none = absurd (cc)

satisfied-by : (stand : Stand) → awaiting_reason stand ≡ None → is_satisfied stand ≡ true
satisfied-by Satisfied none = refl
satisfied-by Waiting none = absurd (cc)
satisfied-by Never none = absurd (cc)

candidate-satisfied : (s : State) (now : ℕ) (job : JobRecord) → is_candidate s now job ≡ true
    → is_satisfied (standing s.jobs job) ≡ true
unfolding hindrance
candidate-satisfied s now job is =
    let none = none_is (hindrance s now job)
    (and_parts (is_pending job.state) (is_none (hindrance s now job)) is).1 in
    satisfied-by (standing s.jobs job) (second-none _ (awaiting_reason (standing s.jobs job)) _ none)

stood-ok : (jobs : List JobRecord) (job : JobRecord) → is_satisfied (standing jobs job) ≡ true → job.starts ≡ 0
    → FoundOk jobs job
unfolding standing
stood-ok jobs job is first =
    let waits : is_satisfied (standing_if jobs job job.terms.dependency) ≡ true = rw first at is in
    λ spec names all. spec-completed jobs job spec (rw names at waits) all

-- ---- who is the same

at-place : {X : Type 0} (P : X → Type 0) (xs : List X) (k : ℕ) (d : X) → k < length xs → P (get_or xs k d) → Any P xs
at-place P xs k d below has = (k, get_or xs k d, below, get_or_default xs k (get_or xs k d) d below, has)

pub only_one : (jobs : List JobRecord) → HaveRisingIds jobs → (a b : JobRecord) → Any (λ (y : JobRecord). y ≡ a) jobs
    → Any (λ (y : JobRecord). y ≡ b) jobs → a.id ≡ b.id → a ≡ b
only_one jobs rising a b (i, x, first, is-x, same-x) (k, y, second, is-y, same-y) ids =
    let x-id : x.id ≡ a.id = ap (λ (job : JobRecord). job.id) same-x in
    let y-id : y.id ≡ b.id = ap (λ (job : JobRecord). job.id) same-y in
    let at-x : (get_or jobs i x).id ≡ x.id = ap (λ (job : JobRecord). job.id) is-x in
    let at-y : (get_or jobs k y).id ≡ y.id = ap (λ (job : JobRecord). job.id) is-y in
    elim (cases_order i k) [
      | inl same ↦
          sym same-x ∙ sym is-x ∙ ap (λ (n : ℕ). get_or jobs n x) same ∙ get_or_default jobs k x y second ∙ is-y ∙ same-y
      | inr differ ↦ elim differ [
        | inl before ↦
            absurd (omega (
              arith,
              rising i k x before second,
              at-x,
              ap (λ (job : JobRecord). job.id) (get_or_default jobs k x y second),
              at-y,
              x-id,
              y-id,
              ids,
            ))
        | inr behind ↦
            absurd (omega (
              arith,
              rising k i x behind first,
              at-x,
              ap (λ (job : JobRecord). job.id) (get_or_default jobs k x y second),
              at-y,
              x-id,
              y-id,
              ids,
            ))
      ]
    ]

-- a waiting job is found as it is
found-same : (s : State) (now : ℕ) (job : JobRecord) → is_pending job.state ≡ true → found_by_pass s now job ≡ job
found-same s now job waits =
    let lost : silenced_job s now job ≡ job =
    cond_both (any_silent s now) (after_loss now (silent_at s now) job) job (λ (after : JobRecord). after ≡ job)
    (λ some. pending_stays now (silent_at s now) job waits) (λ none. refl) in
    ap (timed_out now) lost ∙ cond_both (is_over now job) (changed (Leave final.Timeout now None) job) job
    (λ (after : JobRecord). after ≡ job) (λ over. absurd (not_both job.state waits (and_parts (is_running job.state) _ over).0))
    (λ not. refl)

-- and it is among those that the pass plans
is-left : (s : State) (now k : ℕ) (d : JobRecord) → k < length s.jobs → is_pending (get_or s.jobs k d).state ≡ true
    → Any (λ (job : JobRecord). job ≡ get_or s.jobs k d) (jobs_left (silenced s now) now)
is-left s now k d below waits =
    let job = get_or s.jobs k d in
    elim ((left_turns s now).each k d below) [
      | inl gone ↦ absurd (not_ended job.state waits (and_parts (is_ended job.state) _ gone.0).0)
      | inr any ↦
          subst (λ (found : JobRecord). Any (λ (one : JobRecord). one ≡ found) (jobs_left (silenced s now) now))
          (found-same s now job waits) any
    ]

-- whoever has the number of one that waits, waits
all-wait : (s : State) (k : ℕ) (d : JobRecord) → IsSound s → k < length s.jobs
    → is_pending (get_or s.jobs k d).state ≡ true → Waits s.jobs (get_or s.jobs k d).id
all-wait s k d sound below waits =
    only_waits (get_or s.jobs k d).id s.jobs sound.rising
    (at-place (λ (job : JobRecord). (job.id ≡ (get_or s.jobs k d).id) × (is_pending job.state ≡ true)) s.jobs k d below
    (refl, waits))

-- ---- starts leave what has completed

-- a job keeps what it is named by, and that it has completed
record StaysOk (job after : JobRecord) : Type 0 where
  pub id : after.id ≡ job.id
  pub array : after.array ≡ job.array
  pub index : after.index ≡ job.index
  pub ended : job.state ≡ Ended final.Completed → after.state ≡ Ended final.Completed

named-same : (id : ℕ) (index : Option ℕ) (job after : JobRecord) → StaysOk job after
    → is_named_by id index after ≡ is_named_by id index job
named-same id None job after is = rw (is.id, is.array) refl
named-same id (Some number) job after is = rw (is.array, is.index) refl

still-ended : (job after : JobRecord) → IsStart job after → job.state ≡ Ended final.Completed
    → after.state ≡ Ended final.Completed
still-ended job after is ended = elim is.stays [
  | inl same ↦ ap (λ (job : JobRecord). job.state) same ∙ ended
  | inr waits ↦ absurd (both_ways false refl (subst (λ state. is_pending state ≡ true) ended waits))
]

start-ok : (job after : JobRecord) → IsStart job after → StaysOk job after
start-ok job after is =
    record { id = is.id; array = is.array; index = is.index; ended = still-ended job after is }

-- so does one that goes for another: it ran
gone-ok : (now : ℕ) (gone : List ℕ) (job : JobRecord) → StaysOk job (preempted now gone job)
gone-ok now gone job =
    cond_both (list_any (λ id. has_id id job) gone) (changed (Leave final.Requeue now None) job) job (StaysOk job)
    (λ goes. cond_both (is_running job.state)
    (record job { state = Completing final.Requeue; ended = Some now; exit = None }) job (StaysOk job)
    (λ runs. record {
      id = refl;
      array = refl;
      index = refl;
      ended = λ ended. absurd (both_ways false refl (subst (λ state. is_running state ≡ true) ended runs));
    })
    (λ not. itself))
    (λ stays. itself)
  where
    itself : StaysOk job job
    itself = record { id = refl; array = refl; index = refl; ended = λ ended. ended }

gone-was : (now : ℕ) (gone : List ℕ) (jobs : List JobRecord)
    → All (λ (one : JobRecord). Any (λ (job : JobRecord). StaysOk job one) jobs) (map (preempted now gone) jobs)
gone-was now gone jobs =
    All-map (λ (one : JobRecord). Any (λ (job : JobRecord). StaysOk job one) jobs) (preempted now gone) jobs
    (λ k d below. let job = get_or jobs k d in
    (k, job, below, get_or_default jobs k job d below, gone-ok now gone job))

completed-on : (jobs after : List JobRecord) (id : DepId)
    → All (λ (one : JobRecord). Any (λ (job : JobRecord). StaysOk job one) jobs) after → AreCompleted jobs id
    → AreCompleted after id
completed-on jobs after id was all =
    let Done = λ (job : JobRecord). is_named_by id.id id.index job ≡ true → job.state ≡ Ended final.Completed in
    All-weaker (λ (one : JobRecord). Any (λ (job : JobRecord). StaysOk job one) jobs) Done
    (λ one any. any_of_all Done (λ (job : JobRecord). StaysOk job one) (Done one) jobs
    (λ job done is names. is.ended (done (sym (named-same id.id id.index job one is) ∙ names))) all any)
    after was

found-on : (jobs after : List JobRecord) (own : JobRecord)
    → All (λ (one : JobRecord). Any (λ (job : JobRecord). StaysOk job one) jobs) after → FoundOk jobs own
    → FoundOk after own
found-on jobs after own was found = λ spec names all.
    All-weaker (λ (item : DepItem). item.kind ≡ AfterOk → All (AreCompleted jobs) item.ids)
    (λ (item : DepItem). item.kind ≡ AfterOk → All (AreCompleted after) item.ids)
    (λ item each ok. All-weaker (AreCompleted jobs) (AreCompleted after)
    (λ id done. completed-on jobs after id was done) item.ids (each ok)) spec.items (found spec names all)

-- ---- a pass

-- a job that runs after it ran before just so, or was planned
abbrev pub WerePlanned : Type 0
WerePlanned = (s : State) (now : ℕ) → All (λ (job : JobRecord). is_running job.state ≡ true
    → Contains s.jobs job
    ⊎ Any (λ (placed : Placed). (placed.id ≡ job.id) × (placed.start ≡ now)) (placements (silenced s now) now))
    (after_pass s now).jobs

planned-found : Passes → (s : State) (now k : ℕ) (d : JobRecord) → IsSound s → s.moment ≤ now → now ≤ last_moment
    → k < length s.jobs → is_pending (get_or s.jobs k d).state ≡ true → (get_or s.jobs k d).starts ≡ 0
    → (placed : Placed) → placed.id ≡ (get_or s.jobs k d).id
    → Any (λ (job : JobRecord). (job.id ≡ placed.id) × (is_candidate (ready (silenced s now) now) now job ≡ true))
    (jobs_left (silenced s now) now)
    → FoundOk (jobs_left (silenced s now) now) (get_or s.jobs k d)
planned-found passes s now k d sound later in_time below waits first placed id (i, one, within, is, has) =
    let job = get_or s.jobs k d in
    let t = silenced s now in
    let jobs = jobs_left t now in
    let same : one ≡ job =
    only_one jobs (ready_rising passes s now sound later in_time) one job (i, one, within, is, refl)
    (is-left s now k d below waits) (has.0 ∙ id) in
    let free = subst (λ (job : JobRecord). is_candidate (ready t now) now job ≡ true) same has.1 in
    stood-ok jobs job (candidate-satisfied (ready t now) now job free) first

abbrev Found : State → State → Type 0
Found s after = All (λ (job : JobRecord). is_pending job.state ≡ true → job.starts ≡ 0
    → Any (IsRunningThere job) after.jobs → FoundOk after.jobs job) s.jobs

pass-found : Passes → WerePlanned → (s : State) (now : ℕ) → IsSound s → s.moment ≤ now → now ≤ last_moment
    → Found s (after_pass s now)
pass-found passes planned s now sound later in_time = λ k d below waits first any.
    let job = get_or s.jobs k d in
    let t = silenced s now in
    let Ran = λ (after : JobRecord). is_running after.state ≡ true → Contains s.jobs after
    ⊎ Any (λ (placed : Placed). (placed.id ≡ after.id) × (placed.start ≡ now)) (placements t now) in
    let Candidate = λ (placed : Placed). Any (λ (one : JobRecord).
    (one.id ≡ placed.id) × (is_candidate (ready t now) now one ≡ true)) (jobs_left t now) in
    let all = all-wait s k d sound below waits in
    let begun = (outcome t now).jobs in
    let Started = λ (one : JobRecord). Any (λ (job : JobRecord). IsStart job one) (jobs_left t now) in
    let Kept = λ (one : JobRecord). Any (λ (job : JobRecord). StaysOk job one) (jobs_left t now) in
    found-on begun (after_pass s now).jobs job (gone-was now (victims_in t now) begun)
    (found-on (jobs_left t now) begun job
    (All-weaker Started Kept
    (λ one any. any_weaker (λ (job : JobRecord). IsStart job one) (λ (job : JobRecord). StaysOk job one) (jobs_left t now)
    (λ job is. start-ok job one is) any) begun
    (starts_was t now (jobs_left t now) (placements t now) (pass_may passes s now sound later in_time)))
    (any_of_all Ran (IsRunningThere job) (FoundOk (jobs_left t now) job) (after_pass s now).jobs
    (λ after ran is. elim (ran is.runs) [
      | inl had ↦
          absurd (not_both after.state
          (All-contains (λ (one : JobRecord). has_id job.id one ≡ true → is_pending one.state ≡ true) s.jobs after all had
          (eq-eqb after.id job.id is.id)) is.runs)
      | inr placed ↦
          any_of_all Candidate (λ (placed : Placed). (placed.id ≡ after.id) × (placed.start ≡ now))
          (FoundOk (jobs_left t now) job) (placements t now)
          (λ one candidate this. planned-found passes s now k d sound later in_time below waits first one
          (this.0 ∙ is.id) candidate) (passes.plans.candidates t now) placed
    ]) (planned s now) any))

same-found : (s : State) → IsSound s → Found s s
same-found s sound = λ k d below waits first any.
    let job = get_or s.jobs k d in
    absurd (any_of_all (λ (one : JobRecord). has_id job.id one ≡ true → is_pending one.state ≡ true) (IsRunningThere job)
    ⊥ s.jobs (λ one wait is. not_both one.state (wait (eq-eqb one.id job.id is.id)) is.runs)
    (all-wait s k d sound below waits) any)

pub found_ok : Passes → WerePlanned → (s : State) (now : ℕ) (user : List ℕ) → IsSound s
    → Found s (state_after s now user Pass)
found_ok passes planned s now user sound =
    let moment = raised s now in
    step_is (Found s) s now user Pass (same-found s sound)
    (λ reply after is. made_by (λ (reply : Reply) (after : State). Found s after)
    (cond_both (pass_is_idle s moment) Stays _ (MakesBy (λ reply (after : State). Found s after)) (λ idle. tt)
    (λ busy. pass-found passes planned s moment sound (omega arith)
    (omega (arith, sound.moment, is.in_time)))) is.makes)
