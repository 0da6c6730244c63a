-- What a pass starts and what stays planned are its plan.
use Rattle.std.proofs.Common.{suc, ℕ, ◌≡◌, ◌≢◌, ◌≤◌, true, false, ◌&&◌, not, List, [], ◌∷◌, filter, All, Any, Contains, Option, Some, None, get_or, is_some, map, refl, sym, ap, subst, arith, inl, inr, ◌∙◌, nat_eq, Bool}
use Rattle.std.proofs.lemmas.Bool.{and_from, and_parts, both_ways, cases_Bool, cond_both, eq-eqb, eqb-true, false_from_ne_true}
use Rattle.std.specs.List.{list_any}
use Rattle.std.proofs.lemmas.List.Elements.{All-contains, All-cons, All-head, All-nil, All-tail}
use Rattle.std.proofs.lemmas.List.Folds.{Any-from_list_any, list_any-from_Any}
use Rattle.backfill_planner.specs.declared.Placed.{Placed}
use Rattle.reply_data.specs.declared.reply.Reply.{Reply}
use Rattle.request_data.specs.declared.request.Request.TheVariants.{Pass}
use Rattle.request_data.specs.declared.state.Final.TheVariants.{Requeue}
use Rattle.request_data.specs.declared.state.JobState.{JobState}
use Rattle.request_data.specs.declared.state.JobState.TheVariants.{Completing}
use Rattle.job_table.specs.declared.record.JobRecord.{JobRecord}
use Rattle.job_table.specs.declared.change.Change.TheVariants.{Leave, Start}
use Rattle.job_table.specs.Changes.{changed}
use Rattle.job_table.specs.JobStates.{is_pending, is_running}
use Rattle.job_table.specs.Table.{has_id, job_with}
use Rattle.ctl_state.specs.Events.{started_as}
use Rattle.ctl_state.specs.Soundness.{IsSound, pending_ids}
use Rattle.ctl_state.specs.State.{State, last_moment}
use Rattle.ctl_state.specs.Verdicts.{Stays, stamped}
use Rattle.ctl_pass.specs.Outcome.{outcome}
use Rattle.ctl_pass.specs.Preempting.{preempted, victims_in}
use Rattle.ctl_pass.specs.Readiness.{jobs_left, placements}
use Rattle.ctl_pass.specs.Starting.{JobStart, Started, begun, is_free, may_start, start_of, started, HasStarted}
use Rattle.ctl_node_side.specs.Passes.{after_pass, pass_is_idle}
use Rattle.ctl_node_side.specs.Silence.{silenced}
use Rattle.ctl_core.specs.Step.{is_made, raised, reply_of, state_after}
use Rattle.user_laws.specs.Planning.{plan_at}
use Rattle.user_laws.specs.Whole.{IsParted, runs}
use Rattle.user_laws.proofs.Begun.{WholePasses, stays_waits}
use Rattle.user_laws.proofs.InTime.{idle_stays, unentered}
use Rattle.user_laws.proofs.Lists.{any_mapped, any_passes, any_unmapped}
use Rattle.user_laws.proofs.Starting.{pass_may}
use Rattle.user_laws.proofs.States.{not_both}
use Rattle.step_lemmas.proofs.Making.{MakesBy, made_by}
use Rattle.step_lemmas.proofs.Steps.{step_says}
use Rattle.daemon_world.proofs.Lists.{any_here, any_there, any_weaker, any_of_all}
use Rattle.daemon_world.proofs.Starting.{Waits, MayStart, waits-on as waits_on, may_start_later, may_start_on}

-- ---- who runs

abbrev RunsThere : ℕ → JobRecord → Type 0
RunsThere id job = (has_id id job && is_running job.state) ≡ true

-- whoever runs goes on running through a start
runs-through : (now id : ℕ) (start : JobStart) (job : JobRecord) → RunsThere id job
    → RunsThere id (started_as now start.id start.parts start.nodes job)
runs-through now id start job is =
    cond_both (has_id start.id job) (changed (Start now start.parts start.nodes) job) job (RunsThere id)
    (λ this. and_from (has_id id job) true (and_parts (has_id id job) (is_running job.state) is).0 refl) (λ other. is)

runs-begun : (now id : ℕ) (jobs : List JobRecord) (start : JobStart) → runs jobs id ≡ true
    → runs (begun now jobs start) id ≡ true
runs-begun now id jobs start is =
    let test = λ (job : JobRecord). has_id id job && is_running job.state in
    let on = started_as now start.id start.parts start.nodes in
    list_any-from_Any test (begun now jobs start)
    (any_mapped (RunsThere id) on jobs
    (any_weaker (RunsThere id) (λ (job : JobRecord). RunsThere id (on job)) jobs
    (λ job one. runs-through now id start job one) (Any-from_list_any test jobs is)))

runs-on : (s : State) (now id : ℕ) (jobs : List JobRecord) (plan : List Placed) → runs jobs id ≡ true
    → runs (started s now jobs plan).jobs id ≡ true
unfolding started
runs-on s now id jobs [] is = is
runs-on s now id jobs (placed ∷ later) is =
    let start = start_of s.nodes jobs placed in
    cond_both (nat_eq placed.start now && may_start s jobs placed.id) _ _
    (λ (after : Started). runs after.jobs id ≡ true)
    (λ starts. runs-on s now id (begun now jobs start) later (runs-begun now id jobs start is))
    (λ stays. runs-on s now id jobs later is)

-- whoever has just begun runs
there-with : (id : ℕ) (jobs : List JobRecord) → is_some (job_with id jobs) ≡ true
    → Any (λ (job : JobRecord). has_id id job ≡ true) jobs
there-with id [] some = absurd (both_ways false refl some)
there-with id (job ∷ jobs) some =
    let Has = λ (job : JobRecord). has_id id job ≡ true in
    elim (cases_Bool (has_id id job)) [
      | inl is ↦ any_here Has job jobs is
      | inr not ↦ any_there Has job jobs (there-with id jobs (rw not at some))
    ]

free-there : (s : State) (jobs : List JobRecord) (found : Option JobRecord) → is_free s jobs found ≡ true
    → is_some found ≡ true
free-there s jobs None free = free
free-there s jobs (Some job) free = refl

begun-runs : (s : State) (now : ℕ) (jobs : List JobRecord) (placed : Placed) → may_start s jobs placed.id ≡ true
    → runs (begun now jobs (start_of s.nodes jobs placed)) placed.id ≡ true
unfolding may_start
begun-runs s now jobs placed may =
    let id = placed.id in
    let start = start_of s.nodes jobs placed in
    let test = λ (job : JobRecord). has_id id job && is_running job.state in
    let on = started_as now start.id start.parts start.nodes in
    list_any-from_Any test (begun now jobs start)
    (any_mapped (RunsThere id) on jobs
    (any_weaker (λ (job : JobRecord). has_id id job ≡ true) (λ (job : JobRecord). RunsThere id (on job)) jobs
    (λ job has. cond_both (has_id id job) (changed (Start now start.parts start.nodes) job) job (RunsThere id)
    (λ this. and_from (has_id id job) true has refl) (λ other. absurd (both_ways (has_id id job) other has)))
    (there-with id jobs (free-there s jobs (job_with id jobs) may))))

-- ---- who waits on

waits-through : (s : State) (now id : ℕ) (jobs : List JobRecord) (plan : List Placed) → Waits jobs id
    → All (λ (placed : Placed). placed.id ≢ id) plan → Waits (started s now jobs plan).jobs id
unfolding started
waits-through s now id jobs [] waits others = waits
waits-through s now id jobs (placed ∷ later) waits others =
    let start = start_of s.nodes jobs placed in
    let Other = λ (placed : Placed). placed.id ≢ id in
    cond_both (nat_eq placed.start now && may_start s jobs placed.id) _ _
    (λ (after : Started). Waits after.jobs id)
    (λ starts. waits-through s now id (begun now jobs start) later
    (waits_on now start.id start.parts start.nodes id jobs (All-head Other placed later others) waits)
    (All-tail Other placed later others))
    (λ stays. waits-through s now id jobs later waits (All-tail Other placed later others))

waiting-still : (jobs : List JobRecord) (id : ℕ) → Waits jobs id → runs jobs id ≡ false
waiting-still jobs id waits =
    let test = λ (job : JobRecord). has_id id job && is_running job.state in
    false_from_ne_true (runs jobs id)
    (λ is. any_of_all (λ (job : JobRecord). has_id id job ≡ true → is_pending job.state ≡ true) (RunsThere id) ⊥ jobs
    (λ job wait one. let parts = and_parts (has_id id job) (is_running job.state) one in
    not_both job.state (wait parts.0) parts.1) waits (Any-from_list_any test jobs is))

-- ---- the plan is parted

-- those that stay are those whose jobs don't run, and whose jobs run begin now
record Parts (now : ℕ) (plan : List Placed) (after : Started) : Type 0 where
  pub begin : All (λ (placed : Placed). runs after.jobs placed.id ≡ true → placed.start ≡ now) plan
  pub rest : after.stays ≡ filter (λ (placed : Placed). not (runs after.jobs placed.id)) plan

one-starts : (now : ℕ) (placed : Placed) (later : List Placed) (jobs : List JobRecord) (starts : List JobStart)
    (stays : List Placed) → placed.start ≡ now → runs jobs placed.id ≡ true
    → Parts now later (record { jobs = jobs; starts = starts; stays = stays })
    → (more : List JobStart) → Parts now (placed ∷ later) (record { jobs = jobs; starts = more; stays = stays })
one-starts now placed later jobs starts stays due is parts more = record {
  begin = All-cons (λ (placed : Placed). runs jobs placed.id ≡ true → placed.start ≡ now) placed later (λ any. due)
      parts.begin;
  rest = rw is parts.rest;
}

one-stays : (now : ℕ) (placed : Placed) (later : List Placed) (jobs : List JobRecord) (starts : List JobStart)
    (stays : List Placed) → runs jobs placed.id ≡ false
    → Parts now later (record { jobs = jobs; starts = starts; stays = stays })
    → Parts now (placed ∷ later) (record { jobs = jobs; starts = starts; stays = placed ∷ stays })
one-stays now placed later jobs starts stays still parts = record {
  begin = All-cons (λ (placed : Placed). runs jobs placed.id ≡ true → placed.start ≡ now) placed later
      (λ is. absurd (both_ways (runs jobs placed.id) still is)) parts.begin;
  rest = rw still (ap (λ (rest : List Placed). placed ∷ rest) parts.rest);
}

all-parted : (s : State) (now : ℕ) (jobs : List JobRecord) (plan : List Placed) → MayStart jobs plan
    → Parts now plan (started s now jobs plan)
unfolding started
all-parted s now jobs [] may = record {
  begin = All-nil (λ (placed : Placed). runs jobs placed.id ≡ true → placed.start ≡ now);
  rest = refl;
}
all-parted s now jobs (placed ∷ later) may =
    let start = start_of s.nodes jobs placed in
    let waits = All-head (λ (placed : Placed). Waits jobs placed.id) placed later may.wait in
    cond_both (nat_eq placed.start now && may_start s jobs placed.id) _ _ (Parts now (placed ∷ later))
    (λ is. let both = and_parts (nat_eq placed.start now) (may_start s jobs placed.id) is in
    let rest = started s now (begun now jobs start) later in
    one-starts now placed later rest.jobs rest.starts rest.stays (eqb-true placed.start now both.0)
    (runs-on s now placed.id (begun now jobs start) later (begun-runs s now jobs placed both.1))
    (all-parted s now (begun now jobs start) later (may_start_on now jobs start placed later refl may))
    (start ∷ rest.starts))
    (λ not. let rest = started s now jobs later in
    one-stays now placed later rest.jobs rest.starts rest.stays
    (waiting-still rest.jobs placed.id (waits-through s now placed.id jobs later waits
    (λ k d below same. may.apart 0 (suc k) d (omega arith) (omega (arith, below)) (sym same))))
    (all-parted s now jobs later (may_start_later jobs placed later may)))

-- ---- who goes for another

-- whoever runs once some have gone for another ran before
ran-before : (now : ℕ) (gone : List ℕ) (id : ℕ) (job : JobRecord) → RunsThere id (preempted now gone job)
    → RunsThere id job
ran-before now gone id job =
    let P = λ (one : JobRecord). RunsThere id one → RunsThere id job in
    cond_both (list_any (λ id. has_id id job) gone) (changed (Leave Requeue now None) job) job P
    (λ goes. cond_both (is_running job.state)
    (record job { state = Completing Requeue; ended = Some now; exit = None }) job P
    (λ runs is. absurd (both_ways false refl (and_parts (has_id id job) false is).1))
    (λ rests is. is))
    (λ stays is. is)

runs-before : (now : ℕ) (gone : List ℕ) (id : ℕ) (jobs : List JobRecord)
    → runs (map (preempted now gone) jobs) id ≡ true → runs jobs id ≡ true
runs-before now gone id jobs is =
    let test = λ (job : JobRecord). has_id id job && is_running job.state in
    let goes = preempted now gone in
    list_any-from_Any test jobs
    (any_weaker (λ (job : JobRecord). RunsThere id (goes job)) (RunsThere id) jobs
    (λ job one. ran-before now gone id job one)
    (any_unmapped (RunsThere id) goes jobs (Any-from_list_any test (map goes jobs) is)))

runs-started : (now : ℕ) (placed : Placed) (jobs : List JobRecord) → Any (HasStarted now placed) jobs
    → runs jobs placed.id ≡ true
runs-started now placed jobs any =
    let test = λ (job : JobRecord). has_id placed.id job && is_running job.state in
    list_any-from_Any test jobs
    (any_weaker (HasStarted now placed) (RunsThere placed.id) jobs
    (λ job started. and_from (has_id placed.id job) (is_running job.state) (eq-eqb job.id placed.id started.id)
    (subst (λ (state : JobState). is_running state ≡ true) (sym started.state) refl)) any)

-- who stays of a list passes the test
stays-passed : (test : Placed → Bool) (plan : List Placed) (placed : Placed) → Contains (filter test plan) placed
    → test placed ≡ true
stays-passed test plan placed has =
    any_of_all (λ (one : Placed). Unit {0}) (λ (one : Placed). (one ≡ placed) × (test one ≡ true)) (test placed ≡ true)
    plan (λ one any is. subst (λ (one : Placed). test one ≡ true) is.0 is.1) (λ k d below. tt)
    (any_passes (λ (one : Placed). one ≡ placed) test plan (has.0, placed, has.1, has.2, refl))

same-filter : (p q : Placed → Bool) (xs : List Placed) → All (λ (x : Placed). q x ≡ p x) xs
    → filter p xs ≡ filter q xs
same-filter p q [] same = refl
same-filter p q (x ∷ xs) same =
    let later = same-filter p q xs (All-tail (λ (y : Placed). q y ≡ p y) x xs same) in
    rw (All-head (λ (y : Placed). q y ≡ p y) x xs same) (elim (cases_Bool (p x)) [
      | inl is ↦ rw is (ap (λ (rest : List Placed). x ∷ rest) later)
      | inr not ↦ rw not later
    ])

-- of whoever is placed it runs after the pass exactly where it runs once the starts are made: who goes ran before
run-as-started : WholePasses → (s : State) (now : ℕ) → IsSound s → s.moment ≤ now → now ≤ last_moment
    → All (λ (placed : Placed). runs (after_pass s now).jobs placed.id
    ≡ runs (outcome (silenced s now) now).jobs placed.id) (placements (silenced s now) now)
run-as-started laws s now sound later in_time =
    let t = silenced s now in
    let parts = all-parted t now (jobs_left t now) (placements t now) (pass_may laws.passes s now sound later in_time) in
    λ k d below.
    let placed = get_or (placements t now) k d in
    elim (cases_Bool (runs (outcome t now).jobs placed.id)) [
      | inl is ↦ elim (laws.all s now sound later in_time k d below (parts.begin k d below is)) [
        | inl started ↦ runs-started now placed (after_pass s now).jobs started ∙ sym is
        | inr stays ↦
            let kept = stays-passed (λ (placed : Placed). not (runs (outcome t now).jobs placed.id))
            (placements t now) placed
            (subst (λ (plan : List Placed). Contains plan placed) parts.rest stays.0) in
            absurd (both_ways false refl (rw is at kept))
      ]
      | inr not ↦
          false_from_ne_true (runs (after_pass s now).jobs placed.id)
          (λ one. both_ways (runs (outcome t now).jobs placed.id) not
          (runs-before now (victims_in t now) placed.id (outcome t now).jobs one)) ∙ sym not
    ]

pass-parted : WholePasses → (s : State) (now : ℕ) → IsSound s → s.moment ≤ now → now ≤ last_moment
    → IsParted (plan_at s now) now (after_pass s now).jobs (after_pass s now).plan
pass-parted laws s now sound later in_time =
    let t = silenced s now in
    let jobs = (after_pass s now).jobs in
    let behind = laws.sound s now sound later in_time in
    let parts = all-parted t now (jobs_left t now) (placements t now) (pass_may laws.passes s now sound later in_time) in
    record {
      started = λ k d below is.
          let placed = get_or (placements t now) k d in
          let due = parts.begin k d below
          (runs-before now (victims_in t now) placed.id (outcome t now).jobs is) in (
            due,
            elim (laws.all s now sound later in_time k d below due) [
              | inl started ↦ started
              | inr stays ↦
                  let pending = All-contains (λ (placed : Placed). Contains (pending_ids jobs) placed.id)
                  (after_pass s now).plan placed behind.plan.pending stays.0 in
                  absurd (both_ways (runs jobs placed.id)
                  (waiting-still jobs placed.id
                  (stays_waits (stamped now (after_pass s now)) placed.id behind pending)) is)
            ],
          );
      rest = parts.rest
          ∙ same-filter (λ (placed : Placed). not (runs (outcome t now).jobs placed.id))
          (λ (placed : Placed). not (runs jobs placed.id)) (placements t now)
          (λ k d below. ap not (run-as-started laws s now sound later in_time k d below));
    }

-- an idle pass changes nothing
abbrev pub IdleStays : Type 0
IdleStays = (s : State) (now : ℕ) → pass_is_idle s now ≡ true → after_pass s now ≡ s

pub plan_parted : WholePasses → IdleStays → (s : State) (now : ℕ) (user : List ℕ) → IsSound s
    → is_made (reply_of s now user Pass) ≡ true
    → IsParted (plan_at s (raised s now)) (raised s now) (state_after s now user Pass).jobs
    (state_after s now user Pass).plan
plan_parted laws idle_stays_so s now user sound =
    let moment = raised s now in
    let plan = plan_at s moment in
    let Q = λ (reply : Reply) (after : State). IsParted plan moment after.jobs after.plan in
    let P = λ (reply : Reply) (t : State). is_made reply ≡ true → IsParted plan moment t.jobs t.plan in
    step_says P s now user Pass (λ refusal never. absurd (both_ways false refl never))
    (λ view never. absurd (both_ways false refl never))
    (λ idle made. subst (λ (t : State). IsParted plan moment t.jobs t.plan)
    (idle_stays_so s moment (idle_stays s moment idle.stays))
    (pass-parted laws s moment sound (omega arith) (omega (arith, sound.moment, idle.in_time))))
    (λ reply after is enters made. made_by Q
    (cond_both (pass_is_idle s moment) Stays _ (MakesBy Q) (λ idle. tt)
    (λ busy. pass-parted laws s moment sound (omega arith) (omega (arith, sound.moment, is.in_time)))) is.makes)
    (λ reply after is never made. absurd (unentered s moment reply after is.makes never))
