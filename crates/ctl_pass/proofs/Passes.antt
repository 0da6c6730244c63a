-- A pass: when it is idle, and where the jobs come from that run after it.
use Rattle.std.proofs.lemmas.Bool.Decides.{nat_tests}
use Rattle.std.proofs.Common.{◌≡◌, ◌⊎◌, ℕ, ◌+◌, ◌≤◌, ◌<◌, Bool, true, false, ◌&&◌, not, cond, eqb, ltb, List, [], ◌∷◌, length, map, filter, fold, get_or, sum_by, All, Any, Contains, refl, ap, sym, ◌∙◌, arith, inl, inr}
use Rattle.std.specs.Prelude.{count_by}
use Rattle.std.specs.Bool.{Decides}
use Rattle.std.specs.Cmp.Lexicographic.{pointwise}
use Rattle.std.specs.List.{list_all, list_any}
use Rattle.std.proofs.lemmas.Bool.{and_parts, cond_both, cases_Bool, both_ways, eq-eqb, eqb-true}
use Rattle.std.proofs.lemmas.List.{length-map, get_or_default}
use Rattle.std.proofs.lemmas.List.Elements.{All-weaker, All-head, All-tail, All-map, All-filter, All-contains_itself, filter_agree}
use Rattle.std.proofs.lemmas.List.Sums.{length-filter, count_by-le-length, sum_by-cons, sum_by-le-sum_by}
use Rattle.std.proofs.lemmas.Slice.Eq.{slice_eq-Decides}
use Rattle.backfill_planner.specs.declared.Placed.{Placed}
use Rattle.backfill_planner.specs.declared.Share.{Share}
use Rattle.job_table.specs.declared.record.JobRecord.{JobRecord}
use Rattle.job_table.specs.declared.record.Part.{Part}
use Rattle.job_table.specs.declared.change.Change.TheVariants.{Start}
use Rattle.job_table.specs.Changes.{changed}
use Rattle.job_table.specs.JobStates.{is_running, is_pending}
use Rattle.job_table.specs.Awaiting.{AwaitedThroughChanges, has_gone}
use Rattle.node_state.specs.declared.reservation_record.Reservation.{Reservation}
use Rattle.node_state.specs.Reservations.{lasting}
use Rattle.job_table.specs.Usage.{NothingCharged, charged}
use Rattle.job_table.specs.Targets.{is_task_of}
use Rattle.ctl_state.specs.declared.record.ArrayRecord.{ArrayRecord}
use Rattle.ctl_state.specs.Events.{those_left, started_as}
use Rattle.ctl_state.specs.Laws.{OrderMoves}
use Rattle.ctl_state.specs.Soundness.{IsSound, pending_ids}
use Rattle.ctl_state.specs.State.{State, last_moment}
use Rattle.ctl_state.specs.Verdicts.{stamped}
use Rattle.ctl_pass.specs.declared.live_arrays.LiveArrays.{LiveArrays}
use Rattle.ctl_pass.specs.declared.pass.Decided.{Decided}
use Rattle.ctl_pass.specs.Awaiting.{placements_of}
use Rattle.ctl_pass.specs.Limits.{is_over, timed_out}
use Rattle.ctl_pass.specs.Live.{has_array}
use Rattle.ctl_pass.specs.Passing.{is_idle, jobs_ended, HasArrays, IsDecided, begun_in, outcome, pass_after, placements_due}
use Rattle.ctl_pass.specs.Preempting.{preempted, victims_in}
use Rattle.ctl_pass.specs.Readiness.{arrays_left, goes, jobs_left, ready, placements}
use Rattle.ctl_pass.specs.SamePlans.{same_plans, same_shares, same_placements}
use Rattle.ctl_pass.specs.Starting.{HasStarted, WasHeldBack, start_of, begun, begun_by, started, may_start}
use Rattle.ctl_pass.specs.Taking.{CanStart}
use Rattle.ctl_pass.proofs.Due.{can-due, due-jobs}
use Rattle.ctl_pass.proofs.Lists.{Any-kept, filter-whole, length-kept, sum_by-map, sum_by-more}
use Rattle.ctl_pass.proofs.Planned.{PlanIds, PlanLaws, can-start_ready, plan-waits}
use Rattle.ctl_pass.proofs.Preempted.{GoneLaws, by_victim, left-stopped, nobody-gone, nobody-went, sound-gone, started-stays}
use Rattle.ctl_pass.proofs.Readied.{ReadyLaws, by_limit, going-known, left-known, length-left, readied, running-not_ended}
use Rattle.ctl_pass.proofs.Starting.{IsGiven, StartLaws, all-given, sound-started, started-keeps, started-same}

-- the arrays of which there are tasks are those that are kept
pub arrays-kept : (jobs : List JobRecord) (arrays : List ArrayRecord) (live : LiveArrays) → HasArrays jobs live
    → filter (λ (array : ArrayRecord). has_array live array.id) arrays ≡ arrays_left jobs arrays
unfolding arrays_left
arrays-kept jobs arrays live has =
    filter_agree (λ (array : ArrayRecord). has_array live array.id)
    (λ (array : ArrayRecord). list_any (is_task_of array.id) jobs) (λ array. has.each array.id) arrays

-- what is tested of a pass is whether it is idle
pub idle_is : AwaitedThroughChanges → (s : State) (now : ℕ) (decided : Decided) → IsDecided s now decided
    → (eqb decided.ended
    0 && (not (list_any (has_gone s.settings.min_job_age now decided.awaited) s.jobs) && (list_all
    (λ (array : ArrayRecord). has_array decided.arrays array.id) s.arrays
    && (list_all (λ (one : Reservation). ltb now one.end) s.reservations
    && (eqb (length decided.starts.items) 0 && same_plans decided.stays.items s.plan))))) ≡ is_idle s now
unfolding is_idle
idle_is law s now decided is =
    let age = s.settings.min_job_age in
    rw (
      is.ended,
      is.count,
      is.stays,
      ← length-left now (has_gone age now decided.awaited) s.jobs (going-known age now decided.awaited),
      left-known law s now decided.awaited is.awaited,
      ← length-kept (λ (array : ArrayRecord). has_array decided.arrays array.id) s.arrays,
      arrays-kept (jobs_left s now) s.arrays decided.arrays is.arrays,
      ← length-kept (λ (one : Reservation). ltb now one.end) s.reservations,
    ) refl

-- So is the state after the starts, from what was decided.
pub acted : (s : State) (now : ℕ) (decided : Decided) → IsDecided s now decided
    → record (ready s now) {
      jobs = fold (begun_by s.nodes now) (jobs_left s now) (placements_of decided.starts.items);
      plan = decided.stays.items;
    } ≡ begun_in s now
acted s now decided is =
    rw (is.starts, is.stays, due-jobs s now (jobs_left s now) (placements s now)) refl

shares-same : (one other : Share) → Decides (same_shares one other) (one ≡ other)
shares-same one other = (
  λ is. let e : (one.node ≡ other.node) × (one.tasks ≡ other.tasks) × (one.cpus ≡ other.cpus) × (one.mem ≡ other.mem) =
      grind (arith, nat_tests) in rw (← e.0, ← e.1, ← e.2, ← e.3) refl,
  λ is. rw is (grind (arith, nat_tests)),
)

placements-same : (one other : Placed) → Decides (same_placements one other) (one ≡ other)
placements-same one other =
    let parts = slice_eq-Decides shares-same one.parts other.parts (pointwise same_shares one.parts other.parts)
    refl in (
      λ is. let e : (one.id ≡ other.id) × (one.start ≡ other.start) × (one.parts ≡ other.parts) =
          grind (arith, nat_tests, parts.0) in rw (← e.0, ← e.1, ← e.2) refl,
      λ is. let same = parts.1 (ap (λ (placed : Placed). placed.parts) is) in grind (
        arith,
        nat_tests,
        same,
        ap (λ (placed : Placed). placed.id) is,
        ap (λ (placed : Placed). placed.start) is,
      ),
    )

pub plans-same : (one other : List Placed) → Decides (same_plans one other) (one ≡ other)
plans-same one other = slice_eq-Decides placements-same one other (same_plans one other) refl

-- where no limit is reached and no record is dropped, the jobs stay
ready-same : (now : ℕ) (test : JobRecord → Bool) (jobs : List JobRecord) → count_by (is_over now) jobs ≡ 0
    → length (those_left (timed_out now) test jobs) ≡ length jobs
    → those_left (timed_out now) test jobs ≡ jobs
ready-same now test [] none all = refl
ready-same now test (job ∷ jobs) none all =
    let stays : JobRecord → Bool = λ one. not (test one) in
    let changed = map (timed_out now) jobs in
    let over = sum_by-cons (λ one. cond (is_over now one) 1 0) job jobs in
    grind (
      arith,
      nat_tests,
      ready-same now test jobs,
      over,
      length-filter stays changed,
      count_by-le-length stays changed,
      length-map jobs (timed_out now),
    )

none-over : (now : ℕ) (jobs : List JobRecord) → count_by (is_over now) jobs ≡ 0 → map (timed_out now) jobs ≡ jobs
none-over now [] none = refl
none-over now (job ∷ jobs) none =
    grind (
      arith,
      nat_tests,
      none-over now jobs,
      sum_by-cons (λ one. cond (is_over now one) 1 0) job jobs,
    )

-- where none starts, they stay too
none-start : (s : State) (now : ℕ) (jobs : List JobRecord) (plan : List Placed)
    → length (started s now jobs plan).starts ≡ 0 → (started s now jobs plan).jobs ≡ jobs
unfolding started
none-start s now jobs [] none = refl
none-start s now jobs (placed ∷ later) none = grind (arith, nat_tests, none-start s now jobs later)

-- an idle pass takes nobody out of Running
idle-parts : (s : State) (now : ℕ) → is_idle s now ≡ true
    → (count_by (is_over now) s.jobs ≡ 0) × (victims_in s now ≡ [])
unfolding is_idle
idle-parts s now idle =
    let none : count_by (is_over now) s.jobs + length (victims_in s now) ≡ 0 =
    eqb-true (jobs_ended s now) 0 (and_parts (eqb (jobs_ended s now) 0) _ idle).0 in
    (omega (arith, none), nobody (victims_in s now) (omega (arith, none)))
  where
    nobody : (gone : List ℕ) → length gone ≡ 0 → gone ≡ []
    nobody [] none = refl
    nobody (id ∷ gone) none = absurd (omega (arith, none))

-- where nobody ends, is dropped or starts, and the plan is the last one, all stays once the starts are made
begun-unchanged : NothingCharged → (s : State) (now : ℕ) → is_idle s now ≡ true → begun_in s now ≡ s
unfolding is_idle arrays_left
begun-unchanged nothing s now idle =
    let left = jobs_left s now in
    let none = none-start s now left (placements s now) in
    let arrays = filter-whole (λ (array : ArrayRecord). list_any (is_task_of array.id) left) s.arrays in
    let last = filter-whole (λ (one : Reservation). ltb now one.end) s.reservations in
    let none_over : count_by (is_over now) s.jobs ≡ 0 = (idle-parts s now idle).0 in
    let same : ((outcome s now).jobs ≡ s.jobs) × ((outcome s now).stays ≡ s.plan)
    × (arrays_left left s.arrays ≡ s.arrays) × (lasting now s.reservations ≡ s.reservations) =
    grind (
      arith,
      nat_tests,
      none,
      arrays,
      last,
      ready-same now (goes s now) s.jobs none_over,
      (plans-same (outcome s now).stays s.plan).0,
    ) in
    let usage : charged now s.jobs (map (timed_out now) s.jobs) s.usage ≡ s.usage =
    ap (λ jobs. charged now s.jobs jobs s.usage) (none-over now s.jobs none_over)
    ∙ sym (nothing now (record { records = s.jobs; usage = s.usage })).usage in
    rw (same.0, same.1, same.2, same.3, usage) refl

-- An idle pass changes nothing but the moment.
pub idle-unchanged : NothingCharged → (s : State) (now : ℕ) → is_idle s now ≡ true → pass_after s now ≡ s
idle-unchanged nothing s now idle =
    nobody-gone nothing s now (idle-parts s now idle).1 ∙ begun-unchanged nothing s now idle

-- one for a job that waits, or that runs
abbrev waits : JobRecord → ℕ
waits job = cond (is_pending job.state) 1 0

abbrev runs : JobRecord → ℕ
runs job = cond (is_running job.state) 1 0

-- what is left is no more than there was without what each job lost
left-less : (amount lost : JobRecord → ℕ) (change : JobRecord → JobRecord) (goes : JobRecord
    → Bool) (jobs : List JobRecord) → ((job : JobRecord) → amount (change job) + lost job ≤ amount job)
    → sum_by amount (those_left change goes jobs) + sum_by lost jobs ≤ sum_by amount jobs
left-less amount lost change goes [] less = omega arith
left-less amount lost change goes (job ∷ jobs) less =
    grind (
      arith,
      left-less amount lost change goes jobs less,
      sum_by-cons amount job jobs,
      sum_by-cons lost job jobs,
      less job,
      sum_by-cons amount (change job) (those_left change goes jobs),
    )

-- a start leaves no more that wait, and fewer where its job waited
waits-begun : (now id : ℕ) (parts : List Part) (names : List (List ℕ)) (jobs : List JobRecord)
    → sum_by waits (map (started_as now id parts names) jobs) ≤ sum_by waits jobs
waits-begun now id parts names jobs =
    let start = started_as now id parts names in
    omega (
      arith,
      sum_by-map waits start jobs,
      sum_by-le-sum_by (λ job. waits (start job)) waits jobs
          (λ job. grind (arith, nat_tests)),
    )

fewer : (s : State) (now : ℕ) (jobs : List JobRecord) (plan : List Placed)
    → All (λ (placed : Placed). Contains (pending_ids jobs) placed.id) plan
    → (length (started s now jobs plan).starts ≡ 0) ⊎ (sum_by waits (started s now jobs plan).jobs < sum_by waits jobs)
unfolding started
fewer s now jobs [] each = inl refl
fewer s now jobs (placed ∷ later) each =
    let named : Placed → Type 0 = λ one. Contains (pending_ids jobs) one.id in
    let start = start_of s.nodes jobs placed in
    let change = started_as now start.id start.parts start.nodes in
    let one = Any-kept (λ (job : JobRecord). job.id) (λ (job : JobRecord). is_pending job.state) placed.id jobs
    (All-head named placed later each) in
    let less = sum_by-more (λ job. waits (change job)) waits jobs (λ job. grind (arith, nat_tests))
    (lost start.parts start.nodes one) in
    let begun_jobs = begun now jobs start in
    let most = started-keeps (λ some. sum_by waits some ≤ sum_by waits begun_jobs) s now begun_jobs later
    (λ k d below due some parts names few. omega (arith, few, waits-begun now (get_or later k d).id parts names some))
    (omega arith) in
    elim (cases_Bool (eqb placed.start now && may_start s jobs placed.id)) [
      | inr stays ↦ rw stays (fewer s now jobs later (All-tail named placed later each))
      | inl goes ↦ rw goes (inr (omega (arith, most, sum_by-map waits change jobs, less)))
    ]
  where
    lost : (parts : List Part) (names : List (List ℕ))
        → Any (λ (job : JobRecord). (job.id ≡ placed.id) × (is_pending job.state ≡ true)) jobs
        → Any (λ job. waits (started_as now placed.id parts names job) < waits job) jobs
    lost parts names (k, job, inside, is, (here, pending)) =
        (k, job, inside, is, rw (eq-eqb job.id placed.id here, pending) (omega arith))

-- And only an idle pass does.
pub unchanged-idle : NothingCharged → OrderMoves JobRecord → PlanIds → (s : State) (now : ℕ) → pass_after s now ≡ s
    → is_idle s now ≡ true
unfolding is_idle
unchanged-idle nothing moves ids s now passed =
    let nobody : victims_in s now ≡ [] = nobody-went moves s now (ap (λ (after : State). after.jobs) passed) in
    let same : begun_in s now ≡ s = sym (nobody-gone nothing s now nobody) ∙ passed in
    let plan = placements s now in
    let left = jobs_left s now in
    let jobs : (outcome s now).jobs ≡ s.jobs = ap (λ (after : State). after.jobs) same in
    let arrays : arrays_left left s.arrays ≡ s.arrays = ap (λ (after : State). after.arrays) same in
    let last : lasting now s.reservations ≡ s.reservations = ap (λ (after : State). after.reservations) same in
    let waiting = left-less waits (λ job. 0) (timed_out now) (goes s now) s.jobs
    (λ job. grind (arith, nat_tests, running-not_ended job.state)) in
    let running = left-less runs (λ job. cond (is_over now job) 1 0) (timed_out now) (goes s now) s.jobs
    (λ job. grind (arith, nat_tests)) in
    elim (fewer s now left plan (plan-waits moves ids (ready s now) now)) [
      | inr less ↦ absurd (omega (arith, less, waiting, ap (sum_by waits) jobs))
      | inl none ↦
          let all : left ≡ s.jobs = sym (none-start s now left plan none) ∙ jobs in
          let none_over : count_by (is_over now) s.jobs ≡ 0 = omega (arith, running, ap (sum_by runs) all) in
          rw (
            none_over,
            nobody,
            eq-eqb (length left) (length s.jobs) (ap length all),
            eq-eqb (length (arrays_left left s.arrays)) (length s.arrays) (ap length arrays),
            eq-eqb (length (lasting now s.reservations)) (length s.reservations) (ap length last),
            none,
            (plans-same (outcome s now).stays s.plan).1 (ap (λ (after : State). after.plan) same),
          ) refl
    ]

-- where a job comes from that runs
abbrev IsOrigin : State → ℕ → JobRecord → Type 0
IsOrigin s now job = is_running job.state ≡ true
    → Contains s.jobs job ⊎ Any (λ (placed : Placed). (placed.id ≡ job.id) × (placed.start ≡ now)) (placements s now)

-- A job that runs after the starts ran before it just so, or a placement that begins now is of it.
begun-origins : (s : State) (now : ℕ) → All (IsOrigin s now) (outcome s now).jobs
begun-origins s now =
    let plan = placements s now in
    let Origin : JobRecord → Type 0 = IsOrigin s now in
    let ran = All-weaker (Contains s.jobs) (λ job. Origin (timed_out now job))
    (λ job is. by_limit Origin now job (λ over running runs. absurd (both_ways false refl runs))
    (λ within runs. inl is)) s.jobs (All-contains_itself s.jobs) in
    started-keeps (All Origin) s now (jobs_left s now) plan
    (λ k d below due some parts names each. let placed = get_or plan k d in
    let start = started_as now placed.id parts names in
    All-map Origin start some (All-weaker Origin (λ job. Origin (start job))
    (λ job has. cond_both (eqb job.id placed.id) (changed (Start now parts names) job) job Origin
    (λ same runs. inr (
      k,
      placed,
      below,
      get_or_default plan k placed d below,
      (sym (eqb-true job.id placed.id same), due),
    )) (λ other. has)) some each))
    (All-filter (λ job. not (goes s now job)) Origin (map (timed_out now) s.jobs)
    (All-map Origin (timed_out now) s.jobs ran))

-- So does one that runs after the pass: whoever goes runs no more.
pub origins : (s : State) (now : ℕ)
    → All (λ (job : JobRecord). is_running job.state ≡ true
    → Contains s.jobs job ⊎ Any (λ (placed : Placed). (placed.id ≡ job.id)
    × (placed.start ≡ now)) (placements s now)) (pass_after s now).jobs
origins s now =
    let gone = victims_in s now in
    All-map (IsOrigin s now) (preempted now gone) (outcome s now).jobs
    (All-weaker (IsOrigin s now) (λ job. IsOrigin s now (preempted now gone job))
    (λ job has. by_victim (IsOrigin s now) now gone job
    (λ goes runs. absurd (both_ways _ (left-stopped now job) runs)) (λ stays. has))
    (outcome s now).jobs (begun-origins s now))

-- The placements that are due in a pass can start one after another.
pub can-start_due : ReadyLaws → PlanLaws → (s : State) (now : ℕ) → IsSound s → s.moment ≤ now → now ≤ last_moment
    → CanStart (readied s now) (placements_due s now)
can-start_due readies plans s now sound raised in_time =
    can-due (readied s now) s (placements s now) (can-start_ready readies plans s now sound raised in_time)

-- The starts keep all sound.
pub sound-begun : ReadyLaws → PlanLaws → StartLaws → (s : State) (now : ℕ) → IsSound s → s.moment ≤ now
    → now ≤ last_moment → IsSound (stamped now (begun_in s now))
sound-begun readies plans starts s now sound raised in_time =
    let left = readied s now in
    rw (← started-same s now now left.jobs left.jobs left.usage left.arrays left.reservations [] (placements s now))
    (sound-started starts left (jobs_left s now) (placements s now)
    (can-start_ready readies plans s now sound raised in_time))

-- A pass keeps all sound.
pub sound-passed : ReadyLaws → PlanLaws → StartLaws → GoneLaws → (s : State) (now : ℕ) → IsSound s → s.moment ≤ now
    → now ≤ last_moment → IsSound (stamped now (pass_after s now))
sound-passed readies plans starts going s now sound raised in_time =
    sound-gone going s now in_time (sound-begun readies plans starts s now sound raised in_time)

-- Each placement that is due is of a job that has started with all that was planned for it; or it stays, and was held
-- back.
given-begun : ReadyLaws → PlanLaws → StartLaws → (s : State) (now : ℕ) → IsSound s → s.moment ≤ now
    → now ≤ last_moment → All (IsGiven s now (jobs_left s now) (outcome s now)) (placements s now)
unfolding may_start
given-begun readies plans starts s now sound raised in_time =
    let left = readied s now in
    let given : All (IsGiven s now left.jobs (started left now left.jobs (placements s now))) (placements s now) =
    λ k d below due. elim (all-given starts left left.jobs (placements s now)
    (can-start_ready readies plans s now sound raised in_time) k d below due) [
      | inl has ↦ inl has
      | inr (stands, held) ↦
          inr (stands, record { before = held.before; some = held.some; waits = held.waits; reached = held.reached })
    ] in
    rw (← started-same s now now left.jobs left.jobs left.usage left.arrays left.reservations [] (placements s now)) given

-- and stays so after the pass
pub given-passed : ReadyLaws → PlanLaws → StartLaws → AwaitedThroughChanges → (s : State) (now : ℕ) → IsSound s
    → s.moment ≤ now → now ≤ last_moment
    → All (λ (placed : Placed). placed.start ≡ now → Any (HasStarted now placed) (pass_after s now).jobs
    ⊎ (Contains (pass_after s now).plan placed
    × WasHeldBack s now (jobs_left s now) (outcome s now).starts placed.id)) (placements s now)
given-passed readies plans starts law s now sound raised in_time k d below due =
    elim (given-begun readies plans starts s now sound raised in_time k d below due) [
      | inl has ↦ inl (started-stays law plans.moves s now (get_or (placements s now) k d) sound
          (plan-waits plans.moves plans.ids (ready s now) now k d below) has)
      | inr held ↦ inr held
    ]
