-- What is done to a job, to the job at a place, and to all jobs target by target.
use Rattle.std.proofs.Common.{ℕ, zero, suc, ◌≡◌, ◌+◌, ◌<◌, ◌≤◌, Bool, true, false, ◌&&◌, ◌||◌, List, [], ◌∷◌, length, map, get_or, HoldsAt, Option, Some, None, drop, refl, sym, ap, subst, ◌∙◌, arith, inl, inr}
use Rattle.std.specs.List.{AllPairs}
use Rattle.std.specs.Option.{IfSome}
use Rattle.std.proofs.lemmas.Bool.{and_right, cases_Bool, cond-false, cond_both}
use Rattle.std.proofs.lemmas.Bool.Decides.{nat_tests}
use Rattle.std.proofs.lemmas.List.{drop_more, get_or_default, get_or-map, length-map}
use Rattle.std.proofs.lemmas.List.Elements.{All-map, All-weaker, at_read}
use Rattle.plain_data.specs.declared.array.ArraySpec.{ArraySpec}
use Rattle.plain_data.specs.declared.limit.Limit.{Limit}
use Rattle.plain_data.specs.declared.nice.Nice.{Nice}
use Rattle.request_data.specs.declared.state.HeldBy.{HeldBy}
use Rattle.request_data.specs.declared.state.HeldBy.TheVariants as held
use Rattle.request_data.specs.declared.state.JobState.{JobState}
use Rattle.request_data.specs.declared.target.Target.{Target}
use Rattle.job_table.specs.declared.record.Part.{Part}
use Rattle.job_table.specs.declared.record.JobRecord.{JobRecord}
use Rattle.job_table.specs.declared.change.Change.{Change}
use Rattle.job_table.specs.Changes.{changed}
use Rattle.job_table.specs.Table.{HaveRisingIds}
use Rattle.job_table.specs.Targets.{AreTogether, is_named, is_named_by}
use Rattle.job_table.specs.Walks.{SameAtPlace, WalkGoesOn, WalkKeepsLength, map_at, walked}
use Rattle.ctl_state.specs.State.{State}
use Rattle.ctl_jobs.specs.declared.action.Action.{Action}
use Rattle.ctl_jobs.specs.declared.action.Action.TheVariants.{Cancel, Hold, Release, Requeue, Update}
use Rattle.ctl_jobs.specs.Actions.{cancelled, cancelled_in, done_to, held_after, is_by_admin, job_refusal, with_limit, with_nice}
use Rattle.ctl_jobs.specs.Changing.{are_naming, done_if, done_where, may_do}

-- What is done to a job twice is done once.
cancelled-twice : (now : ℕ) (job : JobRecord) (state : JobState) → job.state ≡ state
    → cancelled now (cancelled_in now job state) ≡ cancelled_in now job state
cancelled-twice now job state is = grind (arith, nat_tests)

held-twice : (user : List ℕ) (for_owner : Bool) (job : JobRecord) (by : HeldBy) → held_after user for_owner job ≡ by
    → held_after user for_owner (record job { held_by = by }) ≡ by
held-twice user for_owner job held.Nobody is = grind (arith, nat_tests)
held-twice user for_owner job held.User is = grind (arith, nat_tests)
held-twice user for_owner job held.Admin is = refl

left-twice : (now : ℕ) (user : List ℕ) (job : JobRecord) (state : JobState) → job.state ≡ state
    → done_to now user Requeue (done_to now user Requeue job) ≡ done_to now user Requeue job
left-twice now user job state is = grind (arith, nat_tests)

updated-twice : (limit : Option Limit) (nice : Option Nice) (job : JobRecord)
    → with_nice nice (with_limit limit (with_nice nice (with_limit limit job))) ≡ with_nice nice (with_limit limit job)
updated-twice None None job = refl
updated-twice None (Some nice) job = refl
updated-twice (Some limit) None job = refl
updated-twice (Some limit) (Some nice) job = refl

twice : (now : ℕ) (user : List ℕ) (action : Action) (job : JobRecord)
    → done_to now user action (done_to now user action job) ≡ done_to now user action job
twice now user Cancel job = cancelled-twice now job job.state refl
twice now user (Hold for_owner) job =
    let by = held_after user for_owner job in
    ap (λ other. record job { held_by = other }) (held-twice user for_owner job by refl)
twice now user Release job = refl
twice now user Requeue job = left-twice now user job job.state refl
twice now user (Update limit nice) job = updated-twice limit nice job

-- What stays of a job: its number, its array, its index and its parts.
record Stays (job after : JobRecord) : Type 0 where
  id : after.id ≡ job.id
  array : after.array ≡ job.array
  index : after.index ≡ job.index
  parts : after.parts ≡ job.parts

stays-same : (job : JobRecord) → Stays job job
stays-same job = record { id = refl; array = refl; index = refl; parts = refl }

stays-cancelled : (now : ℕ) (job : JobRecord) (state : JobState) → Stays job (cancelled_in now job state)
stays-cancelled now job state = record {
  id = grind (arith, nat_tests);
  array = grind (arith, nat_tests);
  index = grind (arith, nat_tests);
  parts = grind (arith, nat_tests);
}

stays-left : (now : ℕ) (user : List ℕ) (job : JobRecord) (state : JobState) → job.state ≡ state
    → Stays job (done_to now user Requeue job)
stays-left now user job state is = record {
  id = grind (arith, nat_tests);
  array = grind (arith, nat_tests);
  index = grind (arith, nat_tests);
  parts = grind (arith, nat_tests);
}

stays-updated : (limit : Option Limit) (nice : Option Nice) (job : JobRecord)
    → Stays job (with_nice nice (with_limit limit job))
stays-updated None None job = stays-same job
stays-updated None (Some nice) job = record { id = refl; array = refl; index = refl; parts = refl }
stays-updated (Some limit) None job = record { id = refl; array = refl; index = refl; parts = refl }
stays-updated (Some limit) (Some nice) job = record { id = refl; array = refl; index = refl; parts = refl }

stays-done : (now : ℕ) (user : List ℕ) (action : Action) (job : JobRecord) → Stays job (done_to now user action job)
stays-done now user Cancel job = stays-cancelled now job job.state
stays-done now user (Hold for_owner) job = record { id = refl; array = refl; index = refl; parts = refl }
stays-done now user Release job = record { id = refl; array = refl; index = refl; parts = refl }
stays-done now user Requeue job = stays-left now user job job.state refl
stays-done now user (Update limit nice) job = stays-updated limit nice job

stays-where : (s : State) (now : ℕ) (user : List ℕ) (action : Action) (named : Bool) (job : JobRecord)
    → Stays job (done_where s now user action named job)
stays-where s now user action named job =
    cond_both (named && may_do s user action job) _ job (Stays job)
    (λ h. stays-done now user action job) (λ h. stays-same job)

-- so it is named as before
named-by : (id : ℕ) (index : Option ℕ) (one job : JobRecord) → Stays job one
    → is_named_by id index one ≡ is_named_by id index job
named-by id None one job stays = rw (stays.id, stays.array) refl
named-by id (Some index) one job stays = rw (stays.array, stays.index) refl

named-alike : (one job : JobRecord) (targets : List Target) → Stays job one → are_naming targets one ≡ are_naming targets job
named-alike one job [] stays = refl
named-alike one job (target ∷ later) stays =
    let here = named-by target.id target.index one job stays in
    let rest = named-alike one job later stays in
    cc

-- the numbers go on rising, and the tasks of an array stay together
pairs-map : {X : Type 0} (R : X → X → Type 0) (f : X → X) (xs : List X) → ((x y : X) → R x y → R (f x) (f y))
    → AllPairs R xs → AllPairs R (map f xs)
pairs-map R f xs keeps pairs = λ i j d before within.
    let inside : j < length xs = rw length-map at within in
    rw (get_or-map f xs i d d (omega arith), get_or-map f xs j d d inside)
    (keeps (get_or xs i d) (get_or xs j d) (pairs i j d before inside))

rise_on : (f : JobRecord → JobRecord) (jobs : List JobRecord) → ((job : JobRecord) → (f job).id ≡ job.id)
    → HaveRisingIds jobs → HaveRisingIds (map f jobs)
rise_on f jobs id rising = pairs-map (λ (one other : JobRecord). one.id < other.id) f jobs
    (λ one other less. rw (id one, id other) less) rising

stay_together : (f : JobRecord → JobRecord) (jobs : List JobRecord) → ((job : JobRecord) → (f job).id ≡ job.id)
    → ((job : JobRecord) → (f job).array ≡ job.array)
    → AreTogether jobs → AreTogether (map f jobs)
stay_together f jobs id array are =
    let After : JobRecord → Type 0 = λ job. IfSome job.array (λ array. array ≤ job.id) in
    record {
      after = All-map After f jobs (All-weaker After (λ job. After (f job))
          (λ job is. rw (id job, array job) is) jobs are.after);
      together = pairs-map (λ (one other : JobRecord). IfSome other.array
          (λ array. array ≤ one.id → one.array ≡ Some array)) f jobs
          (λ one other is. rw (id one, array one, array other) is) are.together;
    }

-- the job at a place, by what was read there
pub goes_at : (s : State) (now : ℕ) (user : List ℕ) (action : Action) (named : Bool) (jobs : List JobRecord)
    (place : ℕ) (job : JobRecord) → place < length jobs → job ≡ get_or jobs place job
    → named ≡ true → may_do s user action job ≡ true
    → HoldsAt (λ one. done_to now user action one ≡ done_where s now user action named one) jobs place
goes_at s now user action named jobs place job inside read is free =
    at_read jobs (λ one. done_to now user action one ≡ done_where s now user action named one) place job inside read
    (rw (is, free) refl)

pub stays_at : (s : State) (now : ℕ) (user : List ℕ) (action : Action) (named : Bool) (jobs : List JobRecord)
    (place : ℕ) (job : JobRecord) → place < length jobs → job ≡ get_or jobs place job
    → may_do s user action job ≡ false → HoldsAt (λ one. done_where s now user action named one ≡ one) jobs place
stays_at s now user action named jobs place job inside read refused =
    at_read jobs (λ one. done_where s now user action named one ≡ one) place job inside read
    (cond-false (named && may_do s user action job) (done_to now user action job) job (and_right named _ refused))

-- One step of a walk that changes those that a test finds.
pub step : SameAtPlace JobRecord → WalkGoesOn JobRecord → WalkKeepsLength JobRecord
    → (s before after : State) (now : ℕ) (user : List ℕ) (action : Action) (test : JobRecord → Bool) (place : ℕ)
    (named : Bool) (job : JobRecord) (used more : List ℕ)
    → before ≡ record s {
      jobs = walked (λ one. done_where s now user action (test one) one) place s.jobs;
      usage = used;
    }
    → place < length s.jobs → job ≡ get_or before.jobs place job → named ≡ test job
    → after ≡ record before { jobs = map_at place (done_where before now user action named) before.jobs; usage = more }
    → after ≡ record s {
      jobs = walked (λ one. done_where s now user action (test one) one) (place + 1) s.jobs;
      usage = more;
    }
unfolding job_refusal
step same goes_on keeps s before after now user action test place named job used more is inside read tested made =
    let f : JobRecord → JobRecord = λ one. done_where s now user action (test one) one in
    let w = walked f place s.jobs in
    let here : job ≡ get_or w place job = rw is at read in
    let now_made : after ≡ record s { jobs = map_at place (done_where s now user action named) w; usage = more } =
    rw is at made in
    let alike : map_at place (done_where s now user action named) w ≡ map_at place f w =
    same (done_where s now user action named) f place w
    (at_read w (λ one. done_where s now user action named one ≡ f one) place job
    (omega (arith, keeps f place s.jobs)) here (rw tested refl)) in
    now_made ∙ ap (λ jobs. record s { jobs = jobs; usage = more }) (alike ∙ goes_on f place s.jobs inside)

-- A target more: what is done to a job once isn't done to it again.
map-twice : {X : Type 0} (f g h : X → X) (xs : List X) → ((x : X) → f (g x) ≡ h x) → map f (map g xs) ≡ map h xs
map-twice f g h [] same = refl
map-twice f g h (x ∷ xs) same = let here = same x in let rest = map-twice f g h xs same in cc

again : (s : State) (now : ℕ) (user : List ℕ) (action : Action) (named later : Bool) (job : JobRecord)
    → done_where s now user action later (done_where s now user action named job)
    ≡ done_where s now user action (named || later) job
again s now user action named later job =
    let stays : (one : JobRecord) → may_do s user action one ≡ false → done_where s now user action later one ≡ one =
    λ one refused. cond-false (later && may_do s user action one) (done_to now user action one) one
    (and_right later _ refused) in
    let once = done_to now user action job in
    let no_more : done_where s now user action later once ≡ once =
    cond_both (later && may_do s user action once) (done_to now user action once) once (λ one. one ≡ once)
    (λ h. twice now user action job) (λ h. refl) in
    elim (cases_Bool named) [
      | inl is ↦ elim (cases_Bool (may_do s user action job)) [
        | inl free ↦ rw (is, free) no_more
        | inr kept ↦ rw (is, kept) (stays job kept)
      ]
      | inr other ↦ rw other refl
    ]

-- the jobs once one target's have changed
abbrev target_done : State → ℕ → List ℕ → Action → Target → JobRecord → JobRecord
target_done s now user action target job = done_where s now user action (is_named target job) job

then-later : (s : State) (now : ℕ) (user : List ℕ) (action : Action) (target : Target) (later : List Target)
    (job : JobRecord)
    → done_if s now user action (are_naming later) (target_done s now user action target job)
    ≡ done_if s now user action (are_naming (target ∷ later)) job
then-later s now user action target later job =
    let named = is_named target job in
    ap (λ other. done_where s now user action other (target_done s now user action target job))
    (named-alike (target_done s now user action target job) job later (stays-where s now user action named job))
    ∙ again s now user action named (are_naming later job) job

one_more : (s : State) (now : ℕ) (user : List ℕ) (action : Action) (target : Target) (later : List Target)
    (jobs : List JobRecord)
    → map (done_if s now user action (are_naming later)) (map (target_done s now user action target) jobs)
    ≡ map (done_if s now user action (are_naming (target ∷ later))) jobs
one_more s now user action target later jobs =
    map-twice (done_if s now user action (are_naming later)) (target_done s now user action target)
    (done_if s now user action (are_naming (target ∷ later))) jobs (then-later s now user action target later)

-- a step of the walk over the targets
made-of : (s before after : State) (now : ℕ) (user : List ℕ) (action : Action) (target : Target)
    (jobs : List JobRecord) (used more : List ℕ) → before ≡ record s { jobs = jobs; usage = used }
    → after ≡ record before { jobs = map (target_done before now user action target) before.jobs; usage = more }
    → after ≡ record s { jobs = map (target_done s now user action target) jobs; usage = more }
unfolding job_refusal
made-of s before after now user action target jobs used more is made = rw is at made

pub others_stay : (s before after : State) (now : ℕ) (user : List ℕ) (action : Action) (target : Target)
    (jobs : List JobRecord) (used more : List ℕ) → before ≡ record s { jobs = jobs; usage = used }
    → after ≡ record before { jobs = map (target_done before now user action target) before.jobs; usage = more }
    → after ≡ record s { jobs = after.jobs; usage = more }
others_stay s before after now user action target jobs used more is made =
    let e = made-of s before after now user action target jobs used more is made in
    e ∙ ap (λ jobs. record s { jobs = jobs; usage = more }) (sym (ap (λ (state : State). state.jobs) e))

pub next_target : (s before after : State) (now : ℕ) (user : List ℕ) (action : Action) (targets : List Target)
    (index : ℕ) (d : Target) (jobs : List JobRecord) (used more : List ℕ)
    → before ≡ record s { jobs = jobs; usage = used }
    → after ≡ record before {
      jobs = map (target_done before now user action (get_or targets index d)) before.jobs;
      usage = more;
    }
    → index < length targets
    → map (done_if s now user action (are_naming (drop (index + 1) targets))) after.jobs
    ≡ map (done_if s now user action (are_naming (drop index targets))) jobs
next_target s before after now user action targets index d jobs used more is made inside =
    let target = get_or targets index d in
    ap (λ (state : State). map (done_if s now user action (are_naming (drop (index + 1) targets))) state.jobs)
    (made-of s before after now user action target jobs used more is made)
    ∙ one_more s now user action target (drop (index + 1) targets) jobs
    ∙ ap (λ later. map (done_if s now user action (are_naming later)) jobs) (sym (drop_more targets index d inside))

pub still_rising : (s before after : State) (now : ℕ) (user : List ℕ) (action : Action) (target : Target)
    (jobs : List JobRecord) (used more : List ℕ) → before ≡ record s { jobs = jobs; usage = used }
    → after ≡ record before { jobs = map (target_done before now user action target) before.jobs; usage = more }
    → HaveRisingIds jobs → HaveRisingIds after.jobs
still_rising s before after now user action target jobs used more is made rising =
    subst HaveRisingIds
    (sym (ap (λ (state : State). state.jobs) (made-of s before after now user action target jobs used more is made)))
    (rise_on (target_done s now user action target) jobs
    (λ job. (stays-where s now user action (is_named target job) job).id) rising)

pub still_together : (s before after : State) (now : ℕ) (user : List ℕ) (action : Action) (target : Target)
    (jobs : List JobRecord) (used more : List ℕ) → before ≡ record s { jobs = jobs; usage = used }
    → after ≡ record before { jobs = map (target_done before now user action target) before.jobs; usage = more }
    → AreTogether jobs → AreTogether after.jobs
still_together s before after now user action target jobs used more is made are =
    subst AreTogether
    (sym (ap (λ (state : State). state.jobs) (made-of s before after now user action target jobs used more is made)))
    (stay_together (target_done s now user action target) jobs
    (λ job. (stays-where s now user action (is_named target job) job).id)
    (λ job. (stays-where s now user action (is_named target job) job).array) are)

-- the job at a place changes by the change for what was read there
pub changed_at : SameAtPlace JobRecord → (f : JobRecord → JobRecord) (place : ℕ) (jobs : List JobRecord)
    (d : JobRecord) (change : Change)
    → place < length jobs → changed change (get_or jobs place d) ≡ f (get_or jobs place d)
    → map_at place (changed change) jobs ≡ map_at place f jobs
changed_at same f place jobs d change inside fits =
    same (changed change) f place jobs
    (at_read jobs (λ job. changed change job ≡ f job) place (get_or jobs place d) inside
    (get_or_default jobs place d (get_or jobs place d) inside) fits)

pub cancelled_at : SameAtPlace JobRecord → (now place : ℕ) (jobs : List JobRecord) (d : JobRecord) (state : JobState)
    (change : Change)
    → place < length jobs → (get_or jobs place d).state ≡ state
    → ((job : JobRecord) → changed change job ≡ cancelled_in now job state)
    → map_at place (changed change) jobs ≡ map_at place (cancelled now) jobs
cancelled_at same now place jobs d state change inside is fits =
    changed_at same (cancelled now) place jobs d change inside
    (fits (get_or jobs place d) ∙ sym (ap (cancelled_in now (get_or jobs place d)) is))

-- It takes nothing from the parts.
pub parts_kept : (s : State) (now : ℕ) (user : List ℕ) (action : Action) (named : Bool) (job : JobRecord)
    → (done_where s now user action named job).parts ≡ job.parts
parts_kept s now user action named job = (stays-where s now user action named job).parts

pub length_map_at : {X : Type 0} (f : X → X) (place : ℕ) (xs : List X) → length (map_at place f xs) ≡ length xs
length_map_at f place [] = refl
length_map_at f zero (x ∷ xs) = refl
length_map_at f (suc place) (x ∷ xs) = ap suc (length_map_at f place xs)
