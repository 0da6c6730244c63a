-- Whoever is not privileged leaves others alone.
use Rattle.std.proofs.Common.{ℕ, ◌≡◌, ◌∙◌, Bool, true, false, ◌&&◌, not, List, [], ◌∷◌, ◌++◌, map, filter, All, Option, Some, None, refl, sym, ap, inl, inr, rules}
use Rattle.std.specs.Prelude.{bytes_eq}
use Rattle.std.specs.List.{enumerate_from}
use Rattle.std.proofs.lemmas.Bool.{both_ways, cases_Bool, cond_both, not-false, not-true, not_from_true, or_cases, or_parts, and_parts}
use Rattle.std.proofs.lemmas.List.{append-nil}
use Rattle.std.proofs.lemmas.List.Elements.{All-cons, All-nil, All-weaker, filter-append}
use Rattle.list_lemmas.proofs.Filters.{filter-none}
use Rattle.plain_data.specs.declared.array.ArraySpec.{ArraySpec}
use Rattle.plain_data.specs.declared.job.JobDesc.{JobDesc}
use Rattle.reply_data.specs.declared.refusal.Refusal.{Refusal}
use Rattle.reply_data.specs.declared.refusal.Refusal.TheVariants.{AccessDenied}
use Rattle.reply_data.specs.declared.reply.Reply.{Reply}
use Rattle.request_data.specs.declared.request.Request.{Request}
use Rattle.request_data.specs.declared.request.Request.TheVariants.{Submit}
use Rattle.job_table.specs.declared.record.JobRecord.{JobRecord}
use Rattle.ctl_state.specs.Refusals.{first_refusal, is_privileged, refused_if}
use Rattle.ctl_state.specs.State.{State}
use Rattle.ctl_jobs.specs.declared.action.Action.{Action}
use Rattle.ctl_jobs.specs.Actions.{done_to, is_denied, job_refusal, may_change}
use Rattle.ctl_jobs.specs.Changing.{change_after, done_if, may_do}
use Rattle.ctl_jobs.specs.Submission.{Basis, basis_of, made_under, new_arrays, new_jobs, submit_after, task}
use Rattle.ctl_core.specs.Step.{raised, refusals_of, state_after}
use Rattle.step_lemmas.proofs.Making.{ByAction, BySubmit, MakesBy, MayMake, made_by}
use Rattle.step_lemmas.proofs.Steps.{step_is}
use Rattle.user_laws.specs.Others.{AddsOwn, LeavesOthers}
use Rattle.user_laws.proofs.Changes.{done_if_goes}
use Rattle.user_laws.proofs.Lists.{none_is}

-- ---- lists of which some members stay

kept-map : {X : Type 0} (p : X → Bool) (f : X → X) (xs : List X) → ((x : X) → p (f x) ≡ p x)
    → ((x : X) → p x ≡ true → f x ≡ x) → filter p (map f xs) ≡ filter p xs
kept-map p f [] same stays = refl
kept-map p f (x ∷ xs) same stays = elim (cases_Bool (p x)) [
  | inl is ↦ rw (same x, is, stays x is) (ap (λ rest. x ∷ rest) (kept-map p f xs same stays))
  | inr not ↦ rw (same x, not) (kept-map p f xs same stays)
]

equal-itself : (text : List ℕ) → bytes_eq text text ≡ true
equal-itself text = search rules

-- ---- what users do to jobs

-- the first of the refusals doesn't stand
not-first : (refusal : Refusal) (stands : Bool) (later : List (Option Refusal))
    → first_refusal (refused_if stands refusal ∷ later) ≡ None → stands ≡ false
not-first refusal true later none = absurd (cc)
not-first refusal false later none = refl

-- who may do something to a job and isn't privileged is its user
own-done : (s : State) (user : List ℕ) (action : Action) (job : JobRecord) → is_privileged s user ≡ false
    → may_do s user action job ≡ true → bytes_eq job.user user ≡ true
unfolding job_refusal
own-done s user action job plain may =
    let none = none_is (job_refusal s user action job) may in
    let allowed = not-first AccessDenied (is_denied s user action job) _ none in
    let changes = not-false (may_change s user job.user) (or_parts (not (may_change s user job.user)) _ allowed).0 in
    elim (or_cases (is_privileged s user) (bytes_eq job.user user) changes) [
      | inl privileged ↦ absurd (both_ways (is_privileged s user) plain privileged)
      | inr own ↦ own
    ]

stays-other : (s : State) (now : ℕ) (user : List ℕ) (action : Action) (named : JobRecord → Bool) (job : JobRecord)
    → is_privileged s user ≡ false → not (bytes_eq job.user user) ≡ true
    → done_if s now user action named job ≡ job
stays-other s now user action named job plain other =
    cond_both (named job && may_do s user action job) (done_to now user action job) job
    (λ (after : JobRecord). after ≡ job)
    (λ is. absurd (both_ways (bytes_eq job.user user) (not-true (bytes_eq job.user user) other)
    (own-done s user action job plain (and_parts (named job) (may_do s user action job) is).1)))
    (λ not. refl)

leaves-all : (user : List ℕ) (s : State) → LeavesOthers user s s
leaves-all user s = record {
  jobs = refl;
  nodes = refl;
  partitions = refl;
  reservations = refl;
  settings = refl;
  assocs = refl;
  qos = refl;
}

change-leaves : (s : State) (now : ℕ) (user : List ℕ) (action : Action) (named : JobRecord → Bool)
    → is_privileged s user ≡ false → LeavesOthers user s (change_after s now user action named)
change-leaves s now user action named plain = record {
  jobs = kept-map (λ (job : JobRecord). not (bytes_eq job.user user)) (done_if s now user action named) s.jobs
      (λ job. ap (λ (name : List ℕ). not (bytes_eq name user)) (done_if_goes s now user action named job).user)
      (λ job other. stays-other s now user action named job plain other);
  nodes = refl;
  partitions = refl;
  reservations = refl;
  settings = refl;
  assocs = refl;
  qos = refl;
}

-- ---- submissions

tasks-own : (s : State) (now : ℕ) (user : List ℕ) (desc : JobDesc) (basis : Basis) (indices : List (ℕ × ℕ))
    → All (λ (job : JobRecord). job.user ≡ user) (map (task s now user desc basis) indices)
tasks-own s now user desc basis [] = All-nil (λ (job : JobRecord). job.user ≡ user)
tasks-own s now user desc basis ((place, index) ∷ later) =
    All-cons (λ (job : JobRecord). job.user ≡ user) (task s now user desc basis (place, index))
    (map (task s now user desc basis) later) refl (tasks-own s now user desc basis later)

jobs-own : (s : State) (now : ℕ) (user : List ℕ) (desc : JobDesc) (basis : Basis) (array : Option ArraySpec)
    → All (λ (job : JobRecord). job.user ≡ user) (new_jobs s now user desc basis array)
unfolding new_jobs
jobs-own s now user desc basis None =
    All-cons (λ (job : JobRecord). job.user ≡ user) _ [] refl (All-nil (λ (job : JobRecord). job.user ≡ user))
jobs-own s now user desc basis (Some array) = tasks-own s now user desc basis (enumerate_from 0 array.indices)

submit-leaves : (s : State) (now : ℕ) (user : List ℕ) (desc : JobDesc) (basis : Basis)
    → LeavesOthers user s (submit_after s (new_jobs s now user desc basis desc.array) (new_arrays s desc.array))
submit-leaves s now user desc basis =
    let new = new_jobs s now user desc basis desc.array in
    let other : JobRecord → Bool = λ job. not (bytes_eq job.user user) in
    record {
      jobs = filter-append other s.jobs new
          ∙ ap (λ (rest : List JobRecord). filter other s.jobs ++ rest)
          (filter-none other new
          (All-weaker (λ (job : JobRecord). job.user ≡ user) (λ (job : JobRecord). other job ≡ false)
          (λ job is. ap (λ (name : List ℕ). not (bytes_eq name user)) is
          ∙ not_from_true (bytes_eq user user) (equal-itself user)) new
          (jobs-own s now user desc basis desc.array)))
          ∙ append-nil (filter other s.jobs);
      nodes = refl;
      partitions = refl;
      reservations = refl;
      settings = refl;
      assocs = refl;
      qos = refl;
    }

submit-adds : (s : State) (now : ℕ) (user : List ℕ) (desc : JobDesc) (basis : Option Basis)
    → MakesBy (λ reply (after : State). AddsOwn user s.jobs after.jobs) (made_under s now user desc basis)
submit-adds s now user desc None = tt
submit-adds s now user desc (Some basis) = record {
  new = new_jobs s now user desc basis desc.array;
  behind = refl;
  own = jobs-own s now user desc basis desc.array;
}

pub own_added : (s : State) (now : ℕ) (user : List ℕ) (desc : JobDesc)
    → AddsOwn user s.jobs (state_after s now user (Submit desc)).jobs
own_added s now user desc =
    let Q = λ (reply : Reply) (after : State). AddsOwn user s.jobs after.jobs in
    step_is (λ (t : State). AddsOwn user s.jobs t.jobs) s now user (Submit desc)
    (record { new = []; behind = sym (append-nil s.jobs); own = All-nil (λ (job : JobRecord). job.user ≡ user) })
    (λ reply after is. made_by Q (submit-adds s (raised s now) user desc (basis_of s user desc)) is.makes)

-- ---- every request

-- what is for privileged users alone is refused
denied : (s after : State) (user : List ℕ) (later : List (Option Refusal)) → is_privileged s user ≡ false
    → first_refusal (refused_if (not (is_privileged s user)) AccessDenied ∷ later) ≡ None → LeavesOthers user s after
denied s after user later plain none =
    absurd (both_ways (is_privileged s user) plain
    (not-false (is_privileged s user) (not-first AccessDenied (not (is_privileged s user)) later none)))

leaves-by : (s : State) (now : ℕ) (user : List ℕ) (request : Request) (after : State) → is_privileged s user ≡ false
    → first_refusal (refusals_of s now user request) ≡ None → MayMake s now user request after
    → LeavesOthers user s after
leaves-by s now user request after plain none (BySubmit desc basis found) = submit-leaves s now user desc basis
leaves-by s now user request after plain none (ByAction action named asks) =
    change-leaves s now user action named plain
leaves-by s now user request after plain none other = denied s after user _ plain none

pub others_left : (s : State) (now : ℕ) (user : List ℕ) (request : Request) → is_privileged s user ≡ false
    → LeavesOthers user s (state_after s now user request)
others_left s now user request plain =
    step_is (LeavesOthers user s) s now user request (leaves-all user s)
    (λ reply after is.
    let leaves = leaves-by s (raised s now) user request after plain is.allowed is.kind in
    record {
      jobs = leaves.jobs;
      nodes = leaves.nodes;
      partitions = leaves.partitions;
      reservations = leaves.reservations;
      settings = leaves.settings;
      assocs = leaves.assocs;
      qos = leaves.qos;
    })
