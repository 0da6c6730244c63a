-- After a pass no running job is past its limit.
use Rattle.std.proofs.Common.{ℕ, ◌≡◌, ◌≤◌, ◌<◌, ◌+◌, ◌∙◌, Bool, true, false, ◌&&◌, not, List, [], ◌∷◌, map, count_by, cond, All, Some, None, refl, ap, subst, arith, inl, inr, nat_eq}
use Rattle.std.specs.Prelude.{nat_le}
use Rattle.std.specs.List.{list_any}
use Rattle.std.proofs.lemmas.Bool.{and_cases, and_left, and_parts, both_ways, cases_Bool, cond_both, eqb-true, leb-false, lt-leb, not-true}
use Rattle.std.proofs.lemmas.List.Elements.{All-cons, All-filter, All-nil, All-weaker}
use Rattle.list_lemmas.proofs.Sums.{count-cons as count_cons}
use Rattle.plain_data.specs.declared.limit.Limit.{Limit}
use Rattle.plain_data.specs.declared.limit.Limit.TheVariants.{Minutes, Unlimited}
use Rattle.backfill_planner.specs.declared.Placed.{Placed}
use Rattle.reply_data.specs.declared.reply.Reply.{Reply}
use Rattle.request_data.specs.declared.request.Request.TheVariants.{Pass}
use Rattle.request_data.specs.declared.state.Final.{Final}
use Rattle.request_data.specs.declared.state.Final.TheVariants as final
use Rattle.request_data.specs.declared.state.JobState.{JobState}
use Rattle.request_data.specs.declared.state.JobState.TheVariants.{Pending, Running, Completing, Ended}
use Rattle.job_table.specs.declared.record.JobRecord.{JobRecord}
use Rattle.job_table.specs.declared.record.Part.{Part}
use Rattle.job_table.specs.declared.change.Change.TheVariants.{Leave, Start}
use Rattle.job_table.specs.Changes.{changed, with_left}
use Rattle.job_table.specs.JobStates.{is_running}
use Rattle.job_table.specs.Table.{has_id}
use Rattle.ctl_state.specs.Events.{started_as}
use Rattle.ctl_state.specs.Holds.{deadline, limit_end}
use Rattle.ctl_state.specs.Soundness.{IsKept, IsLimit, IsSound}
use Rattle.ctl_state.specs.State.{State, last_moment}
use Rattle.ctl_state.specs.Verdicts.{Makes, Stays}
use Rattle.ctl_nodes.specs.Failing.{after_loss, failed, failing, loses, off_lost, parts_kept}
use Rattle.ctl_pass.specs.Limits.{is_over, timed_out}
use Rattle.ctl_pass.specs.Passing.{is_idle, jobs_ended, outcome}
use Rattle.ctl_pass.specs.Preempting.{preempted, victims_in}
use Rattle.ctl_pass.specs.Readiness.{goes, jobs_left, placements}
use Rattle.ctl_pass.specs.Starting.{Started, begun, may_start, start_of, started}
use Rattle.ctl_node_side.specs.Passes.{after_pass, made_by_pass, pass_is_idle}
use Rattle.ctl_node_side.specs.Silence.{any_silent, silent_at, silenced, without_silent}
use Rattle.ctl_core.specs.Step.{is_entered, is_made, raised, reply_of, state_after}
use Rattle.user_laws.proofs.Lists.{all_mapped}
use Rattle.step_lemmas.proofs.Making.{MakesBy, made_by}
use Rattle.step_lemmas.proofs.Steps.{step_says}

-- the job's limit is in its range
abbrev Limited : JobRecord → Type 0
Limited job = IsLimit job.limit

-- and the job isn't over it
record Within (now : ℕ) (job : JobRecord) : Type 0 where
  pub limited : IsLimit job.limit
  pub not_over : is_over now job ≡ false

-- ---- nodes that are lost leave limits as they are

left-limited : (now : ℕ) (end : Final) (rest : List Part) (job : JobRecord) → Limited job
    → Limited (with_left now end rest job)
left-limited now end [] job is = is
left-limited now end (part ∷ later) job is = is

leave-limited : (end : Final) (now : ℕ) (job : JobRecord) → Limited job → Limited (changed (Leave end now None) job)
leave-limited end now job is =
    cond_both (is_running job.state) (record job { state = Completing end; ended = Some now; exit = None }) job Limited
    (λ ran. is) (λ not. is)

lost-limited : (now : ℕ) (lost : ℕ → Bool) (job : JobRecord) (state : JobState) → Limited job
    → Limited (off_lost now lost job state)
lost-limited now lost job Pending is = is
lost-limited now lost job Running is =
    left-limited now (failing job) (parts_kept lost job.parts) (failed now job)
    (leave-limited (failing job) now job is)
lost-limited now lost job (Completing end) is = left-limited now end (parts_kept lost job.parts) job is
lost-limited now lost job (Ended end) is = is

loss-limited : (now : ℕ) (lost : ℕ → Bool) (job : JobRecord) → Limited job → Limited (after_loss now lost job)
loss-limited now lost job is =
    cond_both (loses lost job) (off_lost now lost job job.state) job Limited
    (λ some. lost-limited now lost job job.state is) (λ none. is)

silenced-limited : (s : State) (now : ℕ) → All Limited s.jobs → All Limited (silenced s now).jobs
silenced-limited s now all =
    cond_both (any_silent s now) (without_silent s now) s (λ (t : State). All Limited t.jobs)
    (λ some. all_mapped Limited Limited (after_loss now (silent_at s now)) s.jobs
    (λ job is. loss-limited now (silent_at s now) job is) all)
    (λ none. all)

-- ---- who is over leaves Running

leave-within : (end : Final) (now : ℕ) (job : JobRecord) → Limited job → Within now (changed (Leave end now None) job)
leave-within end now job is = record {
  limited = leave-limited end now job is;
  not_over = cond_both (is_running job.state) (record job { state = Completing end; ended = Some now; exit = None }) job
      (λ (after : JobRecord). is_over now after ≡ false) (λ ran. refl) (λ not. and_left (is_running job.state) _ not);
}

over-within : (now : ℕ) (job : JobRecord) → Limited job → Within now (timed_out now job)
over-within now job is =
    cond_both (is_over now job) (changed (Leave final.Timeout now None) job) job (Within now)
    (λ over. leave-within final.Timeout now job is) (λ not. record { limited = is; not_over = not })

-- ---- and so does who goes for another

gone-within : (now : ℕ) (gone : List ℕ) (job : JobRecord) → Within now job → Within now (preempted now gone job)
gone-within now gone job is =
    cond_both (list_any (λ id. has_id id job) gone) (changed (Leave final.Requeue now None) job) job (Within now)
    (λ goes. leave-within final.Requeue now job is.limited) (λ stays. is)

-- ---- who starts is within

limit-ahead : (now : ℕ) (limit : Limit) → now ≤ last_moment → IsLimit limit → now < limit_end limit now
limit-ahead now (Minutes minutes) in_time is = omega (arith, is.0)
limit-ahead now Unlimited in_time is = omega (arith, in_time)

start-within : (now : ℕ) (parts : List Part) (names : List (List ℕ)) (job : JobRecord) → now ≤ last_moment
    → Within now job → Within now (changed (Start now parts names) job)
start-within now parts names job in_time is = record {
  limited = is.limited;
  not_over = lt-leb (limit_end job.limit now) now (limit-ahead now job.limit in_time is.limited);
}

starts-within : (s : State) (now : ℕ) → now ≤ last_moment → (jobs : List JobRecord) (plan : List Placed)
    → All (Within now) jobs → All (Within now) (started s now jobs plan).jobs
unfolding started
starts-within s now in_time jobs [] all = all
starts-within s now in_time jobs (placed ∷ later) all =
    let start = start_of s.nodes jobs placed in
    cond_both (nat_eq placed.start now && may_start s jobs placed.id) _ _
    (λ (after : Started). All (Within now) after.jobs)
    (λ starts. starts-within s now in_time (begun now jobs start) later
    (all_mapped (Within now) (Within now) (started_as now placed.id start.parts start.nodes) jobs
    (λ job is. cond_both (has_id placed.id job) (changed (Start now start.parts start.nodes) job) job (Within now)
    (λ this. start-within now start.parts start.nodes job in_time is) (λ other. is)) all))
    (λ stays. starts-within s now in_time jobs later all)

pass-within : (s : State) (now : ℕ) → IsSound s → now ≤ last_moment → All (Within now) (after_pass s now).jobs
pass-within s now sound in_time =
    let t = silenced s now in
    let limited = silenced-limited s now (All-weaker (IsKept s.moment) Limited (λ job kept. kept.limit) s.jobs sound.jobs) in
    let gone = victims_in t now in
    all_mapped (Within now) (Within now) (preempted now gone) (outcome t now).jobs
    (λ job is. gone-within now gone job is)
    (starts-within t now in_time (jobs_left t now) (placements t now)
    (All-filter (λ job. not (goes t now job)) (Within now) (map (timed_out now) t.jobs)
    (all_mapped Limited (Within now) (timed_out now) t.jobs (λ job is. over-within now job is) limited)))

-- ---- an idle pass finds none that is over

none-passes : {X : Type 0} (p : X → Bool) (xs : List X) → count_by p xs ≡ 0 → All (λ (x : X). p x ≡ false) xs
none-passes {X} p [] none = All-nil (λ (x : X). p x ≡ false)
none-passes {X} p (x ∷ xs) none =
    let step = count_cons p x xs in
    All-cons (λ (x : X). p x ≡ false) x xs
    (elim (cases_Bool (p x)) [
      | inl is ↦ absurd (omega (arith, step ∙ ap (λ b. cond b 1 0 + count_by p xs) is, none))
      | inr fails ↦ fails
    ])
    (none-passes p xs (omega (arith, step, none)))

idle-within : (s : State) (now : ℕ) → pass_is_idle s now ≡ true
    → All (λ (job : JobRecord). is_over now job ≡ false) s.jobs
unfolding is_idle
idle-within s now idle =
    let parts = and_parts (not (any_silent s now)) (is_idle (silenced s now) now) idle in
    let quiet = not-true (any_silent s now) parts.0 in
    let same : silenced s now ≡ s = rw quiet refl in
    let stays : is_idle s now ≡ true = subst (λ (t : State). is_idle t now ≡ true) same parts.1 in
    let none = eqb-true (jobs_ended s now) 0 (and_parts (nat_eq (jobs_ended s now) 0) _ stays).0 in
    none-passes (is_over now) s.jobs (omega (arith, none))

-- ---- both

-- an end lies ahead of who runs and isn't over
ahead : (now : ℕ) (job : JobRecord) → is_over now job ≡ false → is_running job.state ≡ true → now < deadline job
ahead now job not_over runs =
    elim (and_cases (is_running job.state) (nat_le (deadline job) now) not_over) [
      | inl never ↦ absurd (both_ways (is_running job.state) never runs)
      | inr later ↦ leb-false (deadline job) now later
    ]

abbrev Ends : ℕ → JobRecord → Type 0
Ends now job = is_running job.state ≡ true → now < deadline job

pass-ends : (s : State) (now : ℕ) → IsSound s → now ≤ last_moment
    → MakesBy (λ reply (after : State). All (Ends now) after.jobs) (made_by_pass s now)
pass-ends s now sound in_time =
    cond_both (pass_is_idle s now) Stays _ (MakesBy (λ reply (after : State). All (Ends now) after.jobs)) (λ idle. tt)
    (λ busy. All-weaker (Within now) (Ends now) (λ job within. ahead now job within.not_over) (after_pass s now).jobs
    (pass-within s now sound in_time))

pub idle_stays : (s : State) (now : ℕ) → made_by_pass s now ≡ Stays → pass_is_idle s now ≡ true
idle_stays s now stays = elim (cases_Bool (pass_is_idle s now)) [
  | inl idle ↦ idle
  | inr busy ↦ absurd (let makes = rw busy at stays in cc)
]

-- what a pass makes is entered
pub unentered : (s : State) (now : ℕ) (reply : Reply) (after : State) → made_by_pass s now ≡ Makes reply after
    → is_entered reply ≡ false → ⊥
unentered s now reply after makes never =
    made_by (λ (reply : Reply) (after : State). is_entered reply ≡ false → ⊥)
    (cond_both (pass_is_idle s now) Stays _ (MakesBy (λ reply (after : State). is_entered reply ≡ false → ⊥))
    (λ idle. tt) (λ busy never. both_ways true never refl)) makes never

pub none_late : (s : State) (now : ℕ) (user : List ℕ) → IsSound s → is_made (reply_of s now user Pass) ≡ true
    → All (λ (job : JobRecord). is_running job.state ≡ true → raised s now < deadline job)
    (state_after s now user Pass).jobs
none_late s now user sound =
    let moment = raised s now in
    let Q = λ (reply : Reply) (after : State). All (Ends moment) after.jobs in
    let P = λ (reply : Reply) (t : State). is_made reply ≡ true → All (Ends moment) t.jobs in
    step_says P s now user Pass (λ refusal never. absurd (both_ways false refl never))
    (λ view never. absurd (both_ways false refl never))
    (λ idle made. All-weaker (λ (job : JobRecord). is_over moment job ≡ false) (Ends moment)
    (λ job not_over. ahead moment job not_over) s.jobs (idle-within s moment (idle_stays s moment idle.stays)))
    (λ reply after is enters made. made_by Q
    (pass-ends s moment sound (omega (arith, sound.moment, is.in_time))) is.makes)
    (λ reply after is never made. absurd (unentered s moment reply after is.makes never))
