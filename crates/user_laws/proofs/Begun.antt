-- A job that a pass starts has what it has asked for.
use Rattle.std.proofs.Common.{ℕ, ◌≡◌, ◌≤◌, ◌∙◌, Bool, true, List, [], ◌∷◌, All, Any, Contains, Some, None, get_or, slice_get, sum, refl, sym, subst, arith, inl, inr, ◌⊎◌}
use Rattle.std.specs.List.{AllZip}
use Rattle.std.proofs.lemmas.Bool.{cond_both, eq-eqb}
use Rattle.std.proofs.lemmas.List.Elements.{All-contains, Contains-get_or}
use Rattle.backfill_planner.specs.declared.Placed.{Placed}
use Rattle.reply_data.specs.declared.reply.Reply.{Reply}
use Rattle.request_data.specs.declared.request.Request.TheVariants.{Pass}
use Rattle.request_data.specs.declared.state.Final.{Final}
use Rattle.request_data.specs.declared.state.Final.TheVariants as final
use Rattle.request_data.specs.declared.state.JobState.{JobState}
use Rattle.request_data.specs.declared.state.JobState.TheVariants.{Pending, Running, Completing, Ended}
use Rattle.node_state.specs.declared.reservation_record.Reservation.{Reservation}
use Rattle.node_state.specs.Nodes.{is_named}
use Rattle.node_state.specs.ReservationLaws.{LastingTwice}
use Rattle.node_state.specs.Reservations.{lasting}
use Rattle.job_table.specs.declared.record.JobRecord.{JobRecord}
use Rattle.job_table.specs.declared.record.Part.{Part}
use Rattle.job_table.specs.declared.change.Change.TheVariants.{Leave}
use Rattle.job_table.specs.Changes.{changed, with_left}
use Rattle.job_table.specs.JobStates.{is_pending, is_running}
use Rattle.job_table.specs.Table.{has_id}
use Rattle.ctl_state.specs.Laws.{JobNodes}
use Rattle.ctl_state.specs.Planning.{bounds_in, is_at}
use Rattle.ctl_state.specs.Soundness.{IsKept, IsSound, pending_ids}
use Rattle.ctl_state.specs.State.{State, last_moment}
use Rattle.ctl_state.specs.Verdicts.{Stays, stamped}
use Rattle.ctl_nodes.specs.Failing.{after_loss, failed, failing, loses, off_lost, parts_kept}
use Rattle.ctl_pass.specs.Limits.{is_over}
use Rattle.ctl_pass.specs.Passing.{outcome}
use Rattle.ctl_pass.specs.Readiness.{jobs_left, placements, ready}
use Rattle.ctl_pass.specs.Starting.{HasStarted, WasHeldBack}
use Rattle.ctl_node_side.specs.Passes.{after_pass, pass_is_idle}
use Rattle.ctl_node_side.specs.Silence.{any_silent, silent_at, silenced}
use Rattle.ctl_core.specs.Sizes.{size_of}
use Rattle.ctl_core.specs.Step.{entered, raised, state_after}
use Rattle.user_laws.specs.Asked.{HasBegun, HasTasks, HasWhatWasAsked, IsForJob, room_under}
use Rattle.user_laws.proofs.Lists.{any_passes, any_unmapped}
use Rattle.user_laws.proofs.Needing.{IsNeedOf}
use Rattle.user_laws.proofs.Old.{found_by_pass, silenced_job}
use Rattle.user_laws.proofs.Starting.{Passes}
use Rattle.user_laws.proofs.States.{not_both}
use Rattle.step_lemmas.proofs.Making.{MakesBy, made_by}
use Rattle.step_lemmas.proofs.Steps.{step_is}
use Rattle.user_laws.proofs.Turning.{left_turns}
use Rattle.user_laws.proofs.Waiting.{WerePlanned, only_one}
use Rattle.user_laws.proofs.Asked.{ArePlaced, IsPlannedFor, PlannedFor, has_asked, planned_for}
use Rattle.ctl_node_side.proofs.Silent.{silenced_raised}
use Rattle.daemon_world.proofs.Lists.{any_weaker, any_of_all}
use Rattle.daemon_world.proofs.Starting.{only-waits as only_waits}

-- ---- what the first steps of a pass leave of a job

-- it is the same job, of the same partition, and on the same terms
record HasSameTerms (before after : JobRecord) : Type 0 where
  pub id : after.id ≡ before.id
  pub terms : after.terms ≡ before.terms
  pub partition : after.partition ≡ before.partition

itself-same : (job : JobRecord) → HasSameTerms job job
itself-same job = record { id = refl; terms = refl; partition = refl }

left-same : (now : ℕ) (end : Final) (rest : List Part) (before job : JobRecord) → HasSameTerms before job
    → HasSameTerms before (with_left now end rest job)
left-same now end [] before job is = record { id = is.id; terms = is.terms; partition = is.partition }
left-same now end (part ∷ later) before job is = record { id = is.id; terms = is.terms; partition = is.partition }

leave-same : (end : Final) (now : ℕ) (before job : JobRecord) → HasSameTerms before job
    → HasSameTerms before (changed (Leave end now None) job)
leave-same end now before job is =
    cond_both (is_running job.state) (record job { state = Completing end; ended = Some now; exit = None }) job
    (HasSameTerms before) (λ ran. record { id = is.id; terms = is.terms; partition = is.partition }) (λ not. is)

lost-same : (now : ℕ) (lost : ℕ → Bool) (job : JobRecord) (state : JobState)
    → HasSameTerms job (off_lost now lost job state)
lost-same now lost job Pending = itself-same job
lost-same now lost job Running =
    left-same now (failing job) (parts_kept lost job.parts) job (failed now job)
    (leave-same (failing job) now job job (itself-same job))
lost-same now lost job (Completing end) = left-same now end (parts_kept lost job.parts) job job (itself-same job)
lost-same now lost job (Ended end) = itself-same job

found-same : (s : State) (now : ℕ) (job : JobRecord) → HasSameTerms job (found_by_pass s now job)
found-same s now job =
    let lost = silenced_job s now job in
    let still : HasSameTerms job lost =
    cond_both (any_silent s now) (after_loss now (silent_at s now) job) job (HasSameTerms job)
    (λ some. cond_both (loses (silent_at s now) job) (off_lost now (silent_at s now) job job.state) job (HasSameTerms job)
    (λ some. lost-same now (silent_at s now) job job.state) (λ none. itself-same job))
    (λ none. itself-same job) in
    cond_both (is_over now lost) (changed (Leave final.Timeout now None) lost) lost (HasSameTerms job)
    (λ over. leave-same final.Timeout now job lost still) (λ not. still)

-- whoever is left was one of these before
left-was : (s : State) (now : ℕ)
    → All (λ (after : JobRecord). Any (λ (job : JobRecord). HasSameTerms job after) s.jobs)
    (jobs_left (silenced s now) now)
left-was s now = λ k d below.
    let after = get_or (jobs_left (silenced s now) now) k d in
    elim ((left_turns s now).was k d below) [
      | inl any ↦
          any_weaker (λ (job : JobRecord). after ≡ found_by_pass s now job)
          (λ (job : JobRecord). HasSameTerms job after) s.jobs
          (λ job is. subst (λ (one : JobRecord). HasSameTerms job one) (sym is) (found-same s now job)) any
      | inr never ↦ absurd never
    ]

-- what one job has asked for another one on the same terms has
same-asked : (t : State) (before job : JobRecord) (parts : List Part) → HasSameTerms before job
    → HasWhatWasAsked t job parts → HasWhatWasAsked t before parts
same-asked t before job parts same has =
    let partition = has.partition in
    record {
      partition = partition;
      of_partition = subst (λ (place : ℕ). slice_get t.partitions place ≡ Some partition) same.partition has.of_partition;
      apart = has.apart;
      nodes = subst (λ terms. All (λ (part : Part). IsForJob t partition terms part.node) parts) same.terms has.nodes;
      required = subst (λ terms. All (λ name. Any (λ (part : Part). is_at (is_named name) t.nodes part.node ≡ true) parts)
          terms.required) same.terms has.required;
      bounds = has.bounds;
      bounded = subst (λ terms. bounds_in partition terms ≡ Some has.bounds) same.terms has.bounded;
      least = has.least;
      most = has.most;
      tasks = has.tasks;
      all = subst (λ terms. sum has.tasks ≡ terms.tasks) same.terms has.all;
      each = subst (λ terms. AllZip (λ some (part : Part). HasTasks partition terms (room_under t part) some part)
          has.tasks parts) same.terms has.each;
    }

-- ---- a pass

-- each placement that begins now is of a job that runs since now with all that was planned, or stays
abbrev pub GetAll : Type 0
GetAll = (s : State) (now : ℕ) → IsSound s → s.moment ≤ now → now ≤ last_moment
    → All (λ (placed : Placed). placed.start ≡ now
    → Any (HasStarted now placed) (after_pass s now).jobs
    ⊎ (Contains (after_pass s now).plan placed
    × WasHeldBack (silenced s now) now (jobs_left (silenced s now) now) (outcome (silenced s now) now).starts placed.id))
    (placements (silenced s now) now)

-- what the crates below promise of whole passes
pub record WholePasses : Type 0 where
  pub passes : Passes
  pub all : GetAll
  pub sound : (s : State) (now : ℕ) → IsSound s → s.moment ≤ now → now ≤ last_moment
      → IsSound (stamped now (after_pass s now))

-- and of whatever they start
pub record Startings : Type 0 where
  pub whole : WholePasses
  pub placed : ArePlaced
  pub nodes : JobNodes
  pub twice : LastingTwice
  pub planned : WerePlanned

-- whose placement stays waits
pub stays_waits : (t : State) (id : ℕ) → IsSound t → Contains (pending_ids t.jobs) id
    → All (λ (job : JobRecord). has_id id job ≡ true → is_pending job.state ≡ true) t.jobs
stays_waits t id sound has =
    let Named = λ (job : JobRecord). job.id ≡ id in
    only_waits id t.jobs sound.rising
    (any_passes Named (λ (job : JobRecord). is_pending job.state) t.jobs
    (any_unmapped (λ (one : ℕ). one ≡ id) (λ (job : JobRecord). job.id) _ (has.0, id, has.1, has.2, refl)))

-- the state behind a pass that bears a moment and a size
abbrev passed : State → ℕ → ℕ → State
passed s now size = entered now size (after_pass s now)

-- a job that a pass has started has what the job asked for of which it was planned
planned-begun : Startings → (s : State) (now size : ℕ) → IsSound s → s.moment ≤ now → now ≤ last_moment
    → (placed : Placed) (after job : JobRecord) → HasStarted now placed after → Contains (after_pass s now).jobs after
    → Contains (jobs_left (silenced s now) now) job
    → IsPlannedFor (silenced s now).nodes (silenced s now).partitions (lasting now (ready (silenced s now) now).reservations)
    placed job
    → HasWhatWasAsked (passed s now size) job after.parts
planned-begun laws s now size sound later in_time placed after job started there left is =
    let t = silenced s now in
    let r = ready t now in
    let behind = laws.whole.sound s now sound later in_time in
    let before = laws.whole.passes.planned t now (laws.whole.passes.silence s now sound later in_time)
    (silenced_raised s now later) in_time in
    let kept = All-contains (IsKept now) (jobs_left t now) job before.jobs left in
    let runs = All-contains (IsKept now) (after_pass s now).jobs after behind.jobs there in
    has_asked laws.nodes (passed s now size) job is.need placed.parts after.parts
    (record { named = behind.nodes.named.once; partitions = behind.partitions })
    (subst (λ (some : List Reservation). IsNeedOf t.nodes t.partitions some job is.need)
    (laws.twice now t.reservations) is.is)
    is.granted started.parts runs.parts.apart kept.terms.tasks.0

abbrev Begun : State → State → ℕ → JobRecord → Type 0
Begun s t now after =
    is_running after.state ≡ true → Contains s.jobs after ⊎ Any (HasBegun t now after) s.jobs

one-begun : Startings → (s : State) (now size : ℕ) → IsSound s → s.moment ≤ now → now ≤ last_moment
    → (after : JobRecord) → Contains (after_pass s now).jobs after → (placed : Placed) → placed.id ≡ after.id
    → Any (HasStarted now placed) (after_pass s now).jobs
    → PlannedFor (ready (silenced s now) now) (lasting now (ready (silenced s now) now).reservations) placed
    → Any (HasBegun (passed s now size) now after) s.jobs
one-begun laws s now size sound later in_time after there placed id (i, one, within, is, started) (k, job, below, at, for) =
    let t = silenced s now in
    let behind = laws.whole.sound s now sound later in_time in
    let same : one ≡ after =
    only_one (after_pass s now).jobs behind.rising one after (i, one, within, is, refl)
    (there.0, after, there.1, there.2, refl) (started.id ∙ id) in
    let begun = subst (HasStarted now placed) same started in
    let asked = planned-begun laws s now size sound later in_time placed after job begun there (k, below, at) for in
    let was = All-contains (λ (after : JobRecord). Any (λ (before : JobRecord). HasSameTerms before after) s.jobs)
    (jobs_left t now) job (left-was s now) (k, below, at) in
    any_weaker (λ (before : JobRecord). HasSameTerms before job) (HasBegun (passed s now size) now after) s.jobs
    (λ before same. record {
      id = sym id ∙ sym for.id ∙ same.id;
      began = begun.started;
      asked = same-asked (passed s now size) before job after.parts same asked;
    }) was

pass-begun : Startings → (s : State) (now size : ℕ) → IsSound s → s.moment ≤ now → now ≤ last_moment
    → All (Begun s (passed s now size) now) (after_pass s now).jobs
pass-begun laws s now size sound later in_time = λ k d below runs.
    let t = silenced s now in
    let r = ready t now in
    let jobs = (after_pass s now).jobs in
    let after = get_or jobs k d in
    let behind = laws.whole.sound s now sound later in_time in
    let there = Contains-get_or jobs k d below in
    let Goal = Any (HasBegun (passed s now size) now after) s.jobs in
    let Got = λ (placed : Placed). placed.start ≡ now → Any (HasStarted now placed) jobs
    ⊎ (Contains (after_pass s now).plan placed × WasHeldBack t now (jobs_left t now) (outcome t now).starts placed.id) in
    let For = PlannedFor r (lasting now r.reservations) in
    elim (laws.planned s now k d below runs) [
      | inl had ↦ inl had
      | inr any ↦
          inr (any_of_all (λ (placed : Placed). Got placed × For placed)
          (λ (placed : Placed). (placed.id ≡ after.id) × (placed.start ≡ now)) Goal (placements t now)
          (λ placed both this. elim (both.0 this.1) [
            | inl started ↦ one-begun laws s now size sound later in_time after there placed this.0 started both.1
            | inr stays ↦
                let pending = All-contains (λ (placed : Placed). Contains (pending_ids jobs) placed.id)
                (after_pass s now).plan placed behind.plan.pending stays.0 in
                absurd (not_both after.state
                (stays_waits (stamped now (after_pass s now)) placed.id behind pending k d below
                (eq-eqb after.id placed.id (sym this.0))) runs)
          ])
          (λ i e within. (laws.whole.all s now sound later in_time i e within, planned_for laws.placed r now i e within)) any)
    ]

pub started_asked : Startings → (s : State) (now : ℕ) (user : List ℕ) → IsSound s
    → All (Begun s (state_after s now user Pass) (raised s now)) (state_after s now user Pass).jobs
started_asked laws s now user sound =
    let moment = raised s now in
    let size = size_of Pass in
    step_is (λ (t : State). All (Begun s t moment) t.jobs) s now user Pass
    (λ k d below runs. inl (Contains-get_or s.jobs k d below))
    (λ reply after is. made_by (λ (reply : Reply) (after : State).
    All (Begun s (entered moment size after) moment) after.jobs)
    (cond_both (pass_is_idle s moment) Stays _
    (MakesBy (λ (reply : Reply) (after : State). All (Begun s (entered moment size after) moment) after.jobs)) (λ idle. tt)
    (λ busy. pass-begun laws s moment size sound (omega arith) (omega (arith, sound.moment, is.in_time)))) is.makes)
