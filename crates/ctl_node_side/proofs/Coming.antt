-- What comes of passes in which nodes fall silent, or none does.
use Rattle.std.proofs.Common.{ℕ, zero, suc, ◌≡◌, ◌≤◌, ◌+◌, ◌*◌, ◌∙◌, Bool, true, false, ◌&&◌, List, [], ◌∷◌, length, count_by, refl, sym, ap, subst, arith}
use Rattle.std.specs.List.{list_any}
use Rattle.std.proofs.lemmas.Bool.{or_from, or_parts}
use Rattle.std.proofs.lemmas.List.Sums.{count_by-le-length, length-filter}
use Rattle.node_state.specs.declared.record.NodeRecord.{NodeRecord}
use Rattle.job_table.specs.declared.record.JobRecord.{JobRecord}
use Rattle.job_table.specs.declared.record.Part.{Part}
use Rattle.job_table.specs.JobStates.{is_running}
use Rattle.ctl_state.specs.Planning.{is_at}
use Rattle.ctl_state.specs.Soundness.{IsSound}
use Rattle.ctl_state.specs.State.{State, last_job_id}
use Rattle.ctl_nodes.specs.Failing.{loses}
use Rattle.ctl_pass.specs.Passing.{is_idle, jobs_ended, jobs_planned, outcome, pass_after}
use Rattle.ctl_node_side.specs.declared.passing.PassOutcome.TheVariants.{Idle, Full, Passed}
use Rattle.ctl_node_side.specs.Came.{Came}
use Rattle.ctl_node_side.specs.Passes.{ended_by_pass, pass_is_idle, planned_by_pass}
use Rattle.ctl_node_side.specs.Silence.{any_silent, failing_count, falls_silent, silent_at, without_silent}
use Rattle.ctl_node_side.proofs.Back.{any_alike, filter_alike}
use Rattle.ctl_node_side.proofs.Silent.{silenced_none, silenced_some}

-- ---- where none falls silent

nowhere : (test : NodeRecord → Bool) (nodes : List NodeRecord) (place : ℕ) → list_any test nodes ≡ false
    → is_at test nodes place ≡ false
nowhere test [] place none = refl
nowhere test (node ∷ nodes) zero none = (or_parts (test node) (list_any test nodes) none).0
nowhere test (node ∷ nodes) (suc place) none =
    nowhere test nodes place (or_parts (test node) (list_any test nodes) none).1

none-lost : (lost : ℕ → Bool) → ((place : ℕ) → lost place ≡ false) → (parts : List Part)
    → list_any (λ (part : Part). lost part.node) parts ≡ false
none-lost lost none [] = refl
none-lost lost none (part ∷ parts) =
    or_from (lost part.node) (list_any (λ (part : Part). lost part.node) parts) (none part.node)
    (none-lost lost none parts)

count-none : (test : JobRecord → Bool) (jobs : List JobRecord) → ((job : JobRecord) → test job ≡ false)
    → count_by test jobs ≡ 0
count-none test [] none = refl
count-none test (job ∷ jobs) none = rw (none job) (count-none test jobs none)

and-none : (b c : Bool) → c ≡ false → (b && c) ≡ false
and-none true c none = none
and-none false c none = refl

none-fails : (s : State) (now : ℕ) → any_silent s now ≡ false → failing_count s now ≡ 0
none-fails s now none =
    count-none (λ (job : JobRecord). is_running job.state && loses (silent_at s now) job) s.jobs
    (λ (job : JobRecord). and-none (is_running job.state) (loses (silent_at s now) job)
    (none-lost (silent_at s now)
    (λ place. nowhere (falls_silent s.settings.slurmd_timeout now) s.nodes place none) job.parts))

pub idle_by : (s : State) (now : ℕ) → any_silent s now ≡ false → pass_is_idle s now ≡ is_idle s now
idle_by s now none = rw none refl

pub planned_heard : (s : State) (now : ℕ) → any_silent s now ≡ false → planned_by_pass s now ≡ jobs_planned s now
planned_heard s now none = ap (λ t. jobs_planned t now) (silenced_none s now none)

pub came_idle : (s s' : State) (now : ℕ) (room : Bool) → any_silent s now ≡ false → is_idle s now ≡ true → s' ≡ s
    → Came s s' now room Idle
came_idle s s' now room none idle same = (idle_by s now none ∙ idle, same)

pub came_full : (s s' : State) (now : ℕ) (room : Bool) → any_silent s now ≡ false → is_idle s now ≡ false
    → room ≡ false → s' ≡ s → Came s s' now room Full
came_full s s' now room none busy full same = (idle_by s now none ∙ busy, full, same)

pub came_passed : (s s' : State) (now ended : ℕ) (room : Bool) → any_silent s now ≡ false → is_idle s now ≡ false
    → room ≡ true → ended ≡ jobs_ended s now → s' ≡ pass_after s now
    → Came s s' now room (Passed (0 + ended) (length (outcome s now).starts) (length (outcome s now).stays))
came_passed s s' now ended room none busy has are after =
    let is = silenced_none s now none in
    let ends : 0 + ended ≡ ended_by_pass s now =
    ap (λ n. n + ended) (sym (none-fails s now none))
    ∙ ap (λ n. failing_count s now + n) (are ∙ ap (λ (t : State). jobs_ended t now) (sym is)) in (
      idle_by s now none ∙ busy,
      has,
      ends,
      ap (λ t. length (outcome t now).starts) (sym is),
      ap (λ t. length (outcome t now).stays) (sym is),
      after ∙ ap (λ t. pass_after t now) (sym is),
    )

-- ---- where some do

pub busy_silenced : (s : State) (now : ℕ) → any_silent s now ≡ true → pass_is_idle s now ≡ false
busy_silenced s now some = rw some refl

pub planned_silenced : (s : State) (now : ℕ) → any_silent s now ≡ true
    → planned_by_pass s now ≡ jobs_planned (without_silent s now) now
planned_silenced s now some = ap (λ t. jobs_planned t now) (silenced_some s now some)

pub came_full_silenced : (s s' : State) (now : ℕ) (room : Bool) → any_silent s now ≡ true → room ≡ false → s' ≡ s
    → Came s s' now room Full
came_full_silenced s s' now room some full same = (busy_silenced s now some, full, same)

pub came_silenced : (s s' : State) (now failed ended : ℕ) (room : Bool) → any_silent s now ≡ true → room ≡ true
    → failed ≡ failing_count s now → ended ≡ jobs_ended (without_silent s now) now
    → s' ≡ pass_after (without_silent s now) now
    → Came s s' now room (Passed (failed + ended) (length (outcome (without_silent s now) now).starts)
    (length (outcome (without_silent s now) now).stays))
came_silenced s s' now failed ended room some has fails are after =
    let is = silenced_some s now some in
    let ends : failed + ended ≡ ended_by_pass s now =
    ap (λ n. n + ended) fails
    ∙ ap (λ n. failing_count s now + n) (are ∙ ap (λ (t : State). jobs_ended t now) (sym is)) in (
      busy_silenced s now some,
      has,
      ends,
      ap (λ t. length (outcome t now).starts) (sym is),
      ap (λ t. length (outcome t now).stays) (sym is),
      after ∙ ap (λ t. pass_after t now) (sym is),
    )

-- the same by the state that it is worked in
pub came_fallen : (s s' t : State) (now failed ended : ℕ) (room : Bool) → t ≡ without_silent s now
    → any_silent s now ≡ true → room ≡ true
    → failed ≡ failing_count s now → ended ≡ jobs_ended t now → s' ≡ pass_after t now
    → Came s s' now room (Passed (failed + ended) (length (outcome t now).starts) (length (outcome t now).stays))
came_fallen s s' t now failed ended room is some has fails are after =
    subst
    (λ (t : State). Came s s' now room
    (Passed (failed + ended) (length (outcome t now).starts) (length (outcome t now).stays)))
    (sym is)
    (came_silenced s s' now failed ended room some has fails
    (are ∙ ap (λ (t : State). jobs_ended t now) is) (after ∙ ap (λ t. pass_after t now) is))

-- those that fail with the same nodes
count-alike : (one other : JobRecord → Bool) → ((job : JobRecord) → one job ≡ other job) → (jobs : List JobRecord)
    → count_by one jobs ≡ count_by other jobs
count-alike one other same jobs =
    sym (length-filter one jobs) ∙ ap length (filter_alike one other same jobs) ∙ length-filter other jobs

pub failing_alike : (s : State) (now : ℕ) (lost : ℕ → Bool) → ((place : ℕ) → lost place ≡ silent_at s now place)
    → count_by (λ (job : JobRecord). is_running job.state && loses lost job) s.jobs ≡ failing_count s now
failing_alike s now lost same =
    count-alike (λ (job : JobRecord). is_running job.state && loses lost job)
    (λ (job : JobRecord). is_running job.state && loses (silent_at s now) job)
    (λ (job : JobRecord). ap (λ b. is_running job.state && b) (any_alike lost (silent_at s now) same job.parts)) s.jobs

-- ---- the counts are small

abbrev pub FewJobs : Type 0
FewJobs = (s : State) → IsSound s → length s.jobs ≤ last_job_id + 1

abbrev pub FewEnd : Type 0
FewEnd = (s : State) (now : ℕ) → IsSound s → jobs_ended s now ≤ 2 * (last_job_id + 1)

pub few_ended : FewEnd → (s : State) (now ended : ℕ) → IsSound s → ended ≡ jobs_ended s now → ended ≤ 134086658
few_ended few s now ended sound is = omega (arith, is, few s now sound)

pub few_failed : FewJobs → (s : State) (now failed : ℕ) (fails : JobRecord → Bool) → IsSound s
    → failed ≡ count_by fails s.jobs → failed ≤ 67043329
few_failed few s now failed fails sound is =
    omega (arith, is, count_by-le-length fails s.jobs, few s sound)
