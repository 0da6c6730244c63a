-- What becomes of a job that holds something of lost nodes: once it has failed, node by node, and in sum.
use Rattle.std.proofs.Common.{ℕ, zero, suc, ◌≡◌, ◌+◌, ◌<◌, Bool, true, false, not, List, [], ◌∷◌, length, sum_by, get_or, Some, None, refl, sym, ap, ◌∙◌, arith, inl, inr, rules, tests, cond}
use Rattle.std.specs.List.{list_any}
use Rattle.std.proofs.lemmas.Bool.{both_ways, cases_Bool, cond-false, cond-true, cond_both, eq-eqb, eqb-true, or_left, or_right, or_from, or_parts}
use Rattle.std.proofs.lemmas.Bool.Decides.{nat_tests}
use Rattle.std.proofs.lemmas.List.Filters.{sum_by-filter_both}
use Rattle.std.proofs.lemmas.List.Sums.{count_by-le-length, length-filter, sum_by-append}
use Rattle.request_data.specs.declared.state.Final.{Final}
use Rattle.request_data.specs.declared.state.JobState.{JobState}
use Rattle.request_data.specs.declared.state.JobState.TheVariants.{Pending, Running, Completing, Ended}
use Rattle.job_table.specs.declared.record.Part.{Part}
use Rattle.job_table.specs.declared.record.JobRecord.{JobRecord}
use Rattle.job_table.specs.declared.change.Change.TheVariants.{DropPart}
use Rattle.job_table.specs.Changes.{changed, is_on, off_node, parts_off, with_left}
use Rattle.job_table.specs.JobStates.{is_holding, is_running}
use Rattle.job_table.specs.Walks.{map_at}
use Rattle.node_state.specs.declared.record.Held.{Held}
use Rattle.ctl_state.specs.Holding.{has_cpu, has_members, mem_held, mem_in, parts_of, times_held}
use Rattle.ctl_state.specs.Index.{GivesParts}
use Rattle.ctl_state.specs.Laws.{GivingShows}
use Rattle.ctl_nodes.specs.Failing.{ShowsJobs, after_loss, failed, failing, first_lost, loses, node_to_leave, off_lost, parts_kept, parts_lost}

-- ---- who fails

pub failed_stops : (now : ℕ) (job : JobRecord) → is_running (failed now job).state ≡ false
failed_stops now job = elim (cases_Bool (is_running job.state)) [
  | inl runs ↦ rw runs refl
  | inr other ↦ rw other other
]

failed-in : (now : ℕ) (lost : ℕ → Bool) (job : JobRecord) (state : JobState) → job.state ≡ state
    → loses lost job ≡ true → after_loss now lost (failed now job) ≡ after_loss now lost job
failed-in now lost job Pending is has = rw is refl
failed-in now lost job Running is has = rw (is, has) refl
failed-in now lost job (Completing final) is has = rw is refl
failed-in now lost job (Ended final) is has = rw is refl

-- what fails first is lost as it would have been
pub failed_alike : (now : ℕ) (lost : ℕ → Bool) (job : JobRecord) → loses lost job ≡ true
    → after_loss now lost (failed now job) ≡ after_loss now lost job
failed_alike now lost job has = failed-in now lost job job.state refl has

-- ---- lists of parts

-- what the first lost node of the parts is
first-is : (lost : ℕ → Bool) (node : ℕ) (parts : List Part) → first_lost lost parts ≡ Some node
    → (lost node ≡ true) × (list_any (is_on node) parts ≡ true)
    × (list_any (λ (part : Part). lost part.node) parts ≡ true)
first-is lost node [] found = absurd (let never = found in cc)
first-is lost node (part ∷ parts) found = elim (cases_Bool (lost part.node)) [
  | inl here ↦
      let is : part.node ≡ node = cc (rw here at found) in (
        rw (← is) here,
        or_left (is_on node part) (list_any (is_on node) parts) (eq-eqb part.node node is),
        or_left (lost part.node) (list_any (λ (part : Part). lost part.node) parts) here,
      )
  | inr other ↦
      let later = first-is lost node parts (rw other at found) in (
        later.0,
        or_right (is_on node part) (list_any (is_on node) parts) later.1,
        or_right (lost part.node) (list_any (λ (part : Part). lost part.node) parts) later.2,
      )
]

none-first : (lost : ℕ → Bool) (parts : List Part) → first_lost lost parts ≡ None
    → list_any (λ (part : Part). lost part.node) parts ≡ false
none-first lost [] none = refl
none-first lost (part ∷ parts) none = elim (cases_Bool (lost part.node)) [
  | inl here ↦ absurd (let never = rw here at none in cc)
  | inr other ↦
      or_from (lost part.node) (list_any (λ (part : Part). lost part.node) parts) other
      (none-first lost parts (rw other at none))
]

-- without those on a lost node, those are kept that were
kept-off : (lost : ℕ → Bool) (node : ℕ) (parts : List Part) → lost node ≡ true
    → parts_kept lost (parts_off node parts) ≡ parts_kept lost parts
kept-off lost node [] is = refl
kept-off lost node (part ∷ parts) is =
    let rest = kept-off lost node parts is in
    elim (cases_Bool (is_on node part)) [
      | inl on ↦
          let gone : lost part.node ≡ true = rw (eqb-true part.node node on) is in
          rw (on, gone) rest
      | inr off ↦ elim (cases_Bool (lost part.node)) [
        | inl gone ↦ rw (off, gone) rest
        | inr stays ↦ rw (off, stays) (ap (λ later. part ∷ later) rest)
      ]
    ]

-- all are kept where none is lost
kept-all : (lost : ℕ → Bool) (parts : List Part) → list_any (λ (part : Part). lost part.node) parts ≡ false
    → parts_kept lost parts ≡ parts
kept-all lost [] none = refl
kept-all lost (part ∷ parts) none =
    let each = or_parts (lost part.node) (list_any (λ (part : Part). lost part.node) parts) none in
    rw (each.0) (ap (λ later. part ∷ later) (kept-all lost parts each.1))

fewer-off : (node : ℕ) (parts : List Part) → list_any (is_on node) parts ≡ true
    → length (parts_off node parts) < length parts
fewer-off node [] on = absurd (both_ways false refl on)
fewer-off node (part ∷ parts) any =
    let off : Part → Bool = λ part. not (is_on node part) in
    elim (cases_Bool (is_on node part)) [
      | inl on ↦ rw on (omega (arith, length-filter off parts, count_by-le-length off parts))
      | inr other ↦ rw other (omega (arith, fewer-off node parts (rw other at any)))
    ]

-- ---- one node after the other

pub left_parts : (now : ℕ) (final : Final) (rest : List Part) (job : JobRecord)
    → (with_left now final rest job).parts ≡ rest
left_parts now final [] job = refl
left_parts now final (part ∷ later) job = refl

left-over : (now : ℕ) (final : Final) (rest before : List Part) (job : JobRecord)
    → with_left now final rest (record job { parts = before }) ≡ with_left now final rest job
left-over now final [] before job = refl
left-over now final (part ∷ later) before job = refl

loss-of : (now : ℕ) (lost : ℕ → Bool) (final : Final) (job : JobRecord) → job.state ≡ Completing final
    → loses lost job ≡ true → after_loss now lost job ≡ with_left now final (parts_kept lost job.parts) job
loss-of now lost final job is has =
    cond-true (loses lost job) (off_lost now lost job job.state) job has ∙ ap (off_lost now lost job) is

pub stays_of : (now : ℕ) (lost : ℕ → Bool) (job : JobRecord) → loses lost job ≡ false
    → after_loss now lost job ≡ job
stays_of now lost job none = cond-false (loses lost job) (off_lost now lost job job.state) job none

left-first : (now : ℕ) (lost : ℕ → Bool) (final : Final) (rest : List Part) (job : JobRecord)
    → job.state ≡ Completing final → loses lost job ≡ true
    → parts_kept lost rest ≡ parts_kept lost job.parts
    → after_loss now lost (with_left now final rest job) ≡ after_loss now lost job
left-first now lost final [] job is has kept =
    stays_of now lost (with_left now final [] job) refl
    ∙ sym (loss-of now lost final job is has ∙ ap (λ parts. with_left now final parts job) (sym kept))
left-first now lost final (part ∷ later) job is has kept =
    let rest = part ∷ later in
    let one : JobRecord = record job { parts = rest } in
    let whole = loss-of now lost final job is has ∙ ap (λ parts. with_left now final parts job) (sym kept) in
    elim (cases_Bool (loses lost one)) [
      | inl some ↦
          loss-of now lost final one is some ∙ left-over now final (parts_kept lost rest) rest job ∙ sym whole
      | inr none ↦
          stays_of now lost one none ∙ ap (λ parts. with_left now final parts job) (sym (kept-all lost rest none))
          ∙ sym whole
    ]

left-in : (now : ℕ) (lost : ℕ → Bool) (node : ℕ) (job : JobRecord) (state : JobState) → job.state ≡ state
    → node_to_leave lost job ≡ Some node
    → after_loss now lost (off_node now node job state) ≡ after_loss now lost job
left-in now lost node job Pending is found = refl
left-in now lost node job Running is found = refl
left-in now lost node job (Completing final) is found =
    let facts = first-is lost node job.parts (rw is at found) in
    left-first now lost final (parts_off node job.parts) job is facts.2 (kept-off lost node job.parts facts.0)
left-in now lost node job (Ended final) is found = refl

-- who has left a lost node is lost as it would have been
pub left_alike : (now : ℕ) (lost : ℕ → Bool) (node : ℕ) (job : JobRecord) → node_to_leave lost job ≡ Some node
    → after_loss now lost (changed (DropPart node now) job) ≡ after_loss now lost job
left_alike now lost node job found = left-in now lost node job job.state refl found

-- and holds less
fewer-in : (now : ℕ) (lost : ℕ → Bool) (node : ℕ) (job : JobRecord) (state : JobState) → job.state ≡ state
    → node_to_leave lost job ≡ Some node
    → length (off_node now node job state).parts < length job.parts
fewer-in now lost node job Pending is found = absurd (let never = rw is at found in cc)
fewer-in now lost node job Running is found = absurd (let never = rw is at found in cc)
fewer-in now lost node job (Completing final) is found =
    let facts = first-is lost node job.parts (rw is at found) in
    rw (left_parts now final (parts_off node job.parts) job) (fewer-off node job.parts facts.1)
fewer-in now lost node job (Ended final) is found = absurd (let never = rw is at found in cc)

pub left_fewer : (now : ℕ) (lost : ℕ → Bool) (node : ℕ) (job : JobRecord) → node_to_leave lost job ≡ Some node
    → length (changed (DropPart node now) job).parts < length job.parts
left_fewer now lost node job found = fewer-in now lost node job job.state refl found

-- and still doesn't run
off-stops : (now node : ℕ) (job : JobRecord) (state : JobState) → job.state ≡ state → is_running state ≡ false
    → is_running (off_node now node job state).state ≡ false
off-stops now node job state is stops = grind (arith, nat_tests)

pub left_stops : (now node : ℕ) (job : JobRecord) → is_running job.state ≡ false
    → is_running (changed (DropPart node now) job).state ≡ false
left_stops now node job stops = off-stops now node job job.state refl stops

-- who has none left to leave has lost what it loses
all-in : (now : ℕ) (lost : ℕ → Bool) (job : JobRecord) (state : JobState) → job.state ≡ state
    → is_running state ≡ false → node_to_leave lost job ≡ None → after_loss now lost job ≡ job
all-in now lost job Pending is stops none = elim (cases_Bool (loses lost job)) [
  | inl has ↦ rw (has, is) refl
  | inr other ↦ stays_of now lost job other
]
all-in now lost job Running is stops none = absurd (both_ways true stops refl)
all-in now lost job (Completing final) is stops none =
    stays_of now lost job (none-first lost job.parts (rw is at none))
all-in now lost job (Ended final) is stops none = elim (cases_Bool (loses lost job)) [
  | inl has ↦ rw (has, is) refl
  | inr other ↦ stays_of now lost job other
]

pub left_all : (now : ℕ) (lost : ℕ → Bool) (job : JobRecord) → is_running job.state ≡ false
    → node_to_leave lost job ≡ None → after_loss now lost job ≡ job
left_all now lost job stops none = all-in now lost job job.state refl stops none

-- ---- what is left in sum

members-some : (lost : ℕ → Bool) (parts : List Part) → list_any (λ (part : Part). lost part.node) parts ≡ true
    → has_members parts ≡ true
members-some lost [] has = absurd (both_ways false refl has)
members-some lost (part ∷ parts) has = refl

after-in : (now : ℕ) (lost : ℕ → Bool) (job : JobRecord) (state : JobState) → job.state ≡ state
    → has_members job.parts ≡ is_holding state → loses lost job ≡ true
    → (off_lost now lost job state).parts ≡ parts_kept lost job.parts
after-in now lost job Pending is some has =
    absurd (both_ways (has_members job.parts) some (members-some lost job.parts has))
after-in now lost job Running is some has =
    left_parts now (failing job) (parts_kept lost job.parts) (failed now job)
after-in now lost job (Completing final) is some has = left_parts now final (parts_kept lost job.parts) job
after-in now lost job (Ended final) is some has =
    absurd (both_ways (has_members job.parts) some (members-some lost job.parts has))

-- a job that loses parts keeps the others
pub after_parts : (now : ℕ) (lost : ℕ → Bool) (job : JobRecord) → has_members job.parts ≡ is_holding job.state
    → (after_loss now lost job).parts ≡ parts_kept lost job.parts
after_parts now lost job some = elim (cases_Bool (loses lost job)) [
  | inl has ↦ rw has (after-in now lost job job.state refl some has)
  | inr none ↦ rw (stays_of now lost job none) (sym (kept-all lost job.parts none))
]

job-sum : (amount : Part → ℕ) (now : ℕ) (lost : ℕ → Bool) (job : JobRecord)
    → has_members job.parts ≡ is_holding job.state
    → sum_by amount job.parts
    ≡ sum_by amount (after_loss now lost job).parts + sum_by amount (parts_lost lost job.parts)
job-sum amount now lost job some =
    let both = sum_by-filter_both (λ (part : Part). not (lost part.node)) (λ (part : Part). lost part.node)
    (λ part. search (rules, tests)) amount job.parts in
    omega (arith, both, ap (sum_by amount) (after_parts now lost job some))

place-sum : (amount : Part → ℕ) (now : ℕ) (lost : ℕ → Bool) (place : ℕ) (jobs : List JobRecord) (d : JobRecord)
    → place < length jobs
    → has_members (get_or jobs place d).parts ≡ is_holding (get_or jobs place d).state
    → sum_by amount (parts_of jobs)
    ≡ sum_by amount (parts_of (map_at place (after_loss now lost) jobs))
    + sum_by amount (parts_lost lost (get_or jobs place d).parts)
place-sum amount now lost place [] d below some = absurd (omega (arith, below))
place-sum amount now lost zero (job ∷ jobs) d below some =
    omega (
      arith,
      sum_by-append amount job.parts (parts_of jobs),
      sum_by-append amount (after_loss now lost job).parts (parts_of jobs),
      job-sum amount now lost job some,
    )
place-sum amount now lost (suc place) (job ∷ jobs) d below some =
    omega (
      arith,
      sum_by-append amount job.parts (parts_of jobs),
      sum_by-append amount job.parts (parts_of (map_at place (after_loss now lost) jobs)),
      place-sum amount now lost place jobs d (omega (arith, below)) some,
    )

-- The index shows what is left once what is lost is given back.
pub left_shown : GivingShows → (held after : List Held) (now : ℕ) (lost : ℕ → Bool) (place : ℕ)
    (jobs : List JobRecord) (d : JobRecord)
    → place < length jobs
    → has_members (get_or jobs place d).parts ≡ is_holding (get_or jobs place d).state
    → ShowsJobs held jobs → GivesParts held (parts_lost lost (get_or jobs place d).parts) after
    → ShowsJobs after (map_at place (after_loss now lost) jobs)
unfolding times_held mem_held
left_shown giving held after now lost place jobs d below some shows gives =
    let times = λ (on cpu : ℕ). place-sum (λ part. cond (has_cpu on cpu part) 1 0) now lost place jobs d below some in
    let mem = λ (on : ℕ). place-sum (mem_in on) now lost place jobs d below some in
    record {
      shown = giving (parts_of jobs) (parts_of (map_at place (after_loss now lost) jobs))
          (parts_lost lost (get_or jobs place d).parts) held after shows.once times mem shows.shown gives;
      once = λ on cpu. omega (arith, times on cpu, shows.once on cpu);
    }

-- ---- numbers

left-number : (now : ℕ) (final : Final) (rest : List Part) (job : JobRecord)
    → (with_left now final rest job).id ≡ job.id
left-number now final [] job = refl
left-number now final (part ∷ later) job = refl

failed-number : (now : ℕ) (job : JobRecord) → (failed now job).id ≡ job.id
failed-number now job = cond_both (is_running job.state) _ job (λ (one : JobRecord). one.id ≡ job.id)
    (λ h. refl) (λ h. refl)

number-in : (now : ℕ) (lost : ℕ → Bool) (job : JobRecord) (state : JobState)
    → (off_lost now lost job state).id ≡ job.id
number-in now lost job Pending = refl
number-in now lost job Running =
    left-number now (failing job) (parts_kept lost job.parts) (failed now job) ∙ failed-number now job
number-in now lost job (Completing final) = left-number now final (parts_kept lost job.parts) job
number-in now lost job (Ended final) = refl

-- each job keeps its number
pub numbers_stay : (now : ℕ) (lost : ℕ → Bool) (job : JobRecord) → (after_loss now lost job).id ≡ job.id
numbers_stay now lost job = cond_both (loses lost job) _ job (λ (one : JobRecord). one.id ≡ job.id)
    (λ h. number-in now lost job job.state) (λ h. refl)
