-- Who leaves a node drops what is held there no more.
use Rattle.std.proofs.Common.{ℕ, zero, suc, ◌≡◌, ◌+◌, ◌<◌, ◌≤◌, Bool, true, false, cond, List, [], ◌∷◌, ◌++◌, length, map, find, sum_by, get_or, take, All, HoldsAt, Some, refl, sym, ap, subst, ◌∙◌, arith, inl, inr}
use Rattle.std.specs.Option.{option_to_list}
use Rattle.std.proofs.lemmas.Bool.{cases_Bool, eqb-true, ne_eqb}
use Rattle.std.proofs.lemmas.Bool.Decides.{nat_tests}
use Rattle.std.proofs.lemmas.List.{length-map}
use Rattle.std.proofs.lemmas.List.Concat.{get_or-flat_map}
use Rattle.std.proofs.lemmas.List.Elements.{All-head, All-tail}
use Rattle.std.proofs.lemmas.List.Folds.{length-flat_map-take}
use Rattle.std.proofs.lemmas.List.Sums.{sum_by-append, sum_by-cons}
use Rattle.request_data.specs.declared.report.Done.{Done}
use Rattle.request_data.specs.declared.state.Final.{Final}
use Rattle.request_data.specs.declared.state.JobState.{JobState}
use Rattle.request_data.specs.declared.state.JobState.TheVariants.{Pending, Running, Completing, Ended}
use Rattle.node_state.specs.declared.record.Held.{Held}
use Rattle.node_state.specs.Held.{GivesBack, held_mem, holds_cpu}
use Rattle.job_table.specs.declared.record.Part.{Part}
use Rattle.job_table.specs.declared.record.JobRecord.{JobRecord}
use Rattle.job_table.specs.declared.change.Change.TheVariants.{DropPart}
use Rattle.job_table.specs.Changes.{changed, is_on, off_node, parts_off, with_left}
use Rattle.job_table.specs.JobStates.{is_completing}
use Rattle.job_table.specs.Walks.{map_at}
use Rattle.ctl_state.specs.Holding.{IsPartOf, OnNodesApart, has_cpu, mem_held, mem_in, parts_of, times_held}
use Rattle.ctl_state.specs.Index.{GivesParts}
use Rattle.ctl_state.specs.Laws.{GivingShows, PartsAreShown}
use Rattle.ctl_state.specs.Planning.{room_of}
use Rattle.ctl_state.specs.Soundness.{IsSound}
use Rattle.ctl_state.specs.State.{State}
use Rattle.ctl_node_side.specs.Leaving.{AreOnNodes, ShowsJobs, part_dropped}
use Rattle.ctl_node_side.specs.Reporting.{script_over}

-- of parts on nodes that differ, one is dropped at most
off-all : (node : ℕ) (parts : List Part) → All (λ (part : Part). is_on node part ≡ false) parts
    → parts_off node parts ≡ parts
off-all node [] off = refl
off-all node (part ∷ parts) off =
    let Off : Part → Type 0 = λ one. is_on node one ≡ false in
    rw (All-head Off part parts off) (ap (λ rest. part ∷ rest) (off-all node parts (All-tail Off part parts off)))

others-off : (node : ℕ) (part : Part) (parts : List Part) → OnNodesApart (part ∷ parts) → is_on node part ≡ true
    → All (λ (part : Part). is_on node part ≡ false) parts
others-off node part parts apart on k d below =
    let other = get_or parts k d in
    ne_eqb other.node node
    (λ same. apart 0 (suc k) d (omega arith) (omega (arith, below)) (eqb-true part.node node on ∙ sym same))

sum-dropped : (amount : Part → ℕ) (node : ℕ) (parts : List Part) → OnNodesApart parts
    → sum_by amount parts
    ≡ sum_by amount (parts_off node parts) + sum_by amount (option_to_list (find (is_on node) parts))
sum-dropped amount node [] apart = refl
sum-dropped amount node (part ∷ parts) apart =
    let first = sum_by-cons amount part parts in
    elim (cases_Bool (is_on node part)) [
      | inl on ↦
          rw (on, off-all node parts (others-off node part parts apart on))
          (omega (arith, first, sum_by-cons amount part []))
      | inr off ↦
          let later = sum-dropped amount node parts
          (λ i j d before within. apart (suc i) (suc j) d (omega (arith, before)) (omega (arith, within))) in
          rw off (omega (arith, first, sum_by-cons amount part (parts_off node parts), later))
    ]

left-parts : (now : ℕ) (final : Final) (rest : List Part) (job : JobRecord) → (with_left now final rest job).parts ≡ rest
left-parts now final [] job = refl
left-parts now final (part ∷ later) job = refl

job-dropped : (amount : Part → ℕ) (now node : ℕ) (job : JobRecord) (state : JobState) → job.state ≡ state
    → OnNodesApart job.parts
    → sum_by amount job.parts
    ≡ sum_by amount (off_node now node job state).parts + sum_by amount (option_to_list (part_dropped node job))
job-dropped amount now node job Pending is apart = rw is (omega arith)
job-dropped amount now node job Running is apart = rw is (omega arith)
job-dropped amount now node job (Completing final) is apart =
    rw (left-parts now final (parts_off node job.parts) job, is) (sum-dropped amount node job.parts apart)
job-dropped amount now node job (Ended final) is apart = rw is (omega arith)

place-dropped : (amount : Part → ℕ) (now node place : ℕ) (jobs : List JobRecord) (d : JobRecord) → place < length jobs
    → OnNodesApart (get_or jobs place d).parts
    → sum_by amount (parts_of jobs)
    ≡ sum_by amount (parts_of (map_at place (changed (DropPart node now)) jobs))
    + sum_by amount (option_to_list (part_dropped node (get_or jobs place d)))
place-dropped amount now node place [] d below apart = absurd (omega (arith, below))
place-dropped amount now node zero (job ∷ jobs) d below apart =
    omega (
      arith,
      sum_by-append amount job.parts (parts_of jobs),
      sum_by-append amount (off_node now node job job.state).parts (parts_of jobs),
      job-dropped amount now node job job.state refl apart,
    )
place-dropped amount now node (suc place) (job ∷ jobs) d below apart =
    omega (
      arith,
      sum_by-append amount job.parts (parts_of jobs),
      sum_by-append amount job.parts (parts_of (map_at place (changed (DropPart node now)) jobs)),
      place-dropped amount now node place jobs d (omega (arith, below)) apart,
    )

-- The index shows what is left once it is given back.
pub left_shown : GivingShows → (held after : List Held) (now node place : ℕ) (jobs : List JobRecord) (d : JobRecord)
    → place < length jobs → OnNodesApart (get_or jobs place d).parts → ShowsJobs held jobs
    → GivesParts held (option_to_list (part_dropped node (get_or jobs place d))) after
    → ShowsJobs after (map_at place (changed (DropPart node now)) jobs)
unfolding times_held mem_held
left_shown giving held after now node place jobs d below apart shows gives =
    let times = λ (on cpu : ℕ). place-dropped (λ part. cond (has_cpu on cpu part) 1 0) now node place jobs d below apart in
    let mem = λ (on : ℕ). place-dropped (mem_in on) now node place jobs d below apart in
    record {
      shown = giving (parts_of jobs) (parts_of (map_at place (changed (DropPart node now)) jobs))
          (option_to_list (part_dropped node (get_or jobs place d))) held after shows.once times mem shows.shown gives;
      once = λ on cpu. omega (arith, times on cpu, shows.once on cpu);
    }

-- what is given back of one part, or of none
pub one_given : (held after : List Held) (part : Part) → GivesBack held part.node part.cpus part.mem after
    → GivesParts held (part ∷ []) after
unfolding mem_held
one_given held after part gives = record {
  cpus = λ node cpu. gives.cpus node cpu ∙ grind (arith, nat_tests);
  mem = λ node. gives.mem node ∙ grind (arith, nat_tests);
}

pub none_given : (held : List Held) → GivesParts held [] held
unfolding mem_held
none_given held = record { cpus = λ node cpu. grind (arith, nat_tests); mem = λ node. omega arith }

-- what holds of all holds of the one that is found
All_found : {X : Type 0} (P : X → Type 0) (p : X → Bool) (xs : List X) (x : X) → All P xs → find p xs ≡ Some x
    → P x
All_found P p [] x all found = absurd (let never = found in cc)
All_found P p (y ∷ ys) x all found = elim (cases_Bool (p y)) [
  | inl here ↦ let is : y ≡ x = cc (rw here at found) in rw (← is) (All-head P y ys all)
  | inr other ↦ All_found P p ys x (All-tail P y ys all) (rw other at found)
]

pub dropped_has : (P : Part → Type 0) (node : ℕ) (job : JobRecord) (part : Part) → All P job.parts
    → part_dropped node job ≡ Some part → P part
dropped_has P node job part all is = elim (cases_Bool (is_completing job.state)) [
  | inl completes ↦ All_found P (is_on node) job.parts part all (rw completes at is)
  | inr other ↦ absurd (let never = rw other at is in cc)
]

-- A script that is over takes nothing from the parts.
script-parts : (now node : ℕ) (done : Done) (job : JobRecord) → (script_over now node done job).parts ≡ job.parts
script-parts now node done job = grind (arith, nat_tests)

over-parts : (now node place : ℕ) (done : Done) (jobs : List JobRecord)
    → parts_of (map_at place (script_over now node done) jobs) ≡ parts_of jobs
over-parts now node place done [] = refl
over-parts now node zero done (job ∷ jobs) = rw (script-parts now node done job) refl
over-parts now node (suc place) done (job ∷ jobs) =
    ap (λ parts. job.parts ++ parts) (over-parts now node place done jobs)

pub over_shown : (held : List Held) (now node place : ℕ) (done : Done) (jobs : List JobRecord) → ShowsJobs held jobs
    → ShowsJobs held (map_at place (script_over now node done) jobs)
over_shown held now node place done jobs shows =
    let same = over-parts now node place done jobs in
    record { shown = rw same shows.shown; once = rw same shows.once }

pub over_on : (count now node place : ℕ) (done : Done) (jobs : List JobRecord)
    → HoldsAt (λ (job : JobRecord). AreOnNodes count job.parts) jobs place
    → HoldsAt (λ (job : JobRecord). AreOnNodes count job.parts) (map_at place (script_over now node done) jobs) place
over_on count now node place done [] on = on
over_on count now node zero done (job ∷ jobs) on = λ d. rw (script-parts now node done job) (on d)
over_on count now node (suc place) done (job ∷ jobs) on = over_on count now node place done jobs on

-- what holds of all parts holds of those of each job
parts-at : (P : Part → Type 0) (jobs : List JobRecord) → All P (parts_of jobs)
    → All (λ (job : JobRecord). All P job.parts) jobs
parts-at P jobs all k d below j e inside =
    let held : JobRecord → List Part = λ job. job.parts in
    rw (get_or-flat_map held jobs k j d e below inside) at (all (length (parts_of (take k jobs)) + j) e
    (omega (arith, inside, length-flat_map-take held jobs k d below)))

pub parts_held : PartsAreShown → (held : List Held) (jobs : List JobRecord) (place : ℕ) (job : JobRecord)
    → place < length jobs → job ≡ get_or jobs place job → ShowsJobs held jobs
    → All (λ (part : Part). All (λ cpu. holds_cpu held part.node cpu ≡ true) part.cpus
    × part.mem ≤ held_mem held part.node) job.parts
parts_held shown held jobs place job below is shows =
    let Holds : Part → Type 0 = λ part. All (λ cpu. holds_cpu held part.node cpu ≡ true) part.cpus
    × part.mem ≤ held_mem held part.node in
    subst (λ (one : JobRecord). All Holds one.parts) (sym is)
    (parts-at Holds jobs (shown (parts_of jobs) held shows.shown) place job below)

-- the parts of sound jobs are on nodes that differ and that there are
pub sound_on : (s : State) → IsSound s → All (λ (job : JobRecord). AreOnNodes (length s.nodes) job.parts) s.jobs
sound_on s sound k d below = record {
  there = λ j e inside. omega (
    arith,
    (parts-at (IsPartOf (map room_of s.nodes)) s.jobs sound.held.each k d below j e inside).node,
    length-map s.nodes room_of,
  );
  apart = (sound.jobs k d below).parts.apart;
}
