-- What is ordered to be launched in answer to a report: starts of which the report says nothing, each held on its node.
use Rattle.std.proofs.Common.{ℕ, suc, ◌≡◌, ◌≤◌, ◌<◌, ◌∙◌, Bool, true, false, not, ◌&&◌, ◌||◌, List, [], ◌∷◌, map, find, filter_map, All, Any, Option, Some, None, is_some, option_map, refl, sym, ap, subst, arith, inl, inr, nat_eq}
use Rattle.std.specs.List.{cons_option, list_any}
use Rattle.std.proofs.lemmas.Bool.{and_left, and_parts, both_ways, cases_Bool, cond_both, cond-false, cond-true, eqb-true, ne_eqb, not-true, or_parts}
use Rattle.std.proofs.lemmas.Bool.Decides.{nat_tests}
use Rattle.std.proofs.lemmas.List.Elements.{All-cons, All-head, All-nil, All-tail, All-weaker}
use Rattle.reply_data.specs.declared.orders.Launch.{Launch}
use Rattle.request_data.specs.declared.report.Done.{Done}
use Rattle.request_data.specs.declared.report.Report.{Report}
use Rattle.request_data.specs.declared.report.Start.{Start}
use Rattle.request_data.specs.declared.state.JobState.{JobState}
use Rattle.request_data.specs.declared.state.JobState.TheVariants.{Pending, Running, Completing, Ended}
use Rattle.job_table.specs.declared.record.JobRecord.{JobRecord}
use Rattle.job_table.specs.declared.record.Part.{Part}
use Rattle.job_table.specs.declared.change.Change.TheVariants.{DropPart}
use Rattle.job_table.specs.Changes.{changed, is_on, off_node}
use Rattle.job_table.specs.JobStates.{is_running}
use Rattle.job_table.specs.Table.{HaveRisingIds}
use Rattle.ctl_node_side.specs.Ordering.{launch_of, launch_part, start_of}
use Rattle.ctl_node_side.specs.Reporting.{after_told, done_of, is_at, is_last_start, is_listed, reported}
use Rattle.node_daemon.specs.Daemon.{is_among, is_same}
use Rattle.daemon_world.specs.Claims.{Claim, Holds, IsHeldAt, claim_launch, times_claiming}
use Rattle.daemon_world.specs.Together.{tells_over}
use Rattle.daemon_world.proofs.Lists.{any_here, any_there, count_no, count_yes}
use Rattle.list_lemmas.proofs.Elements.{any-map as list_any_map}

-- ---- what the report says of a job

-- it is the job's last start exactly where it is the same one
pub of_job : (job : JobRecord) (start one : Start) → job.id ≡ start.id → job.starts ≡ start.number
    → is_last_start job one ≡ is_same one start
of_job job start one id number = grind (arith, nat_tests)

any-alike : {X : Type 0} (p q : X → Bool) → ((x : X) → p x ≡ q x) → (xs : List X) → list_any p xs ≡ list_any q xs
any-alike p q same [] = refl
any-alike p q same (x ∷ xs) = rw (same x, any-alike p q same xs) refl

pub listed_is : (report : Report) (job : JobRecord) (start : Start) → job.id ≡ start.id → job.starts ≡ start.number
    → is_listed report job ≡ is_among report.running start
listed_is report job start id number =
    any-alike (is_last_start job) (λ one. is_same one start) (λ one. of_job job start one id number) report.running

told_is : (report : Report) (job : JobRecord) (start : Start) → job.id ≡ start.id → job.starts ≡ start.number
    → list_any (λ (done : Done). is_last_start job done.start) report.done ≡ tells_over report start
told_is report job start id number =
    any-alike (λ (done : Done). is_last_start job done.start) (λ (done : Done). is_same done.start start)
    (λ done. of_job job start done.start id number) report.done
    ∙ sym (list_any_map (λ one. is_same one start) (λ (done : Done). done.start) report.done)

none-found : {X : Type 0} (p : X → Bool) (xs : List X) → list_any p xs ≡ false → find p xs ≡ None
none-found p [] none = refl
none-found p (x ∷ xs) none =
    let each = or_parts (p x) (list_any p xs) none in rw (each.0) (none-found p xs each.1)

found-none : {X : Type 0} (p : X → Bool) (xs : List X) → is_some (find p xs) ≡ false → list_any p xs ≡ false
found-none p [] none = refl
found-none p (x ∷ xs) none = elim (cases_Bool (p x)) [
  | inl passes ↦ absurd (both_ways true (rw passes at none) refl)
  | inr fails ↦ rw fails (found-none p xs (rw fails at none))
]

pub none_done : (report : Report) (job : JobRecord) (start : Start) → job.id ≡ start.id → job.starts ≡ start.number
    → tells_over report start ≡ false → done_of report job ≡ None
none_done report job start id number none =
    none-found (λ (done : Done). is_last_start job done.start) report.done (told_is report job start id number ∙ none)

-- a job whose start is listed, and not told to be over, stays as it is
pub listed_stays : (now place : ℕ) (report : Report) (job : JobRecord) (start : Start) → job.id ≡ start.id
    → job.starts ≡ start.number → is_among report.running start ≡ true → tells_over report start ≡ false
    → reported now place report job ≡ job
listed_stays now place report job start id number listed none =
    cond_both (is_at place job) (after_told now place report job (done_of report job)) job
    (λ (after : JobRecord). after ≡ job)
    (λ here. ap (after_told now place report job) (none_done report job start id number none)
    ∙ cond-true (is_listed report job) job (changed (DropPart place now) job)
    (listed_is report job start id number ∙ listed))
    (λ off. refl)

-- ---- what is launched

-- the launch is of the job's last start, of which the report says nothing, and the job holds it after the report
pub record IsLaunched (now place : ℕ) (report : Report) (job : JobRecord) (launch : Launch) : Type 0 where
  pub id : launch.start.id ≡ job.id
  pub unlisted : is_among report.running launch.start ≡ false
  pub untold : tells_over report launch.start ≡ false
  pub held : Holds place (claim_launch launch) (reported now place report job)

-- the launch of a job, if there is one
abbrev OfJob : ℕ → ℕ → Report → JobRecord → Option Launch → Type 0
OfJob now place report job None = Unit {0}
OfJob now place report job (Some launch) = IsLaunched now place report job launch

-- the first part on a node
found-on : (place : ℕ) (parts : List Part) (part : Part) → find (is_on place) parts ≡ Some part
    → Any (λ (one : Part). (one.node ≡ place) × (one.cpus ≡ part.cpus)) parts
found-on place [] part found = absurd (let never = found in cc)
found-on place (one ∷ later) part found =
    let P = λ (one : Part). (one.node ≡ place) × (one.cpus ≡ part.cpus) in
    elim (cases_Bool (is_on place one)) [
      | inl here ↦
          let is : one ≡ part = cc (rw here at found) in
          any_here P one later (eqb-true one.node place here, ap (λ (part : Part). part.cpus) is)
      | inr other ↦ any_there P one later (found-on place later part (rw other at found))
    ]

-- a running job stays as it is where nothing is said of its start
running-off : (now place : ℕ) (job : JobRecord) (state : JobState) → is_running state ≡ true
    → off_node now place job state ≡ job
running-off now place job Running runs = refl
running-off now place job Pending runs = absurd (both_ways false refl runs)
running-off now place job (Completing final) runs = absurd (both_ways false refl runs)
running-off now place job (Ended final) runs = absurd (both_ways false refl runs)

silent-stays : (now place : ℕ) (report : Report) (job : JobRecord) → is_running job.state ≡ true
    → is_listed report job ≡ false → done_of report job ≡ None → reported now place report job ≡ job
silent-stays now place report job runs unlisted none =
    cond_both (is_at place job) (after_told now place report job (done_of report job)) job
    (λ (after : JobRecord). after ≡ job)
    (λ here. ap (after_told now place report job) none
    ∙ cond-false (is_listed report job) job (changed (DropPart place now) job) unlisted
    ∙ running-off now place job job.state runs)
    (λ off. refl)

launched-part : (now place : ℕ) (report : Report) (job : JobRecord) → is_running job.state ≡ true
    → is_listed report job ≡ false → is_some (done_of report job) ≡ false
    → (found : Option Part) → find (is_on place) job.parts ≡ found
    → OfJob now place report job (option_map (launch_part place job) found)
launched-part now place report job runs unlisted undone None is = tt
launched-part now place report job runs unlisted undone (Some part) is =
    let launch = launch_part place job part in
    let untold = found-none (λ (done : Done). is_last_start job done.start) report.done undone in
    let none = none-found (λ (done : Done). is_last_start job done.start) report.done untold in
    record {
      id = refl;
      unlisted = sym (listed_is report job (start_of job) refl refl) ∙ unlisted;
      untold = sym (told_is report job (start_of job) refl refl) ∙ untold;
      held = subst (λ (after : JobRecord). Holds place (claim_launch launch) after)
          (sym (silent-stays now place report job runs unlisted none))
          (record { id = refl; number = refl; part = found-on place job.parts part is });
    }

launch-of : (now place : ℕ) (report : Report) (job : JobRecord)
    → OfJob now place report job (launch_of place report job)
launch-of now place report job =
    cond_both (is_running job.state && not (is_listed report job || is_some (done_of report job)))
    (option_map (launch_part place job) (find (is_on place) job.parts)) None (OfJob now place report job)
    (λ is. let each = and_parts (is_running job.state)
    (not (is_listed report job || is_some (done_of report job))) is in
    let silent = or_parts (is_listed report job) (is_some (done_of report job))
    (not-true (is_listed report job || is_some (done_of report job)) each.1) in
    launched-part now place report job each.0 silent.0 silent.1 (find (is_on place) job.parts) refl)
    (λ other. tt)

-- ---- all launches

-- what holds of the launches of all jobs
with-one : (P : Launch → Type 0) (now place : ℕ) (report : Report) (job : JobRecord) (launch : Option Launch)
    (rest : List Launch) → OfJob now place report job launch
    → ((launch : Launch) → IsLaunched now place report job launch → P launch) → All P rest
    → All P (cons_option launch rest)
with-one P now place report job None rest is each all = all
with-one P now place report job (Some launch) rest is each all = All-cons P launch rest (each launch is) all

launches-all : (P : Launch → Type 0) (now place : ℕ) (report : Report) (jobs : List JobRecord)
    → ((job : JobRecord) (launch : Launch) → IsLaunched now place report job launch → P launch)
    → All P (filter_map (launch_of place report) jobs)
launches-all P now place report [] each = All-nil P
launches-all P now place report (job ∷ jobs) each =
    with-one P now place report job (launch_of place report job) (filter_map (launch_of place report) jobs)
    (launch-of now place report job) (each job) (launches-all P now place report jobs each)

-- the report says nothing of them
pub launches_new : (now place : ℕ) (report : Report) (jobs : List JobRecord)
    → All (λ (launch : Launch). (is_among report.running launch.start ≡ false)
    × (tells_over report launch.start ≡ false)) (filter_map (launch_of place report) jobs)
launches_new now place report jobs =
    launches-all (λ (launch : Launch). (is_among report.running launch.start ≡ false)
    × (tells_over report launch.start ≡ false)) now place report jobs (λ job launch is. (is.unlisted, is.untold))

-- they are held after the report
pub launches_held : (now place : ℕ) (report : Report) (jobs : List JobRecord)
    → All (λ (launch : Launch). IsHeldAt (map (reported now place report) jobs) place (claim_launch launch))
    (filter_map (launch_of place report) jobs)
launches_held now place report [] = All-nil (λ (launch : Launch). IsHeldAt [] place (claim_launch launch))
launches_held now place report (job ∷ jobs) =
    let after = reported now place report in
    let Later = λ (launch : Launch). IsHeldAt (map after jobs) place (claim_launch launch) in
    let Now = λ (launch : Launch). IsHeldAt (after job ∷ map after jobs) place (claim_launch launch) in
    let rest = All-weaker Later Now
    (λ launch held. any_there (Holds place (claim_launch launch)) (after job) (map after jobs) held)
    (filter_map (launch_of place report) jobs) (launches_held now place report jobs) in
    held-one now place report job (launch_of place report job) jobs (launch-of now place report job) rest
  where
    held-one : (now place : ℕ) (report : Report) (job : JobRecord) (launch : Option Launch) (jobs : List JobRecord)
        → OfJob now place report job launch
        → All (λ (launch : Launch). IsHeldAt (map (reported now place report) (job ∷ jobs)) place
        (claim_launch launch)) (filter_map (launch_of place report) jobs)
        → All (λ (launch : Launch). IsHeldAt (map (reported now place report) (job ∷ jobs)) place
        (claim_launch launch)) (cons_option launch (filter_map (launch_of place report) jobs))
    held-one now place report job None jobs is rest = rest
    held-one now place report job (Some launch) jobs is rest =
        All-cons
        (λ (launch : Launch). IsHeldAt (map (reported now place report) (job ∷ jobs)) place (claim_launch launch))
        launch (filter_map (launch_of place report) jobs)
        (any_here (Holds place (claim_launch launch)) (reported now place report job)
        (map (reported now place report) jobs) is.held) rest

-- no two are of one start, since the numbers of their jobs rise
none-of : (launches : List Launch) (start : Start) → All (λ (launch : Launch). start.id < launch.start.id) launches
    → times_claiming (map claim_launch launches) start ≤ 0
none-of [] start above = omega arith
none-of (launch ∷ later) start above =
    let Above = λ (launch : Launch). start.id < launch.start.id in
    let behind = All-head Above launch later above in
    let differ : is_same launch.start start ≡ false =
    and_left (nat_eq launch.start.id start.id) (nat_eq launch.start.number start.number)
    (ne_eqb launch.start.id start.id (λ is. omega (arith, is, behind))) in
    omega (
      arith,
      count_no (λ (claim : Claim). is_same claim.start start) (claim_launch launch) (map claim_launch later) differ,
      none-of later start (All-tail Above launch later above),
    )

above-all : (low now place : ℕ) (report : Report) (jobs : List JobRecord)
    → All (λ (job : JobRecord). low < job.id) jobs
    → All (λ (launch : Launch). low < launch.start.id) (filter_map (launch_of place report) jobs)
above-all low now place report [] above = All-nil (λ (launch : Launch). low < launch.start.id)
above-all low now place report (job ∷ jobs) above =
    let Above = λ (job : JobRecord). low < job.id in
    above-one low now place report job (launch_of place report job) (filter_map (launch_of place report) jobs)
    (launch-of now place report job) (All-head Above job jobs above)
    (above-all low now place report jobs (All-tail Above job jobs above))
  where
    above-one : (low now place : ℕ) (report : Report) (job : JobRecord) (launch : Option Launch) (rest : List Launch)
        → OfJob now place report job launch → low < job.id → All (λ (launch : Launch). low < launch.start.id) rest
        → All (λ (launch : Launch). low < launch.start.id) (cons_option launch rest)
    above-one low now place report job None rest is above all = all
    above-one low now place report job (Some launch) rest is above all =
        All-cons (λ (launch : Launch). low < launch.start.id) launch rest (omega (arith, is.id, above)) all

one-more : (start : Start) (now place : ℕ) (report : Report) (job : JobRecord) (launch : Option Launch)
    (rest : List Launch) → OfJob now place report job launch
    → All (λ (launch : Launch). job.id < launch.start.id) rest
    → times_claiming (map claim_launch rest) start ≤ 1
    → times_claiming (map claim_launch (cons_option launch rest)) start ≤ 1
one-more start now place report job None rest is above once = once
one-more start now place report job (Some launch) rest is above once =
    elim (cases_Bool (is_same launch.start start)) [
      | inl same ↦
          let here = and_parts (nat_eq launch.start.id start.id) (nat_eq launch.start.number start.number) same in
          let id = eqb-true launch.start.id start.id here.0 in
          let none = none-of rest start (All-weaker (λ (launch : Launch). job.id < launch.start.id)
          (λ (launch : Launch). start.id < launch.start.id) (λ other behind. omega (arith, behind, is.id, id)) rest
          above) in
          omega (
            arith,
            count_yes (λ (claim : Claim). is_same claim.start start) (claim_launch launch) (map claim_launch rest)
                same,
            none,
          )
      | inr differ ↦
          omega (
            arith,
            count_no (λ (claim : Claim). is_same claim.start start) (claim_launch launch) (map claim_launch rest)
                differ,
            once,
          )
    ]

pub launches_once : (start : Start) (now place : ℕ) (report : Report) (jobs : List JobRecord) → HaveRisingIds jobs
    → times_claiming (map claim_launch (filter_map (launch_of place report) jobs)) start ≤ 1
launches_once start now place report [] rising = omega arith
launches_once start now place report (job ∷ jobs) rising =
    one-more start now place report job (launch_of place report job) (filter_map (launch_of place report) jobs)
    (launch-of now place report job)
    (above-all job.id now place report jobs
    (λ k d below. rising 0 (suc k) d (omega arith) (omega (arith, below))))
    (launches_once start now place report jobs (λ i j d before within. rising (suc i) (suc j) d (omega (arith, before))
    (omega (arith, within))))
