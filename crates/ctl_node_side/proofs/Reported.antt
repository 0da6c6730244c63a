-- What a report makes of a job: whether it runs on, that it lets go, and that whoever waits stays as he is.
use Rattle.std.proofs.Common.{ℕ, zero, suc, ◌≡◌, ◌≤◌, Bool, true, false, ◌&&◌, not, List, [], ◌∷◌, map, All, get_or, Option, Some, None, is_some, refl, ap, arith, inl, inr}
use Rattle.std.specs.List.{AllZip, list_any, filter, Contains}
use Rattle.std.proofs.lemmas.Bool.{cases_Bool, both_ways, cond_both}
use Rattle.std.proofs.lemmas.Bool.Decides.{nat_tests}
use Rattle.std.proofs.lemmas.List.Elements.{Contains-append_left, Contains-append_right, Contains-append_cases, filter_agree}
use Rattle.request_data.specs.declared.report.Done.{Done}
use Rattle.request_data.specs.declared.report.Start.{Start}
use Rattle.request_data.specs.declared.report.Report.{Report}
use Rattle.request_data.specs.declared.state.JobState.{JobState}
use Rattle.node_state.specs.declared.record.NodeRecord.{NodeRecord}
use Rattle.node_state.specs.Laws.{ConfsStay, ReportsSetNoneDown}
use Rattle.node_state.specs.Nodes.{is_up}
use Rattle.job_table.specs.declared.record.JobRecord.{JobRecord}
use Rattle.job_table.specs.declared.change.Change.TheVariants.{Leave, DropPart}
use Rattle.job_table.specs.Changes.{changed, off_node}
use Rattle.ctl_state.specs.Events.{LetsGo, become}
use Rattle.job_table.specs.JobStates.{is_pending, is_running}
use Rattle.ctl_state.specs.Laws.{Changing, ChangesLetGo, Charging, KeptLater, KeptOn, LetsGoNothing, LetsGoTwice, NodesStay}
use Rattle.ctl_state.specs.Soundness.{IsSound, IsKept, PlansPending, is_up_at, pending_ids}
use Rattle.ctl_state.specs.State.{State, last_moment}
use Rattle.ctl_state.specs.Verdicts.{stamped}
use Rattle.ctl_node_side.specs.Reporting.{heard_nodes, is_listed, done_of, is_at, is_batch_host, final_of, script_over, told_over, after_told, reported, report_after}
use Rattle.ctl_node_side.specs.Ordering.{is_same, killed, runs_start, start_of, stays}

abbrev runs_at : ℕ → JobRecord → Bool
runs_at node job = is_running job.state && is_at node job

-- who leaves a node runs on as it did, and keeps its start
off-runs : (now node : ℕ) (job : JobRecord) (state : JobState) → job.state ≡ state
    → runs_at node (off_node now node job state) ≡ runs_at node job
off-runs now node job state is = grind (arith, nat_tests)

off-start : (now node : ℕ) (job : JobRecord) (state : JobState) → start_of (off_node now node job state) ≡ start_of job
off-start now node job state = grind (arith, nat_tests)

told-runs : (now node : ℕ) (report : Report) (job : JobRecord) (done : Option Done)
    → runs_at node (after_told now node report job done)
    ≡ (runs_at node job && not (is_batch_host node job.parts && is_some done))
told-runs now node report job None = grind (arith, nat_tests)
told-runs now node report job (Some done) = let off = off-runs now node (script_over now node done job)
    (script_over now node done job).state refl in grind (arith, nat_tests)

reported-runs : (now node : ℕ) (report : Report) (job : JobRecord)
    → runs_at node (reported now node report job) ≡ stays node report job
reported-runs now node report job = grind (arith, nat_tests, told-runs now node report job (done_of report job))

reported-start : (now node : ℕ) (report : Report) (job : JobRecord)
    → start_of (reported now node report job) ≡ start_of job
reported-start now node report job = grind (arith, nat_tests, off-start)

-- of whom nothing is told, he has left the node
pub reported_untold : (now node : ℕ) (report : Report) (job : JobRecord) → is_at node job ≡ true
    → done_of report job ≡ None
    → is_listed report job ≡ false → reported now node report job ≡ changed (DropPart node now) job
reported_untold now node report job held over listed = rw (held, over, listed) refl

-- a start is among those that stay exactly where a job runs it once the report is accepted
kept-starts : (now node : ℕ) (report : Report) (start : Start) (jobs : List JobRecord)
    → list_any (λ other. is_same other start) (map start_of (filter (stays node report) jobs))
    ≡ runs_start node (map (reported now node report) jobs) start
kept-starts now node report start [] = refl
kept-starts now node report start (job ∷ jobs) =
    grind (
      arith,
      nat_tests,
      kept-starts now node report start jobs,
      reported-start now node report job,
      reported-runs now node report job,
    )

pub lost_starts : (now node : ℕ) (report : Report) (jobs : List JobRecord) (starts : List Start)
    → filter (λ start. not (list_any (λ other. is_same other start)
    (map start_of (filter (stays node report) jobs)))) starts
    ≡ killed now node report jobs starts
lost_starts now node report jobs starts = filter_agree _ _
    (λ start. ap not (kept-starts now node report start jobs)) starts

-- the laws of letting go that a report rests on
pub record Rests : Type 0 where
  pub changes : ChangesLetGo
  pub kept : KeptOn
  pub nothing : LetsGoNothing
  pub twice : LetsGoTwice

lets-reported : Rests → (now node : ℕ) (report : Report) (job : JobRecord) → IsKept now job
    → LetsGo now job (reported now node report job)
lets-reported rests now node report job kept = cond_both (is_at node job) _ job (LetsGo now job)
    (λ h. told (done_of report job)) (λ h. rests.nothing now job kept)
  where
    told : (done : Option Done) → LetsGo now job (after_told now node report job done)
    told None = cond_both (is_listed report job) job _ (LetsGo now job) (λ h. rests.nothing now job kept)
        (λ h. rests.changes now (DropPart node now) job refl kept)
    told (Some done) =
        let middle = script_over now node done job in
        let first = cond_both (is_batch_host node job.parts) _ job (LetsGo now job)
        (λ h. rests.changes now (Leave (final_of done.exit) now (Some done.exit)) job refl kept)
        (λ h. rests.nothing now job kept) in
        rests.twice now job middle (told_over now node done job) first
        (rests.changes now (DropPart node now) middle refl (rests.kept now job middle kept first))

-- a job that waits stays as it is
reported-waits : (now node : ℕ) (report : Report) (job : JobRecord) → is_pending job.state ≡ true
    → reported now node report job ≡ job
reported-waits now node report job waits = grind (arith, nat_tests)

-- so who waits, waits on
waits-on : (change : JobRecord → JobRecord) (jobs : List JobRecord) (id : ℕ)
    → ((job : JobRecord) → is_pending job.state ≡ true → change job ≡ job)
    → Contains (pending_ids jobs) id → Contains (pending_ids (map change jobs)) id
waits-on change [] id same has = has
waits-on change (job ∷ jobs) id same has =
    let later = pending_ids (map change jobs) in
    let rest = waits-on change jobs id same in
    elim (cases_Bool (is_pending job.state)) [
      | inl waits ↦
          rw (same job waits, waits)
          (elim (Contains-append_cases (job.id ∷ []) (pending_ids jobs) id (rw waits at has)) [
            | inl first ↦ Contains-append_left (job.id ∷ []) later id first
            | inr other ↦ Contains-append_right (job.id ∷ []) later id (rest other)
          ])
      | inr other ↦
          let more = rest (rw other at has) in
          cond_both (is_pending (change job).state) _ _
          (λ (jobs : List JobRecord). Contains (map (λ (job : JobRecord). job.id) jobs) id)
          (λ h. Contains-append_right ((change job).id ∷ []) later id more) (λ h. more)
    ]

-- nodes of which none goes down, place by place
up-after : (nodes after : List NodeRecord) → AllZip (λ one other. is_up one.down ≡ true → is_up other.down ≡ true)
    nodes after
    → (place : ℕ) → is_up_at nodes place ≡ true → is_up_at after place ≡ true
up-after [] after all place is = absurd (both_ways false refl is)
up-after (node ∷ nodes) [] all place is = absurd all
up-after (node ∷ nodes) (one ∷ later) all zero is = all.0 is
up-after (node ∷ nodes) (one ∷ later) all (suc place) is = up-after nodes later all.1 place is

-- An accepted report keeps all sound.
pub sound-reported : Changing → Charging → KeptLater → NodesStay → ConfsStay → ReportsSetNoneDown → Rests
    → (s : State) (now node : ℕ) (report : Report)
    → IsSound s → s.moment ≤ now → now ≤ last_moment → IsSound (stamped now (report_after s now node report))
sound-reported changing charging later nodes confs none_down rests s now node report sound raised in_time =
    let change = reported now node report in
    let plan : PlansPending (map change s.jobs) s.plan = record {
      pending = λ k d below. waits-on change s.jobs (get_or s.plan k d).id (reported-waits now node report)
          (sound.plan.pending k d below);
      once = sound.plan.once;
      last = sound.plan.last;
    } in
    let lets : All (λ job. LetsGo now job (change job)) s.jobs = λ k d below.
    lets-reported rests now node report (get_or s.jobs k d)
    (later s.moment now (get_or s.jobs k d) raised (sound.jobs k d below)) in
    nodes (record (become now (map change s.jobs) s) { moment = now }) (heard_nodes now node report s.nodes)
    (charging (record s { jobs = map change s.jobs; moment = now }) now s.jobs (map change s.jobs)
    (changing s now change s.plan sound in_time lets plan)) (confs node _ s.nodes)
    (up-after s.nodes (heard_nodes now node report s.nodes) (none_down node _ _ s.nodes))
