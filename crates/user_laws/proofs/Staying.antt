-- No job is lost, and only passes start jobs.
use Rattle.std.proofs.Common.{ℕ, ◌≡◌, ◌≢◌, ◌∙◌, true, false, List, [], ◌∷◌, All, Any, refl, sym, ap, inl, inr, ◌⊎◌, nat_eq}
use Rattle.std.specs.List.{list_any}
use Rattle.std.proofs.lemmas.Bool.{both_ways, cond_both}
use Rattle.std.proofs.lemmas.List.Elements.{All-weaker}
use Rattle.request_data.specs.declared.report.Report.{Report as Told}
use Rattle.request_data.specs.declared.request.NodeOrder.TheVariants as order
use Rattle.request_data.specs.declared.request.Request.{Request}
use Rattle.request_data.specs.declared.request.Request.TheVariants.{Pass}
use Rattle.job_table.specs.declared.record.JobRecord.{JobRecord}
use Rattle.job_table.specs.declared.record.Part.{Part}
use Rattle.job_table.specs.JobStates.{is_running}
use Rattle.ctl_state.specs.State.{State}
use Rattle.ctl_nodes.specs.Failing.{after_loss, loses, off_lost}
use Rattle.ctl_nodes.specs.Updating.{lost_by}
use Rattle.ctl_node_side.specs.Answering.{is_restarted}
use Rattle.ctl_node_side.specs.Reporting.{reported}
use Rattle.ctl_core.specs.Step.{raised, state_after}
use Rattle.step_lemmas.proofs.Making.{AsksCancel, AsksRequeue}
use Rattle.user_laws.specs.Staying.{HasGone, IsSame, RunsThere, may_end}
use Rattle.user_laws.proofs.Changes.{GoesOn, done_if_goes, goes_itself, goes_on, loss_goes, mild_stays, moved_goes, report_goes}
use Rattle.user_laws.proofs.States.{waits_still}
use Rattle.user_laws.proofs.Turning.{Becomes, IsNew, met_job, step_turns, Acted, Heard, Lost, Moved, Passed, Same}
use Rattle.daemon_world.proofs.Lists.{any_weaker}

-- ---- each job goes on, but through passes

heard-goes : (s : State) (now node : ℕ) (report : Told) (job : JobRecord)
    → GoesOn job (reported now node report (met_job s now node report job))
heard-goes s now node report job =
    let met = met_job s now node report job in
    goes_on job met (reported now node report met)
    (cond_both (is_restarted s report) (after_loss now (nat_eq node) job) job (GoesOn job)
    (λ is. loss_goes now (nat_eq node) job) (λ not. goes_itself job))
    (report_goes now node report met)

-- a job keeps its number, and goes on through what is no pass
both : {X : Type 0} {job after : JobRecord} → GoesOn job after → (after.id ≡ job.id) × (X → GoesOn job after)
both goes = (goes.id, λ any. goes)

becomes-on : (s : State) (now : ℕ) (user : List ℕ) (request : Request) (job after : JobRecord)
    → Becomes s now user request job after → (after.id ≡ job.id) × (request ≢ Pass → GoesOn job after)
becomes-on s now user request job after (Acted action named asks) = both (done_if_goes s now user action named job)
becomes-on s now user request job after (Lost nodes order) = both (loss_goes now (lost_by s.nodes nodes order) job)
becomes-on s now user request job after (Heard report node) = both (heard-goes s now node report job)
becomes-on s now user request job after (Moved conf bytes) = both (moved_goes s conf job)
becomes-on s now user request job after (Passed id) = (id, λ other. absurd (other refl))
becomes-on s now user request job after Same = both (goes_itself job)

pub becomes_goes : (s : State) (now : ℕ) (user : List ℕ) (request : Request) (job after : JobRecord) → request ≢ Pass
    → Becomes s now user request job after → GoesOn job after
becomes_goes s now user request job after other becomes = (becomes-on s now user request job after becomes).1 other

-- ---- no job is lost

pub none_lost : (s : State) (now : ℕ) (user : List ℕ) (request : Request) → All (λ (job : JobRecord).
    HasGone s (raised s now) request job
    ⊎ Any (λ (after : JobRecord). after.id ≡ job.id) (state_after s now user request).jobs) s.jobs
none_lost s now user request =
    let moment = raised s now in
    let jobs = (state_after s now user request).jobs in
    All-weaker (λ (job : JobRecord). HasGone s moment request job ⊎ Any (Becomes s moment user request job) jobs)
    (λ (job : JobRecord). HasGone s moment request job ⊎ Any (λ (after : JobRecord). after.id ≡ job.id) jobs)
    (λ job has. elim has [
      | inl gone ↦ inl gone
      | inr any ↦
          inr (any_weaker (Becomes s moment user request job) (λ (after : JobRecord). after.id ≡ job.id) jobs
          (λ after is. (becomes-on s moment user request job after is).0) any)
    ]) s.jobs (step_turns s now user request).each

-- ---- only passes start

same-back : (job after : JobRecord) → GoesOn job after → IsSame after job
same-back job after goes = record { id = sym goes.id; starts = sym goes.starts }

pub none_started : (s : State) (now : ℕ) (user : List ℕ) (request : Request) → request ≢ Pass
    → All (λ (after : JobRecord). Any (λ (job : JobRecord). IsSame after job) s.jobs ⊎ (after.starts ≡ 0))
    (state_after s now user request).jobs
none_started s now user request other =
    let moment = raised s now in
    All-weaker
    (λ (after : JobRecord). Any (λ (job : JobRecord). Becomes s moment user request job after) s.jobs ⊎ IsNew s after)
    (λ (after : JobRecord). Any (λ (job : JobRecord). IsSame after job) s.jobs ⊎ (after.starts ≡ 0))
    (λ after has. elim has [
      | inl any ↦
          inl (any_weaker (λ (job : JobRecord). Becomes s moment user request job after)
          (λ (job : JobRecord). IsSame after job) s.jobs
          (λ job is. same-back job after (becomes_goes s moment user request job after other is)) any)
      | inr new ↦ inr new.never
    ]) (state_after s now user request).jobs (step_turns s now user request).was

pub none_begun : (s : State) (now : ℕ) (user : List ℕ) (request : Request) → request ≢ Pass
    → All (λ (after : JobRecord). is_running after.state ≡ true → Any (RunsThere after) s.jobs)
    (state_after s now user request).jobs
none_begun s now user request other =
    let moment = raised s now in
    All-weaker
    (λ (after : JobRecord). Any (λ (job : JobRecord). Becomes s moment user request job after) s.jobs ⊎ IsNew s after)
    (λ (after : JobRecord). is_running after.state ≡ true → Any (RunsThere after) s.jobs)
    (λ after has runs. elim has [
      | inl any ↦
          any_weaker (λ (job : JobRecord). Becomes s moment user request job after) (RunsThere after) s.jobs
          (λ job is. let goes = becomes_goes s moment user request job after other is in
          record { same = same-back job after goes; runs = goes.ran runs }) any
      | inr new ↦ absurd (both_ways (is_running after.state) (waits_still after.state new.waits) runs)
    ]) (state_after s now user request).jobs (step_turns s now user request).was

-- ---- who runs runs on

none-lost : (parts : List Part) → list_any (λ (part : Part). false) parts ≡ false
none-lost [] = refl
none-lost (part ∷ later) = none-lost later

spared : (now : ℕ) (job : JobRecord) → (after_loss now (λ place. false) job).state ≡ job.state
spared now job =
    cond_both (loses (λ place. false) job) (off_lost now (λ place. false) job job.state) job
    (λ (after : JobRecord). after.state ≡ job.state)
    (λ some. absurd (both_ways (loses (λ place. false) job) (none-lost job.parts) some)) (λ none. refl)

-- a request that may end none leaves each job in its state
pub state_stays : (s : State) (now : ℕ) (user : List ℕ) (request : Request) (job after : JobRecord)
    → may_end request ≡ false → Becomes s now user request job after → after.state ≡ job.state
state_stays s now user request job after mild (Acted action named (AsksCancel targets)) =
    absurd (both_ways true mild refl)
state_stays s now user request job after mild (Acted action named (AsksRequeue target)) =
    absurd (both_ways true mild refl)
state_stays s now user request job after mild (Acted action named asks) = mild_stays s now user action named job tt
state_stays s now user request job after mild (Lost nodes order.Down) = absurd (both_ways true mild refl)
state_stays s now user request job after mild (Lost nodes other) = spared now job
state_stays s now user request job after mild (Heard report node) = absurd (both_ways true mild refl)
state_stays s now user request job after mild (Passed id) = absurd (both_ways true mild refl)
state_stays s now user request job after mild other = refl

never-gone : (s : State) (now : ℕ) (request : Request) (job : JobRecord) → request ≢ Pass → HasGone s now request job → ⊥
never-gone s now Pass job other gone = other refl
never-gone s now request job other gone = gone

no-pass : (request : Request) → may_end request ≡ false → request ≢ Pass
no-pass request mild is = both_ways (may_end request) mild (ap may_end is)

pub none_ended : (s : State) (now : ℕ) (user : List ℕ) (request : Request) → may_end request ≡ false
    → All (λ (job : JobRecord). is_running job.state ≡ true
    → Any (RunsThere job) (state_after s now user request).jobs) s.jobs
none_ended s now user request mild =
    let moment = raised s now in
    let other = no-pass request mild in
    let jobs = (state_after s now user request).jobs in
    All-weaker (λ (job : JobRecord). HasGone s moment request job ⊎ Any (Becomes s moment user request job) jobs)
    (λ (job : JobRecord). is_running job.state ≡ true → Any (RunsThere job) jobs)
    (λ job has runs. elim has [
      | inl gone ↦ absurd (never-gone s moment request job other gone)
      | inr any ↦
          any_weaker (Becomes s moment user request job) (RunsThere job) jobs
          (λ after is. let goes = becomes_goes s moment user request job after other is in
          record {
            same = record { id = goes.id; starts = goes.starts };
            runs = ap is_running (state_stays s moment user request job after mild is) ∙ runs;
          }) any
    ]) s.jobs (step_turns s now user request).each
