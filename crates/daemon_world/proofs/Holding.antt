-- What jobs hold of a node goes on being held through all that takes nothing there.
use Rattle.std.proofs.Common.{ℕ, ◌≡◌, ◌∙◌, Bool, false, not, List, [], ◌∷◌, Any, Option, Some, None, refl, sym, ap, subst}
use Rattle.std.proofs.lemmas.Bool.{cond_both, ne_eqb, not_from_false}
use Rattle.request_data.specs.declared.report.Done.{Done}
use Rattle.request_data.specs.declared.report.Report.{Report}
use Rattle.request_data.specs.declared.state.Final.{Final}
use Rattle.request_data.specs.declared.state.Final.TheVariants.{Requeue, Cancelled}
use Rattle.request_data.specs.declared.state.JobState.{JobState}
use Rattle.request_data.specs.declared.state.JobState.TheVariants.{Pending, Running, Completing, Ended}
use Rattle.job_table.specs.declared.record.JobRecord.{JobRecord}
use Rattle.job_table.specs.declared.record.Part.{Part}
use Rattle.job_table.specs.declared.change.Change.TheVariants.{CancelPending, CancelRequeue, DropPart, Leave}
use Rattle.job_table.specs.Changes.{changed, is_on, not_again, off_node, parts_off, with_left}
use Rattle.job_table.specs.JobStates.{is_pending, is_running}
use Rattle.ctl_nodes.specs.Failing.{after_loss, failed, failing, loses, off_lost, parts_kept}
use Rattle.ctl_node_side.specs.Reporting.{after_told, done_of, final_of as final_by, is_at, is_batch_host, is_listed, reported, script_over}
use Rattle.daemon_world.specs.Claims.{Claim, Holds, IsClaimed}
use Rattle.daemon_world.proofs.Lists.{any_filter, any_none}

-- a job that keeps its number, its starts and its parts
pub record IsAlike (job after : JobRecord) : Type 0 where
  pub id : after.id ≡ job.id
  pub starts : after.starts ≡ job.starts
  pub parts : after.parts ≡ job.parts

pub alike_holds : (place : ℕ) (claim : Claim) (job after : JobRecord) → IsAlike job after → Holds place claim job
    → Holds place claim after
alike_holds place claim job after alike holds = record {
  id = alike.id ∙ holds.id;
  number = alike.starts ∙ holds.number;
  part = subst (Any (IsClaimed place claim)) (sym alike.parts) holds.part;
}

pub itself : (job : JobRecord) → IsAlike job job
itself job = record { id = refl; starts = refl; parts = refl }

pub alike_on : (job middle after : JobRecord) → IsAlike job middle → IsAlike middle after → IsAlike job after
alike_on job middle after one two = record {
  id = two.id ∙ one.id;
  starts = two.starts ∙ one.starts;
  parts = two.parts ∙ one.parts;
}

-- ---- changes that keep the parts

pub leave_alike : (to : Final) (now : ℕ) (exit : Option ℕ) (job : JobRecord)
    → IsAlike job (changed (Leave to now exit) job)
leave_alike to now exit job =
    cond_both (is_running job.state) (record job { state = Completing to; ended = Some now; exit = exit }) job
    (IsAlike job) (λ runs. record { id = refl; starts = refl; parts = refl }) (λ other. itself job)

pub cancel_alike : (now : ℕ) (job : JobRecord) → IsAlike job (changed (CancelPending now) job)
cancel_alike now job =
    cond_both (is_pending job.state) (record job { state = Ended Cancelled; ended = Some now }) job
    (IsAlike job) (λ waits. record { id = refl; starts = refl; parts = refl }) (λ other. itself job)

not-again-alike : (job : JobRecord) (state : JobState) → IsAlike job (not_again job state)
not-again-alike job (Completing Requeue) = record { id = refl; starts = refl; parts = refl }
not-again-alike job state = itself job

pub again_alike : (job : JobRecord) → IsAlike job (changed CancelRequeue job)
again_alike job = not-again-alike job job.state

-- ---- changes that drop parts elsewhere

-- a job with parts left holds what is claimed of these
left-holds : (now place : ℕ) (claim : Claim) (final : Final) (rest : List Part) (job : JobRecord)
    → job.id ≡ claim.start.id → job.starts ≡ claim.start.number → Any (IsClaimed place claim) rest
    → Holds place claim (with_left now final rest job)
left-holds now place claim final [] job id number any = absurd (any_none (IsClaimed place claim) any)
left-holds now place claim final (part ∷ later) job id number any = record { id = id; number = number; part = any }

pub off_holds : (now place node : ℕ) (claim : Claim) (job : JobRecord) (state : JobState) → (node ≡ place → ⊥)
    → Holds place claim job → Holds place claim (off_node now node job state)
off_holds now place node claim job Pending differ holds = holds
off_holds now place node claim job Running differ holds = holds
off_holds now place node claim job (Completing final) differ holds =
    left-holds now place claim final (parts_off node job.parts) job holds.id holds.number
    (any_filter (λ (part : Part). Unit {0}) (IsClaimed place claim) (λ (part : Part). not (is_on node part)) job.parts
    (λ part any is. not_from_false (is_on node part) (ne_eqb part.node node (λ on. differ (sym on ∙ is.0))))
    (λ k d below. tt) holds.part)
off_holds now place node claim job (Ended final) differ holds = holds

lost-holds : (now place : ℕ) (lost : ℕ → Bool) (claim : Claim) (job : JobRecord) (state : JobState)
    → lost place ≡ false → Holds place claim job → Holds place claim (off_lost now lost job state)
lost-holds now place lost claim job Pending kept holds = holds
lost-holds now place lost claim job Running kept holds =
    let alike = leave_alike (failing job) now None job in
    left-holds now place claim (failing job) (parts_kept lost job.parts) (failed now job) (alike.id ∙ holds.id)
    (alike.starts ∙ holds.number) (kept-parts place lost claim job.parts kept holds.part)
  where
    kept-parts : (place : ℕ) (lost : ℕ → Bool) (claim : Claim) (parts : List Part) → lost place ≡ false
        → Any (IsClaimed place claim) parts → Any (IsClaimed place claim) (parts_kept lost parts)
    kept-parts place lost claim parts kept any =
        any_filter (λ (part : Part). Unit {0}) (IsClaimed place claim) (λ (part : Part). not (lost part.node)) parts
        (λ part all is. not_from_false (lost part.node) (ap lost is.0 ∙ kept)) (λ k d below. tt) any
lost-holds now place lost claim job (Completing final) kept holds =
    left-holds now place claim final (parts_kept lost job.parts) job holds.id holds.number
    (any_filter (λ (part : Part). Unit {0}) (IsClaimed place claim) (λ (part : Part). not (lost part.node)) job.parts
    (λ part all is. not_from_false (lost part.node) (ap lost is.0 ∙ kept)) (λ k d below. tt) holds.part)
lost-holds now place lost claim job (Ended final) kept holds = holds

pub loss_holds : (now place : ℕ) (lost : ℕ → Bool) (claim : Claim) (job : JobRecord) → lost place ≡ false
    → Holds place claim job → Holds place claim (after_loss now lost job)
loss_holds now place lost claim job kept holds =
    cond_both (loses lost job) (off_lost now lost job job.state) job (Holds place claim)
    (λ some. lost-holds now place lost claim job job.state kept holds) (λ none. holds)

-- ---- reports of other nodes

over-alike : (now node : ℕ) (done : Done) (job : JobRecord) → IsAlike job (script_over now node done job)
over-alike now node done job =
    cond_both (is_batch_host node job.parts) (changed (Leave (final_by done.exit) now (Some done.exit)) job) job
    (IsAlike job) (λ host. leave_alike (final_by done.exit) now (Some done.exit) job) (λ other. itself job)

told-holds : (now place node : ℕ) (claim : Claim) (report : Report) (job : JobRecord) (told : Option Done)
    → (node ≡ place → ⊥) → Holds place claim job → Holds place claim (after_told now node report job told)
told-holds now place node claim report job None differ holds =
    cond_both (is_listed report job) job (changed (DropPart node now) job) (Holds place claim) (λ listed. holds)
    (λ unlisted. off_holds now place node claim job job.state differ holds)
told-holds now place node claim report job (Some done) differ holds =
    let over = script_over now node done job in
    off_holds now place node claim over over.state differ
    (alike_holds place claim job over (over-alike now node done job) holds)

pub report_holds : (now place node : ℕ) (claim : Claim) (report : Report) (job : JobRecord) → (node ≡ place → ⊥)
    → Holds place claim job → Holds place claim (reported now node report job)
report_holds now place node claim report job differ holds =
    cond_both (is_at node job) (after_told now node report job (done_of report job)) job (Holds place claim)
    (λ here. told-holds now place node claim report job (done_of report job) differ holds) (λ off. holds)
