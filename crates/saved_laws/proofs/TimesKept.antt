-- A job's moments go on fitting its state.
use Rattle.std.proofs.Common.{ℕ, ◌≡◌, ◌∙◌, ◌+◌, ◌-◌, ◌^◌, true, List, [], ◌∷◌, All, Option, Some, refl, ap, sym, arith}
use Rattle.std.specs.Prelude.{is_some, min}
use Rattle.std.proofs.lemmas.Bool.{cond_both, lt-ltb}
use Rattle.plain_data.specs.declared.job.JobDesc.{JobDesc}
use Rattle.request_data.specs.declared.state.Final.{Final}
use Rattle.request_data.specs.declared.state.Final.TheVariants.{Completed, Cancelled, Failed, Timeout, NodeFail, Requeue}
use Rattle.request_data.specs.declared.state.JobState.{JobState}
use Rattle.request_data.specs.declared.state.JobState.TheVariants.{Pending, Running, Completing, Ended}
use Rattle.job_table.specs.declared.record.JobRecord.{JobRecord}
use Rattle.job_table.specs.declared.record.Part.{Part}
use Rattle.job_table.specs.declared.change.Change.{Change}
use Rattle.job_table.specs.declared.change.Change.TheVariants.{Start, Leave, CancelPending, CancelRequeue, DropPart, SetHold, SetLimit, SetNice}
use Rattle.job_table.specs.Changes.{changed, end_of, not_again, off_node, parts_off, with_left}
use Rattle.job_table.specs.JobStates.{is_completing, is_pending, is_running, left}
use Rattle.ctl_state.specs.State.{State}
use Rattle.ctl_jobs.specs.Submission.{Basis, new_jobs}
use Rattle.saved_laws.specs.Kept.{HasMoments, IsTimed}
use Rattle.saved_laws.proofs.NamesKept.{new_true}
use Rattle.saved_laws.proofs.Walks.{StaysTrue}

-- what ran has a start
ran : (state : JobState) (started ended : Option ℕ) → is_running state ≡ true → HasMoments state started ended
    → is_some started ≡ true
ran Pending started ended runs has = absurd (cc)
ran Running started ended runs has = has.0
ran (Completing final) started ended runs has = absurd (cc)
ran (Ended final) started ended runs has = absurd (cc)

-- what completed has both
completed : (state : JobState) (started ended : Option ℕ) → is_completing state ≡ true → HasMoments state started ended
    → (is_some started ≡ true) × (is_some ended ≡ true)
completed Pending started ended completes has = absurd (cc)
completed Running started ended completes has = absurd (cc)
completed (Completing final) started ended completes has = has
completed (Ended final) started ended completes has = absurd (cc)

-- what a completing job becomes without parts
left-moments : (now : ℕ) (end : Final) (started ended : Option ℕ) → is_some started ≡ true → is_some ended ≡ true
    → HasMoments (left end) started (end_of now end ended)
left-moments now Requeue started ended start some = some ∙ sym start
left-moments now Completed started ended start some = tt
left-moments now Cancelled started ended start some = tt
left-moments now Failed started ended start some = tt
left-moments now Timeout started ended start some = tt
left-moments now NodeFail started ended start some = tt

left-timed : (now : ℕ) (end : Final) (parts : List Part) (job : JobRecord) → is_completing job.state ≡ true → IsTimed job
    → IsTimed (with_left now end parts job)
left-timed now end [] job completes timed =
    let both = completed job.state job.started job.ended completes timed.moments in
    record {
      eligible = timed.eligible;
      started = timed.started;
      moments = left-moments now end job.started job.ended both.0 both.1;
    }
left-timed now end (part ∷ later) job completes timed =
    record { eligible = timed.eligible; started = timed.started; moments = timed.moments }

off-timed : (now node : ℕ) (job : JobRecord) (state : JobState) → job.state ≡ state → IsTimed job
    → IsTimed (off_node now node job state)
off-timed now node job Pending is timed = timed
off-timed now node job Running is timed = timed
off-timed now node job (Completing end) is timed =
    left-timed now end (parts_off node job.parts) job (ap is_completing is) timed
off-timed now node job (Ended end) is timed = timed

again-timed : (job : JobRecord) (state : JobState) → job.state ≡ state → IsTimed job → IsTimed (not_again job state)
again-timed job (Completing Requeue) is timed =
    record {
      eligible = timed.eligible;
      started = timed.started;
      moments = completed job.state job.started job.ended (ap is_completing is) timed.moments;
    }
again-timed job state is timed = timed

changed-timed : (change : Change) (job : JobRecord) → IsTimed job → IsTimed (changed change job)
changed-timed (Start now parts nodes) job timed = record {
  eligible = timed.eligible;
  started = sym (lt-ltb 0 (min (job.starts + 1) (2 ^ 32 - 1)) (omega arith));
  moments = (refl, refl);
}
changed-timed (Leave end now exit) job timed =
    cond_both (is_running job.state) (record job { state = Completing end; ended = Some now; exit = exit }) job IsTimed
    (λ runs. record {
      eligible = timed.eligible;
      started = timed.started;
      moments = (ran job.state job.started job.ended runs timed.moments, refl);
    })
    (λ not. timed)
changed-timed (CancelPending now) job timed =
    cond_both (is_pending job.state) _ job IsTimed
    (λ waits. record { eligible = timed.eligible; started = timed.started; moments = tt }) (λ not. timed)
changed-timed CancelRequeue job timed = again-timed job job.state refl timed
changed-timed (DropPart node now) job timed = off-timed now node job job.state refl timed
changed-timed (SetHold by) job timed =
    record { eligible = timed.eligible; started = timed.started; moments = timed.moments }
changed-timed (SetLimit limit) job timed =
    record { eligible = timed.eligible; started = timed.started; moments = timed.moments }
changed-timed (SetNice nice) job timed =
    record { eligible = timed.eligible; started = timed.started; moments = timed.moments }

pub timed_stays : StaysTrue IsTimed
timed_stays = record {
  changes = changed-timed;
  lefts = left-timed;
  moves = λ parts partition job timed.
      record { eligible = timed.eligible; started = timed.started; moments = timed.moments };
}

pub new_timed : (s : State) (moment : ℕ) (user : List ℕ) (desc : JobDesc) (basis : Basis)
    → All IsTimed (new_jobs s moment user desc basis desc.array)
new_timed s moment user desc basis =
    new_true IsTimed s moment user desc basis
    (record { eligible = refl; started = refl; moments = refl })
    (λ one. record { eligible = refl; started = refl; moments = refl }) desc.array
