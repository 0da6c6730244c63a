use Rattle.std.proofs.Common.{ap, sym, ◌∙◌}
use Rattle.std.specs.Prelude.{option_map}
use Rattle.std.proofs.lemmas.List.{take_all}
use Rattle.job_table.specs.declared.record.JobRecord.{JobRecord}
use Rattle.ctl_state.specs.State.{state_of}
use Rattle.ctl_waiting.proofs.Orders.{highest-none, highest-kept, highest-below, highest-raised, highest-is, not_pending}
use Rattle.ctl_waiting.proofs.ranking.highest_beside.Goals as goal
use Rattle.ctl_waiting.proofs.ranking.highest_beside.Goals.{then-is_pending+then-is_above_first+then-is_candidate, then-is_pending+else-is_above_first, else-is_above_first-via-then-is_above_first+else-is_candidate, else-is_above_first-via-else-is_above_first, else-is_pending}

pub loop-job-init : goal.loop-job-init
loop-job-init c = (sym (highest-none (state_of c.args.cluster.now) c.args.factors.now.moment), tt)

pub loop-job-preserved : goal.loop-job-preserved
loop-job-preserved c =
    let s = state_of c.args.cluster.now in
    let now = c.args.factors.now.moment in
    let i = c.loop-job.job-index in
    let job = c.job-item.result in
    let found = c.loop-job.highest in
    let held = c.loop-job.invariant in
    let same = c.records-job-items.ensures.value in
    let within = rw same at c.loop-job-test.true in
    let is = rw same at c.job-item.is in
    elim c.if-is_pending.branch [
      | then-is_pending+then-is_above_first+then-is_candidate w ↦ rw w.highest-is (
        highest-raised s now i job found w.key_of-key.result within is held.0 held.1 w.key_of-key.ensures
            (sym w.is_candidate.ensures ∙ w.if-is_candidate.true) (sym w.is_above_first.ensures ∙ w.if-is_above_first.true),
        w.key_of-key.ensures,
      )
      | then-is_pending+else-is_above_first w ↦ rw w.highest-is (
        elim w.else-is_above_first.branch [
          | else-is_above_first-via-then-is_above_first+else-is_candidate x ↦
              highest-kept s now i job found within is held.0 held.1 (sym x.is_candidate.ensures ∙ x.if-is_candidate.false)
          | else-is_above_first-via-else-is_above_first x ↦
              highest-below s now i job found w.key_of-key.result within is held.0 held.1 w.key_of-key.ensures
              (sym w.is_above_first.ensures ∙ x.if-is_above_first.false)
        ],
        held.1,
      )
      | else-is_pending w ↦ rw w.highest-is (
        highest-kept s now i job found within is held.0 held.1
            (not_pending s now job (sym c.is_pending.ensures ∙ w.if-is_pending.false)),
        held.1,
      )
    ]

pub returns-in_err-highest : goal.returns-in_err-highest
returns-in_err-highest c =
    let s = state_of c.args.cluster.now in
    let all = rw (take_all c.loop-job.job-index s.jobs (rw c.records-job-items.ensures.value at c.loop-job-test.false))
    at c.loop-job.invariant.0 in
    c.from_residual.ensures ∙ ap (option_map (λ (job : JobRecord). job.id))
    (rw c.in_err-highest.was at (all ∙ highest-is s c.args.factors.now.moment))

pub returns : goal.returns
returns c =
    let s = state_of c.args.cluster.now in
    let all = rw (take_all c.loop-job.job-index s.jobs (rw c.records-job-items.ensures.value at c.loop-job-test.false))
    at c.loop-job.invariant.0 in
    ap (option_map (λ (job : JobRecord). job.id))
    (rw c.in_ok-highest.was at (all ∙ highest-is s c.args.factors.now.moment))

pub is_candidate-requires-clause-behind : goal.is_candidate-requires-clause-behind
is_candidate-requires-clause-behind c =
    let same = c.records-job-items.ensures.value in
    rw (rw same at c.job-item.is)
    (c.requires.behind c.loop-job.job-index c.job-item.result (rw same at c.loop-job-test.true))
