-- What users do to jobs leaves what is held as it is, so the index goes on showing it.
use Rattle.std.proofs.Common.{◌≡◌, ℕ, Bool, false, not, List, [], ◌∷◌, map, filter, refl, sym, ap, ◌∙◌}
use Rattle.job_table.specs.declared.record.JobRecord.{JobRecord}
use Rattle.ctl_state.specs.declared.cluster.Cluster.{Cluster}
use Rattle.ctl_state.specs.Holding.{parts_of}
use Rattle.ctl_state.specs.Index.{IsIndexed}
use Rattle.ctl_state.specs.Laws.{PartsStay}
use Rattle.ctl_state.specs.State.{State, state_of}
use Rattle.ctl_jobs.specs.declared.action.Action.{Action}
use Rattle.ctl_jobs.specs.Changing.{done_if}
use Rattle.ctl_jobs.proofs.Changed.{parts_kept}

all-stay : (jobs : List JobRecord) → filter (λ (job : JobRecord). not false) jobs ≡ jobs
all-stay [] = refl
all-stay (job ∷ jobs) = ap (λ rest. job ∷ rest) (all-stay jobs)

-- the parts of all jobs are as they were
parts-kept : PartsStay → (s : State) (now : ℕ) (user : List ℕ) (action : Action)
    (named : JobRecord → Bool)
    → parts_of (map (done_if s now user action named) s.jobs) ≡ parts_of s.jobs
parts-kept stay s now user action named =
    let change = done_if s now user action named in
    ap parts_of (sym (all-stay (map change s.jobs)))
    ∙ stay s.jobs change (λ job. false) (λ k d below. parts_kept s now user action _ _) (λ k d below never. absurd (cc))

pub indexed_kept : PartsStay → (before after : Cluster) (now : ℕ) (user : List ℕ) (action : Action)
    (named : JobRecord → Bool)
    → state_of after ≡ record (state_of before) {
      jobs = map (done_if (state_of before) now user action named) before.jobs.records;
      usage = after.jobs.usage;
    }
    → after.nodes.held ≡ before.nodes.held → IsIndexed before → IsIndexed after
indexed_kept stay before after now user action named is held indexed =
    let parts = ap (λ (s : State). parts_of s.jobs) is ∙ parts-kept stay (state_of before) now user action named in
    rw (held, parts) indexed
