use Rattle.std.proofs.Common.{◌∙◌, ap, subst, sym}
use Rattle.job_table.specs.declared.record.JobRecord.{JobRecord}
use Rattle.job_table.specs.Targets.{AreTogether}
use Rattle.ctl_state.specs.State.{State}
use Rattle.sacct_book.specs.Naming.{run_by_named}
use Rattle.sacct_book.specs.Running.{counted}
use Rattle.std.proofs.Common.{List, get_or}
use Rattle.sacct_book.proofs.following.count_at.Goals as goal

pub count_named-requires : goal.count_named-requires
count_named-requires c =
    let jobs = ap (λ (one : State). one.jobs) c.cluster.ensures.value in
    subst AreTogether (sym jobs) c.cluster.ensures.sound.together

pub returns-clause-each : goal.returns-clause-each
returns-clause-each c =
    let jobs = ap (λ (one : State). one.jobs) c.cluster.ensures.value in
    λ at inside.
    c.count_named.ensures.each at inside
    ∙ ap (λ (some : List JobRecord). counted c.args.way (get_or c.args.held.now.items at 0)
    (run_by_named c.args.named.now some at)) jobs
