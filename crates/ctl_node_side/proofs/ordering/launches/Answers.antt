use Rattle.std.proofs.Common.{◌≡◌, ◌∙◌, ◌+◌, ◌<◌, ◌≤◌, [], ◌++◌, get_or, length, take, sym, ap, refl, arith, append-nil}
use Rattle.std.specs.Borrow.{Bor}
use Rattle.std.specs.List.{filter_map, cons_option}
use Rattle.std.proofs.lemmas.List.{get_or-map, length-map, take_all, take_more}
use Rattle.ctl_node_side.proofs.Launching.{launches-rise}
use Rattle.std.proofs.lemmas.List.Elements.{filter_map-append}
use Rattle.job_table.specs.declared.record.JobRecord.{JobRecord}
use Rattle.ctl_node_side.specs.Ordering.{launch_of, shown}
use Rattle.ctl_node_side.proofs.ordering.launches.Goals as goal
use Rattle.ctl_node_side.proofs.ordering.launches.Goals.{in-Some+in_ok-push, in_default}

pub loop-job-preserved : goal.loop-job-preserved
loop-job-preserved c =
    let all = c.args.jobs.now in
    let jobs = shown all in
    let i = c.loop-job.job-index in
    let item = c.job-item.result in
    let launch = launch_of c.args.node c.args.report.now in
    let inside : i < length all = omega arith in
    let at : get_or jobs i item.now ≡ item.now =
    get_or-map (λ (job : Bor JobRecord). job.now) all i item item.now inside
    ∙ ap (λ (job : Bor JobRecord). job.now) (sym c.job-item.is) in
    let more : filter_map launch (take (i + 1) jobs) ≡ filter_map launch (take i jobs) ++ cons_option
    (launch item.now) [] =
    rw (take_more jobs i item.now (omega (arith, inside, length-map all (λ (job : Bor JobRecord). job.now))), at, filter_map-append) in
    elim c.match-branch-2.branch [
      | in-Some+in_ok-push w ↦ rw (
        w.launches-is,
        w.in_ok-push.ensures.items,
        c.loop-job.invariant,
        more,
        ← c.in_ok-launch.ensures,
        w.in-Some.is,
      ) refl
      | in_default w ↦ rw (w.launches-is, c.loop-job.invariant, more, ← c.in_ok-launch.ensures, w.in_default.is)
          (sym (append-nil _))
    ]

pub from_vec-requires : goal.from_vec-requires
from_vec-requires c =
    let jobs = shown c.args.jobs.now in
    let past : length jobs ≤ c.loop-job.job-index =
    omega (arith, length-map c.args.jobs.now (λ (job : Bor JobRecord). job.now)) in
    rw (c.loop-job.invariant, take_all c.loop-job.job-index jobs past)
    (launches-rise c.args.node c.args.report.now jobs c.requires)
