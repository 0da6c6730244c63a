use Rattle.std.proofs.Common.{◌≡◌, ◌∙◌, ◌+◌, ◌<◌, ◌≤◌, ◌++◌, ◌∷◌, [], get_or, length, map, take, sym, ap, arith}
use Rattle.std.specs.Borrow.{Bor}
use Rattle.std.specs.List.{filter}
use Rattle.std.proofs.lemmas.List.{get_or-map, length-map, map-append, take_all, take_more}
use Rattle.std.proofs.lemmas.List.Elements.{filter-append}
use Rattle.job_table.specs.declared.record.JobRecord.{JobRecord}
use Rattle.ctl_node_side.specs.Ordering.{shown, start_of, stays}
use Rattle.ctl_node_side.proofs.ordering.kept_starts.Goals as goal

pub loop-job-preserved : goal.loop-job-preserved
loop-job-preserved c =
    let all = c.args.jobs.now in
    let jobs = shown all in
    let i = c.loop-job.job-index in
    let item = c.job-item.result in
    let test = stays c.args.node c.args.report.now in
    let inside : i < length all = omega arith in
    let long : i < length jobs = omega (arith, inside, length-map all (λ (job : Bor JobRecord). job.now)) in
    let at : get_or jobs i item.now ≡ item.now =
    get_or-map (λ (job : Bor JobRecord). job.now) all i item item.now inside
    ∙ ap (λ (job : Bor JobRecord). job.now) (sym c.job-item.is) in
    let more : map start_of (filter test (take (i + 1) jobs))
    ≡ map start_of (filter test (take i jobs)) ++ map start_of (filter test (item.now ∷ [])) =
    ap (λ front. map start_of (filter test front))
    (take_more jobs i item.now long ∙ ap (λ job. take i jobs ++ job ∷ []) at)
    ∙ ap (map start_of) (filter-append test (take i jobs) (item.now ∷ []))
    ∙ map-append start_of (filter test (take i jobs)) (filter test (item.now ∷ [])) in
    c.in_ok-add_start.ensures
    ∙ ap (λ front. front ++ map start_of (filter test (item.now ∷ []))) c.loop-job.invariant
    ∙ sym more

pub returns : goal.returns
returns c =
    let jobs = shown c.args.jobs.now in
    let past : length jobs ≤ c.loop-job.job-index =
    omega (arith, length-map c.args.jobs.now (λ (job : Bor JobRecord). job.now)) in
    c.loop-job.invariant
    ∙ ap (λ all. map start_of (filter (stays c.args.node c.args.report.now) all)) (take_all c.loop-job.job-index jobs past)
