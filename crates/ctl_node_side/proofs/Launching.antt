-- The launches come in the order of the jobs, whose numbers rise.
use Rattle.std.proofs.Common.{ℕ, suc, ◌≡◌, ◌<◌, refl, true, ◌&&◌, not, ◌||◌, is_some, List, [], ◌∷◌, All, Option, Some, None, arith}
use Rattle.std.specs.Prelude.{option_map}
use Rattle.std.specs.List.{find, filter_map, cons_option}
use Rattle.std.proofs.lemmas.Bool.{cond_both}
use Rattle.std.proofs.lemmas.Bool.Decides.{nat_tests}
use Rattle.std.proofs.lemmas.List.Elements.{All-nil, All-cons, All-head, All-tail}
use Rattle.std.proofs.lemmas.List.Kept.{AllPairs-cons}
use Rattle.request_data.specs.declared.report.Report.{Report}
use Rattle.reply_data.specs.declared.orders.Launch.{Launch}
use Rattle.reply_data.specs.Starts.{is_before, LaunchesInOrder}
use Rattle.job_table.specs.declared.record.JobRecord.{JobRecord}
use Rattle.job_table.specs.Changes.{is_on}
use Rattle.job_table.specs.JobStates.{is_running}
use Rattle.job_table.specs.Table.{HaveRisingIds}
use Rattle.ctl_node_side.specs.Reporting.{is_listed, done_of}
use Rattle.ctl_node_side.specs.Ordering.{launch_of, launch_part}

-- a launch is of its job
abbrev IsOf : JobRecord → Option Launch → Type 0
IsOf job None = Unit {0}
IsOf job (Some launch) = launch.start.id ≡ job.id

launch-of : (node : ℕ) (report : Report) (job : JobRecord) → IsOf job (launch_of node report job)
launch-of node report job = cond_both (is_running job.state && not
    (is_listed report job || is_some (done_of report job))) _ None (IsOf job)
    (λ launches. elim (find (is_on node) job.parts) as (λ part. IsOf job (option_map (launch_part node job) part))
    [ None ↦ tt | Some part ↦ refl ]) (λ other. tt)

-- all launches are behind a number that all jobs are behind
with-one : (low : ℕ) (job : JobRecord) (launch : Option Launch) (later : List Launch) → low < job.id → IsOf job launch
    → All (λ (one : Launch). low < one.start.id) later → All (λ (one : Launch). low < one.start.id)
    (cons_option launch later)
with-one low job None later above of all = all
with-one low job (Some launch) later above of all = All-cons (λ (one : Launch). low < one.start.id) launch later
    (omega (arith, above, of)) all

above-all : (low node : ℕ) (report : Report) (jobs : List JobRecord) → All (λ (job : JobRecord). low < job.id) jobs
    → All (λ (one : Launch). low < one.start.id) (filter_map (launch_of node report) jobs)
above-all low node report [] above = All-nil (λ (one : Launch). low < one.start.id)
above-all low node report (job ∷ jobs) above =
    let higher : JobRecord → Type 0 = λ one. low < one.id in
    with-one low job (launch_of node report job) (filter_map (launch_of node report) jobs)
    (All-head higher job jobs above) (launch-of node report job)
    (above-all low node report jobs (All-tail higher job jobs above))

in-order-with : (job : JobRecord) (launch : Option Launch) (later : List Launch) → IsOf job launch
    → All (λ (one : Launch). job.id < one.start.id) later → LaunchesInOrder later
    → LaunchesInOrder (cons_option launch later)
in-order-with job None later of above order = order
in-order-with job (Some launch) later of above order =
    AllPairs-cons (λ (one other : Launch). is_before one.start other.start ≡ true) launch later
    (λ k d below. let further = above k d below in grind (arith, nat_tests)) order

pub launches-rise : (node : ℕ) (report : Report) (jobs : List JobRecord) → HaveRisingIds jobs
    → LaunchesInOrder (filter_map (launch_of node report) jobs)
launches-rise node report [] rising = λ i j d before within. absurd (omega (arith, within))
launches-rise node report (job ∷ jobs) rising =
    in-order-with job (launch_of node report job) (filter_map (launch_of node report) jobs) (launch-of node report job)
    (above-all job.id node report jobs (λ k d below. rising 0 (suc k) d (omega arith) (omega (arith, below))))
    (launches-rise node report jobs (λ i j d before within. rising (suc i) (suc j) d (omega (arith, before))
    (omega (arith, within))))
