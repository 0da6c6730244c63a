-- A node of which no job holds anything.
use Rattle.std.proofs.Common.{ℕ, ◌≡◌, false, not, nat_eq, List, [], ◌∷◌, map, All, Option, None, refl, ap, arith}
use Rattle.std.specs.List.{filter_map, find, list_any}
use Rattle.std.proofs.lemmas.Bool.{cond_both}
use Rattle.std.proofs.lemmas.Bool.Decides.{nat_tests}
use Rattle.std.proofs.lemmas.List.Elements.{All-head, All-tail, filter_agree}
use Rattle.reply_data.specs.declared.orders.Launch.{Launch}
use Rattle.request_data.specs.declared.report.Report.{Report}
use Rattle.request_data.specs.declared.report.Start.{Start}
use Rattle.job_table.specs.declared.record.JobRecord.{JobRecord}
use Rattle.job_table.specs.declared.record.Part.{Part}
use Rattle.job_table.specs.Changes.{is_on}
use Rattle.ctl_state.specs.Holding.{parts_of}
use Rattle.ctl_node_side.specs.Ordering.{killed, launch_of, orders_of, runs_start}
use Rattle.ctl_node_side.specs.Reporting.{is_at, reported}
use Rattle.list_lemmas.proofs.Elements.{all-left, all-right}

-- the part is elsewhere
abbrev IsElsewhere : ℕ → Part → Type 0
IsElsewhere node part = nat_eq node part.node ≡ false

off : (node : ℕ) (part : Part) → IsElsewhere node part → is_on node part ≡ false
off node part is = grind (arith, nat_tests)

-- so nothing of a job is there
none-on : (node : ℕ) (parts : List Part) → All (IsElsewhere node) parts → list_any (is_on node) parts ≡ false
none-on node [] all = refl
none-on node (part ∷ parts) all =
    rw (off node part (All-head (IsElsewhere node) part parts all))
    (none-on node parts (All-tail (IsElsewhere node) part parts all))

none-found : (node : ℕ) (parts : List Part) → All (IsElsewhere node) parts → find (is_on node) parts ≡ None
none-found node [] all = refl
none-found node (part ∷ parts) all =
    rw (off node part (All-head (IsElsewhere node) part parts all))
    (none-found node parts (All-tail (IsElsewhere node) part parts all))

-- none of the jobs runs anything there
stays-off : (now node : ℕ) (report : Report) (job : JobRecord) → is_at node job ≡ false
    → is_at node (reported now node report job) ≡ false
stays-off now node report job none = rw (none, none) refl

none-runs : (now node : ℕ) (report : Report) (start : Start) (jobs : List JobRecord)
    → All (IsElsewhere node) (parts_of jobs) → runs_start node (map (reported now node report) jobs) start ≡ false
none-runs now node report start [] all = refl
none-runs now node report start (job ∷ jobs) all =
    let here = stays-off now node report job
    (none-on node job.parts (all-left (IsElsewhere node) job.parts (parts_of jobs) all)) in
    let rest = none-runs now node report start jobs (all-right (IsElsewhere node) job.parts (parts_of jobs) all) in
    grind (arith, nat_tests)

-- and none is launched there
none-launched : (node : ℕ) (report : Report) (jobs : List JobRecord) → All (IsElsewhere node) (parts_of jobs)
    → filter_map (launch_of node report) jobs ≡ []
none-launched node report [] all = refl
none-launched node report (job ∷ jobs) all =
    let found = none-found node job.parts (all-left (IsElsewhere node) job.parts (parts_of jobs) all) in
    let rest = none-launched node report jobs (all-right (IsElsewhere node) job.parts (parts_of jobs) all) in
    let none : launch_of node report job ≡ None = rw found (cond_both _ None None (λ (o : Option Launch). o ≡ None)
    (λ h. refl) (λ h. refl)) in
    rw none rest

pub ordered_alike : (jobs : List JobRecord) (now node : ℕ) (report : Report)
    → All (λ (part : Part). nat_eq node part.node ≡ false) (parts_of jobs)
    → orders_of jobs now node report ≡ orders_of [] now node report
unfolding orders_of
ordered_alike jobs now node report all =
    let kills : killed now node report jobs report.running ≡ killed now node report [] report.running =
    filter_agree _ _ (λ start. ap not (none-runs now node report start jobs all)) report.running in
    rw (kills, none-launched node report jobs all) refl
