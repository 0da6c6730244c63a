-- A report that is accepted keeps its daemon in step.
use Rattle.std.proofs.Common.{ℕ, ◌≡◌, ◌≤◌, ◌<◌, ◌+◌, ◌∙◌, Bool, true, false, ◌||◌, List, [], ◌∷◌, ◌++◌, append-nil, map, length, filter_map, get_or, All, Option, Some, None, option_map, option_and_then, unwrap_or, refl, sym, ap, subst, arith, inl, inr, ◌⊎◌, nat_eq, nat_lt}
use Rattle.std.proofs.lemmas.Bool.{both_ways, cases_Bool, cases_lt, cond_both, cond-false, le-ltb, ne_eqb, or_cases}
use Rattle.std.proofs.lemmas.Bool.Decides.{nat_tests}
use Rattle.std.proofs.lemmas.List.Elements.{All-append, All-cons, All-head, All-map, All-nil, All-tail, All-weaker}
use Rattle.reply_data.specs.declared.orders.Launch.{Launch}
use Rattle.reply_data.specs.declared.orders.Orders.{Orders}
use Rattle.request_data.specs.declared.report.Done.{Done}
use Rattle.request_data.specs.declared.report.Heard.{Heard}
use Rattle.request_data.specs.declared.report.Report.{Report}
use Rattle.request_data.specs.declared.report.Start.{Start}
use Rattle.node_state.specs.declared.record.NodeChange.TheVariants.{Heard as HeardFrom}
use Rattle.node_state.specs.Laws.{PlacesAreNamed, PlacesStay}
use Rattle.node_state.specs.Nodes.{place_named}
use Rattle.node_state.specs.Renewing.{dropped_named}
use Rattle.job_table.specs.declared.record.JobRecord.{JobRecord}
use Rattle.job_table.specs.declared.record.Part.{Part}
use Rattle.ctl_state.specs.Holding.{parts_of}
use Rattle.ctl_state.specs.Planning.{is_at}
use Rattle.ctl_state.specs.Soundness.{IsSound, is_up_at}
use Rattle.ctl_state.specs.State.{State, last_moment}
use Rattle.ctl_state.specs.Verdicts.{stamped}
use Rattle.ctl_nodes.specs.Failing.{after_loss, lost_after}
use Rattle.ctl_node_side.specs.Answering.{is_restarted}
use Rattle.ctl_node_side.specs.Ordering.{launch_of, orders_of}
use Rattle.ctl_node_side.specs.Reporting.{heard_by, heard_of, lists_nothing, report_after, reported}
use Rattle.ctl_node_side.specs.Restarting.{met}
use Rattle.node_daemon.specs.Daemon.{Daemon, are_due, is_among, is_same}
use Rattle.node_daemon.specs.declared.running.Running.{Running}
use Rattle.daemon_world.specs.Claims.{Claim, Holds, IsHeldAt, claim_launch, claim_run, claims_of, claims_ordered, times_claiming, times_over}
use Rattle.daemon_world.specs.Together.{Fit, HeardBefore, HeardNoLife, HeardSince, HeardUpTo, InStep, IsAfter, IsUpTo, Pair, RunsNothing, Tells, is_emptied, kept_of, pair_heard, tells_over}
use Rattle.daemon_world.proofs.Apart.{held_apart}
use Rattle.daemon_world.proofs.Hearing.{came_up, emptied_by, heard_at, stays_up}
use Rattle.daemon_world.proofs.Launching.{launches_held, launches_new, launches_once, listed_stays}
use Rattle.daemon_world.proofs.LeftAlone.{kept_there}
use Rattle.daemon_world.proofs.Lists.{any_map, count_append, count_no}
use Rattle.daemon_world.proofs.Numbers.{after_up, due, since_before, up_to}

-- what the crates below promise
pub record Lower : Type 0 where
  pub places : PlacesStay
  pub named : PlacesAreNamed
  pub lost : (s : State) (now : ℕ) (lost : ℕ → Bool) → IsSound s → s.moment ≤ now → now ≤ last_moment
      → IsSound (stamped now (lost_after s now lost))
  pub free : (s : State) (now : ℕ) (lost : ℕ → Bool) → IsSound s
      → All (λ (part : Part). lost part.node ≡ false) (parts_of (map (after_loss now lost) s.jobs))
  pub alone : (jobs : List JobRecord) (now node : ℕ) (report : Report)
      → All (λ (part : Part). nat_eq node part.node ≡ false) (parts_of jobs)
      → orders_of jobs now node report ≡ orders_of [] now node report
  pub met : (s : State) (now node : ℕ) (report : Report) → IsSound s → s.moment ≤ now → now ≤ last_moment
      → IsSound (stamped now (report_after (met s now node report) now node report))

-- a report comes that is accepted, of a daemon in step
pub record Comes (s : State) (reports : List Report) (orders : List Orders) (daemon : Daemon) (report : Report)
    (place now : ℕ) : Type 0 where
  pub step : InStep s reports orders report.node daemon
  pub sound : IsSound s
  pub raised : s.moment ≤ now
  pub in_time : now ≤ last_moment
  pub there : place_named report.node s.nodes ≡ Some place
  pub news : HeardBefore (kept_of s report.node) report.boot report.number
  pub sent : IsUpTo report.boot report.number daemon.boot daemon.number
  pub tells : report.boot ≡ daemon.boot → Tells report daemon
  pub parted : All (λ start. tells_over report start ≡ false) report.running

-- ---- what runs

-- nothing runs, or the daemon isn't restarted since what was heard, and the report is of its life
abbrev Quiet : State → Daemon → Report → ℕ → ℕ → Type 0
Quiet s daemon report place now =
    (daemon.running ≡ []) ⊎ ((met s now place report ≡ s) × (report.boot ≡ daemon.boot))

-- what is kept of the node that reports is of its last report
kept-last : (s : State) (report : Report) (place : ℕ) (last : Option Heard)
    → place_named report.node s.nodes ≡ Some place → heard_of s.nodes place ≡ last
    → kept_of s report.node ≡ option_map pair_heard last
kept-last s report place last there is = kept_there s report.node place there ∙ ap (option_map pair_heard) is

quiet-by : (s : State) (reports : List Report) (orders : List Orders) (daemon : Daemon) (report : Report)
    (place now : ℕ) → Comes s reports orders daemon report place now → (last : Option Heard)
    → heard_of s.nodes place ≡ last → HeardBefore (option_map pair_heard last) report.boot report.number
    → Quiet s daemon report place now
quiet-by s reports orders daemon report place now comes None is news =
    inl (comes.step.fresh (subst (λ kept. HeardNoLife kept daemon.boot)
    (sym (kept-last s report place None comes.there is)) tt))
quiet-by s reports orders daemon report place now comes (Some heard) is news =
    elim (cases_lt heard.boot daemon.boot) [
      | inl life ↦
          inl (comes.step.fresh (subst (λ kept. HeardNoLife kept daemon.boot)
          (sym (kept-last s report place (Some heard) comes.there is)) life))
      | inr same ↦
          let sent = comes.sent in
          let not_restarted : is_restarted s report ≡ false =
          ap (λ kept. unwrap_or (option_map (λ (heard : Heard). nat_lt heard.boot report.boot) kept) false)
          (ap (option_and_then (heard_of s.nodes)) comes.there ∙ is)
          ∙ le-ltb heard.boot report.boot (omega (arith, same, sent.boot, news.boot)) in
          inr (
            cond-false (is_restarted s report) (stamped now (lost_after s now (nat_eq place))) s not_restarted,
            omega (arith, same, sent.boot, news.boot),
          )
    ]

quiet : (s : State) (reports : List Report) (orders : List Orders) (daemon : Daemon) (report : Report)
    (place now : ℕ) → Comes s reports orders daemon report place now → Quiet s daemon report place now
quiet s reports orders daemon report place now comes =
    quiet-by s reports orders daemon report place now comes (heard_of s.nodes place) refl
    (subst (λ kept. HeardBefore kept report.boot report.number)
    (kept_there s report.node place comes.there) comes.news)

nothing-listed : (listed : List Start) (running : List Running) → lists_nothing listed ≡ true
    → All (λ (one : Running). is_among listed one.start ≡ true) running → running ≡ []
nothing-listed listed [] none all = refl
nothing-listed [] (one ∷ later) none all =
    absurd (both_ways false refl (All-head (λ (one : Running). is_among [] one.start ≡ true) one later all))
nothing-listed (start ∷ starts) (one ∷ later) none all = absurd (both_ways false refl none)

-- where the report lists nothing, nothing runs
none-runs : (s : State) (reports : List Report) (orders : List Orders) (daemon : Daemon) (report : Report)
    (place now : ℕ) → Comes s reports orders daemon report place now → lists_nothing report.running ≡ true
    → daemon.running ≡ []
none-runs s reports orders daemon report place now comes none =
    elim (quiet s reports orders daemon report place now comes) [
      | inl nothing ↦ nothing
      | inr runs ↦ nothing-listed report.running daemon.running none (comes.tells runs.1).running
    ]

-- ---- the nodes

pub dropped_met : (s : State) (now place : ℕ) (report : Report) → (met s now place report).dropped ≡ s.dropped
dropped_met s now place report =
    cond_both (is_restarted s report) (stamped now (lost_after s now (nat_eq place))) s
    (λ (t : State). t.dropped ≡ s.dropped) (λ some. refl) (λ none. refl)

pub nodes_met : (s : State) (now place : ℕ) (report : Report) → (met s now place report).nodes ≡ s.nodes
nodes_met s now place report =
    cond_both (is_restarted s report) (stamped now (lost_after s now (nat_eq place))) s
    (λ (t : State). t.nodes ≡ s.nodes) (λ some. refl) (λ none. refl)

abbrev pub after : State → ℕ → ℕ → Report → State
after s now place report = report_after (met s now place report) now place report

pub same_place : Lower → (s : State) (now place : ℕ) (report : Report) (name : List ℕ)
    → place_named name (after s now place report).nodes ≡ place_named name s.nodes
same_place lower s now place report name =
    lower.places name place (HeardFrom (heard_by now report) (lists_nothing report.running))
    (met s now place report).nodes
    ∙ ap (place_named name) (nodes_met s now place report)

pub kept_after : Lower → (s : State) (now place : ℕ) (report : Report) → place_named report.node s.nodes ≡ Some place
    → kept_of (after s now place report) report.node ≡ Some (pair_heard (heard_by now report))
kept_after lower s now place report there =
    let nodes = (met s now place report).nodes in
    let within = (lower.named report.node place s.nodes there).0 in
    let empty = lists_nothing report.running in
    kept_there (after s now place report) report.node place (same_place lower s now place report report.node ∙ there)
    ∙ ap (option_map pair_heard)
    (heard_at (heard_by now report) empty nodes place (omega (arith, within, ap length (nodes_met s now place report))))

-- ---- what fits

same-start : (one start : Start) → is_same one start ≡ true → one ≡ start
same-start one start is = grind (arith, nat_tests)

-- what is listed isn't told to be over
listed-untold : (report : Report) (start : Start) (running : List Start)
    → All (λ (one : Start). tells_over report one ≡ false) running → is_among running start ≡ true
    → tells_over report start ≡ false
listed-untold report start [] all listed = absurd (both_ways false refl listed)
listed-untold report start (one ∷ later) all listed =
    let Untold = λ (one : Start). tells_over report one ≡ false in
    elim (or_cases (is_same one start) (is_among later start) listed) [
      | inl same ↦ subst Untold (same-start one start same) (All-head Untold one later all)
      | inr other ↦ listed-untold report start later (All-tail Untold one later all) other
    ]

-- a start that is listed stays held
held-still : (now place : ℕ) (report : Report) (claim : Claim) (jobs : List JobRecord)
    → is_among report.running claim.start ≡ true → tells_over report claim.start ≡ false
    → IsHeldAt jobs place claim → IsHeldAt (map (reported now place report) jobs) place claim
held-still now place report claim jobs listed untold held =
    any_map (λ (job : JobRecord). Unit {0}) (Holds place claim) (Holds place claim) (reported now place report) jobs
    (λ job any holds. subst (Holds place claim)
    (sym (listed_stays now place report job claim.start holds.id holds.number listed untold)) holds)
    (λ k d below. tt) held

held-on : (s : State) (reports : List Report) (orders : List Orders) (daemon : Daemon) (report : Report)
    (place now : ℕ) → Comes s reports orders daemon report place now → met s now place report ≡ s
    → report.boot ≡ daemon.boot → is_up_at s.nodes place ≡ true
    → All (IsHeldAt (after s now place report).jobs place) (claims_of daemon)
held-on s reports orders daemon report place now comes same life up =
    let listed = All-map (λ (claim : Claim). is_among report.running claim.start ≡ true) claim_run daemon.running
    (comes.tells life).running in
    subst (λ (t : State). All (IsHeldAt (map (reported now place report) t.jobs) place) (claims_of daemon)) (sym same)
    (λ k d below. let claim = get_or (claims_of daemon) k d in
    held-still now place report claim s.jobs (listed k d below)
    (listed-untold report claim.start report.running comes.parted (listed k d below))
    (comes.step.fit.held place comes.there up k d below))

held-after : Lower → (s : State) (reports : List Report) (orders : List Orders) (daemon : Daemon) (report : Report)
    (place now : ℕ) → Comes s reports orders daemon report place now
    → is_up_at (after s now place report).nodes place ≡ true
    → All (IsHeldAt (after s now place report).jobs place) (claims_of daemon)
held-after lower s reports orders daemon report place now comes up =
    let Held = IsHeldAt (after s now place report).jobs place in
    let nothing = λ (none : daemon.running ≡ []). subst (λ (running : List Running). All Held (map claim_run running))
    (sym none) (All-nil Held) in
    elim (quiet s reports orders daemon report place now comes) [
      | inl none ↦ nothing none
      | inr runs ↦ elim (came_up (heard_by now report) (lists_nothing report.running)
          (met s now place report).nodes place up) [
            | inl was ↦
                held-on s reports orders daemon report place now comes runs.0 runs.1
                (ap (λ nodes. is_up_at nodes place) (sym (nodes_met s now place report)) ∙ was)
            | inr empty ↦ nothing (none-runs s reports orders daemon report place now comes empty)
          ]
    ]

the-place : Lower → (s : State) (reports : List Report) (orders : List Orders) (daemon : Daemon) (report : Report)
    (place now other : ℕ) → Comes s reports orders daemon report place now
    → place_named report.node (after s now place report).nodes ≡ Some other → place ≡ other
the-place lower s reports orders daemon report place now other comes is =
    let both : Some place ≡ Some other = sym (same_place lower s now place report report.node ∙ comes.there) ∙ is in cc

fit-after : Lower → (s : State) (reports : List Report) (orders : List Orders) (daemon : Daemon) (report : Report)
    (place now : ℕ) → Comes s reports orders daemon report place now
    → Fit (after s now place report) report.node (claims_of daemon) daemon.over
fit-after lower s reports orders daemon report place now comes =
    let s' = after s now place report in
    record {
      apart = comes.step.fit.apart;
      held = λ other is. subst (λ (at : ℕ). is_up_at s'.nodes at ≡ true → All (IsHeldAt s'.jobs at) (claims_of daemon))
          (the-place lower s reports orders daemon report place now other comes is)
          (held-after lower s reports orders daemon report place now comes);
      once = comes.step.fit.once;
    }

-- ---- the orders

abbrev answer : State → ℕ → ℕ → Report → Orders
answer s now place report = orders_of (met s now place report).jobs now place report

pub record IsAnswer (s : State) (now place : ℕ) (report : Report) (orders : Orders) : Type 0 where
  pub node : orders.node ≡ report.node
  pub boot : orders.boot ≡ report.boot
  pub number : orders.number ≡ report.number
  pub launches : orders.launches ≡ filter_map (launch_of place report) (met s now place report).jobs

pub answers : (s : State) (now place : ℕ) (report : Report) → IsAnswer s now place report (answer s now place report)
unfolding orders_of
answers s now place report = record { node = refl; boot = refl; number = refl; launches = refl }

-- none is launched on a node that was down
free-parts : Lower → (s : State) (now place : ℕ) (report : Report) → IsSound s → is_up_at s.nodes place ≡ false
    → All (λ (part : Part). nat_eq place part.node ≡ false) (parts_of (met s now place report).jobs)
free-parts lower s now place report sound down =
    cond_both (is_restarted s report) (stamped now (lost_after s now (nat_eq place))) s
    (λ (t : State). All (λ (part : Part). nat_eq place part.node ≡ false) (parts_of t.jobs))
    (λ some. lower.free s now (nat_eq place) sound)
    (λ none. All-weaker (λ (part : Part). is_up_at s.nodes part.node ≡ true)
    (λ (part : Part). nat_eq place part.node ≡ false)
    (λ part up. ne_eqb place part.node
    (λ is. both_ways (is_up_at s.nodes place) down (ap (is_up_at s.nodes) is ∙ up))) (parts_of s.jobs) sound.up)

nothing-launched : (now place : ℕ) (report : Report) → (orders_of [] now place report).launches ≡ []
unfolding orders_of
nothing-launched now place report = refl

none-launched : Lower → (s : State) (now place : ℕ) (report : Report) → IsSound s → is_up_at s.nodes place ≡ false
    → (answer s now place report).launches ≡ []
none-launched lower s now place report sound down =
    ap (λ (orders : Orders). orders.launches)
    (lower.alone (met s now place report).jobs now place report (free-parts lower s now place report sound down))
    ∙ nothing-launched now place report

-- orders that were sent before are late
late : (s : State) (reports : List Report) (orders : List Orders) (daemon : Daemon) (report : Report)
    (place now : ℕ) → Comes s reports orders daemon report place now
    → All (λ (one : Orders). are_due one daemon ≡ true → ⊥) orders
late s reports orders daemon report place now comes k d below is =
    let one = get_or orders k d in
    let is_due = due one daemon is in
    since_before (kept_of s report.node) one.boot one.number report.boot report.number
    (comes.step.answered k d below (sym is_due.node ∙ comes.step.name)) comes.news
    (up_to report.boot report.number daemon.boot daemon.number one.boot one.number comes.sent
    (record { boot = omega (arith, is_due.boot); number = λ boots. omega (arith, is_due.number) }))

-- what is launched isn't known
new-claims : (report : Report) (start : Start) (launches : List Launch)
    → All (λ (launch : Launch). (is_among report.running launch.start ≡ false)
    × (tells_over report launch.start ≡ false)) launches
    → 0 < times_claiming (map claim_launch launches) start
    → (is_among report.running start ≡ false) × (tells_over report start ≡ false)
new-claims report start [] all some = absurd (omega (arith, some))
new-claims report start (launch ∷ later) all some =
    let New = λ (one : Start). (is_among report.running one ≡ false) × (tells_over report one ≡ false) in
    let NewLaunch = λ (launch : Launch). (is_among report.running launch.start ≡ false)
    × (tells_over report launch.start ≡ false) in
    elim (cases_Bool (is_same launch.start start)) [
      | inl same ↦ subst New (same-start launch.start start same) (All-head NewLaunch launch later all)
      | inr differ ↦
          let less = count_no (λ (claim : Claim). is_same claim.start start) (claim_launch launch)
          (map claim_launch later) differ in
          new-claims report start later (All-tail NewLaunch launch later all) (omega (arith, less, some))
    ]

-- so it doesn't run, and isn't over
absent-running : (report : Report) (start : Start) (running : List Running)
    → All (λ (one : Running). is_among report.running one.start ≡ true) running
    → is_among report.running start ≡ false → times_claiming (map claim_run running) start ≤ 0
absent-running report start [] all unlisted = omega arith
absent-running report start (one ∷ later) all unlisted =
    let Listed = λ (one : Running). is_among report.running one.start ≡ true in
    let rest = absent-running report start later (All-tail Listed one later all) unlisted in
    elim (cases_Bool (is_same one.start start)) [
      | inl same ↦
          absurd (both_ways (is_among report.running start) unlisted
          (subst (λ (x : Start). is_among report.running x ≡ true) (same-start one.start start same)
          (All-head Listed one later all)))
      | inr differ ↦
          omega (
            arith,
            count_no (λ (claim : Claim). is_same claim.start start) (claim_run one) (map claim_run later) differ,
            rest,
          )
    ]

absent-over : (report : Report) (start : Start) (over : List Done)
    → All (λ (done : Done). (is_among report.running done.start || tells_over report done.start) ≡ true) over
    → is_among report.running start ≡ false → tells_over report start ≡ false → times_over over start ≤ 0
absent-over report start [] all unlisted untold = omega arith
absent-over report start (done ∷ later) all unlisted untold =
    let Known = λ (done : Done). (is_among report.running done.start || tells_over report done.start) ≡ true in
    let rest = absent-over report start later (All-tail Known done later all) unlisted untold in
    elim (cases_Bool (is_same done.start start)) [
      | inl same ↦
          let known = subst (λ (x : Start). (is_among report.running x || tells_over report x) ≡ true)
          (same-start done.start start same) (All-head Known done later all) in
          elim (or_cases (is_among report.running start) (tells_over report start) known) [
            | inl listed ↦ absurd (both_ways (is_among report.running start) unlisted listed)
            | inr told ↦ absurd (both_ways (tells_over report start) untold told)
          ]
      | inr differ ↦ omega (arith, count_no (λ (done : Done). is_same done.start start) done later differ, rest)
    ]

sound-met : Lower → (s : State) (now place : ℕ) (report : Report) → IsSound s → s.moment ≤ now → now ≤ last_moment
    → IsSound (met s now place report)
sound-met lower s now place report sound raised in_time =
    cond_both (is_restarted s report) (stamped now (lost_after s now (nat_eq place))) s IsSound
    (λ some. lower.lost s now (nat_eq place) sound raised in_time) (λ none. sound)

abbrev launched : State → ℕ → ℕ → Report → List Claim
launched s now place report = map claim_launch (filter_map (launch_of place report) (met s now place report).jobs)

once-after : Lower → (s : State) (reports : List Report) (orders : List Orders) (daemon : Daemon) (report : Report)
    (place now : ℕ) → Comes s reports orders daemon report place now → report.boot ≡ daemon.boot → (start : Start)
    → times_claiming (claims_of daemon ++ launched s now place report) start + times_over daemon.over start ≤ 1
once-after lower s reports orders daemon report place now comes life start =
    let jobs = (met s now place report).jobs in
    let more = launched s now place report in
    let both = count_append (λ (claim : Claim). is_same claim.start start) (claims_of daemon) more in
    let tells = comes.tells life in
    elim (cases_lt 0 (times_claiming more start)) [
      | inl some ↦
          let new = new-claims report start (filter_map (launch_of place report) jobs)
          (launches_new now place report jobs) some in
          omega (
            arith,
            both,
            launches_once start now place report jobs
                (sound-met lower s now place report comes.sound comes.raised comes.in_time).rising,
            absent-running report start daemon.running tells.running new.0,
            absent-over report start daemon.over tells.over new.0 new.1,
          )
      | inr none ↦ omega (arith, both, none, comes.step.fit.once start)
    ]

all-held : Lower → (s : State) (reports : List Report) (orders : List Orders) (daemon : Daemon) (report : Report)
    (place now : ℕ) → Comes s reports orders daemon report place now
    → is_up_at (after s now place report).nodes place ≡ true
    → All (IsHeldAt (after s now place report).jobs place) (claims_of daemon ++ launched s now place report)
all-held lower s reports orders daemon report place now comes up =
    let jobs = (met s now place report).jobs in
    All-append (IsHeldAt (after s now place report).jobs place) (claims_of daemon) (launched s now place report)
    (held-after lower s reports orders daemon report place now comes up)
    (All-map (IsHeldAt (after s now place report).jobs place) claim_launch (filter_map (launch_of place report) jobs)
    (launches_held now place report jobs))

fit-launched : Lower → (s : State) (reports : List Report) (orders : List Orders) (daemon : Daemon) (report : Report)
    (place now : ℕ) → Comes s reports orders daemon report place now → report.boot ≡ daemon.boot
    → is_up_at s.nodes place ≡ true
    → Fit (after s now place report) report.node (claims_of daemon ++ launched s now place report) daemon.over
fit-launched lower s reports orders daemon report place now comes life up =
    let s' = after s now place report in
    let claims = claims_of daemon ++ launched s now place report in
    let sound = lower.met s now place report comes.sound comes.raised comes.in_time in
    let up' = stays_up (heard_by now report) (lists_nothing report.running) (met s now place report).nodes place
    (ap (λ nodes. is_up_at nodes place) (nodes_met s now place report) ∙ up) in
    let once = once-after lower s reports orders daemon report place now comes life in
    record {
      apart = λ cpu. held_apart place cpu s'.jobs claims (sound.held.once place cpu)
          (all-held lower s reports orders daemon report place now comes up') (λ start. omega (arith, once start));
      held = λ other is. subst (λ (at : ℕ). is_up_at s'.nodes at ≡ true → All (IsHeldAt s'.jobs at) claims)
          (the-place lower s reports orders daemon report place now other comes is)
          (all-held lower s reports orders daemon report place now comes);
      once = once;
    }

fit-ordered : Lower → (s : State) (reports : List Report) (orders : List Orders) (daemon : Daemon) (report : Report)
    (place now : ℕ) → Comes s reports orders daemon report place now
    → are_due (answer s now place report) daemon ≡ true
    → Fit (after s now place report) report.node (claims_of daemon ++ claims_ordered (answer s now place report))
    daemon.over
fit-ordered lower s reports orders daemon report place now comes is =
    let s' = after s now place report in
    let made = answers s now place report in
    let Fits = λ (launches : List Launch).
    Fit s' report.node (claims_of daemon ++ map claim_launch launches) daemon.over in
    elim (cases_Bool (is_up_at s.nodes place)) [
      | inl up ↦
          subst Fits (sym made.launches)
          (fit-launched lower s reports orders daemon report place now comes
          (sym made.boot ∙ sym (due (answer s now place report) daemon is).boot) up)
      | inr down ↦
          subst Fits (sym (none-launched lower s now place report comes.sound down))
          (subst (λ claims. Fit s' report.node claims daemon.over) (sym (append-nil (claims_of daemon)))
          (fit-after lower s reports orders daemon report place now comes))
    ]

-- ---- all together

after-before : (kept : Option Pair) (a m b n : ℕ) → HeardBefore kept b n → IsAfter a m b n → HeardBefore kept a m
after-before None a m b n before later = tt
after-before (Some pair) a m b n before later = record {
  boot = omega (arith, before.boot, later.boot);
  number = λ is. omega (
    arith,
    before.boot,
    later.boot,
    is,
    before.number (omega (arith, before.boot, later.boot, is)),
    later.number (omega (arith, before.boot, later.boot, is)),
  );
}

since-after : (kept : Option Pair) (a m b n : ℕ) → HeardSince kept a m → HeardBefore kept b n → IsUpTo a m b n
since-after None a m b n since before = absurd since
since-after (Some pair) a m b n since before =
    up_to a m pair.boot pair.number b n since (after_up b n pair.boot pair.number before)

emptied-after : Lower → (s : State) (reports : List Report) (orders : List Orders) (daemon : Daemon)
    (report : Report) (place now : ℕ) → Comes s reports orders daemon report place now
    → is_at is_emptied (after s now place report).nodes place ≡ true
    → RunsNothing (answer s now place report ∷ orders) daemon
emptied-after lower s reports orders daemon report place now comes told =
    let was = emptied_by (heard_by now report) (lists_nothing report.running) (met s now place report).nodes place
    told in
    let same = sym (nodes_met s now place report) in
    let down : is_up_at s.nodes place ≡ false = ap (λ nodes. is_up_at nodes place) same ∙ was.0 in
    let none : daemon.running ≡ [] = elim was.1 [
      | inl before ↦
          (comes.step.emptied place comes.there (ap (λ nodes. is_at is_emptied nodes place) same ∙ before)).running
      | inr empty ↦ none-runs s reports orders daemon report place now comes empty
    ] in
    record {
      running = none;
      ordered = All-cons (λ (one : Orders). are_due one daemon ≡ true → one.launches ≡ [])
          (answer s now place report) orders (λ is. none-launched lower s now place report comes.sound down)
          (λ k d below is. absurd (late s reports orders daemon report place now comes k d below is));
    }

pub accepts_on : Lower → (s : State) (reports : List Report) (orders : List Orders) (daemon : Daemon)
    (report : Report) (place now : ℕ) → Comes s reports orders daemon report place now
    → InStep (report_after (met s now place report) now place report) reports
    (orders_of (met s now place report).jobs now place report ∷ orders) report.node daemon
accepts_on lower s reports orders daemon report place now comes =
    let s' = after s now place report in
    let node = report.node in
    let step = comes.step in
    let kept = kept_after lower s now place report comes.there in
    let made = answers s now place report in
    let one = answer s now place report in
    record {
      name = step.name;
      apart = λ at there.
          ap (dropped_named node) (dropped_met s now place report)
          ∙ step.apart at (sym (same_place lower s now place report node) ∙ there);
      heard = subst (λ kept. HeardUpTo kept daemon.boot daemon.number) (sym kept) comes.sent;
      sent = step.sent;
      fresh = λ life.
          let later : report.boot < daemon.boot = subst (λ kept. HeardNoLife kept daemon.boot) kept life in
          elim (quiet s reports orders daemon report place now comes) [
            | inl none ↦ none
            | inr runs ↦ absurd (omega (arith, later, runs.1))
          ];
      fit = fit-after lower s reports orders daemon report place now comes;
      ordered = All-cons (λ (one : Orders). are_due one daemon ≡ true
          → Fit s' node (claims_of daemon ++ claims_ordered one) daemon.over) one orders
          (fit-ordered lower s reports orders daemon report place now comes)
          (λ k d below is. absurd (late s reports orders daemon report place now comes k d below is));
      told = λ k d below is before life.
          let other = get_or reports k d in
          step.told k d below is
          (after-before (kept_of s node) other.boot other.number report.boot report.number comes.news
          (subst (λ kept. HeardBefore kept other.boot other.number) kept before)) life;
      parted = step.parted;
      answered = All-cons (λ (one : Orders). one.node ≡ node → HeardSince (kept_of s' node) one.boot one.number) one
          orders
          (λ is. subst (λ kept. HeardSince kept one.boot one.number) (sym kept)
          (record { boot = omega (arith, made.boot); number = λ boots. omega (arith, made.number) }))
          (λ k d below is. let other = get_or orders k d in
          subst (λ kept. HeardSince kept other.boot other.number) (sym kept)
          (since-after (kept_of s node) other.boot other.number report.boot report.number (step.answered k d below is)
          comes.news));
      emptied = λ other is told. emptied-after lower s reports orders daemon report place now comes
          (subst (λ (at : ℕ). is_at is_emptied s'.nodes at ≡ true)
          (sym (the-place lower s reports orders daemon report place now other comes is)) told);
    }
