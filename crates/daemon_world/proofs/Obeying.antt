-- A daemon takes orders, where they are due.
use Rattle.std.proofs.Common.{ℕ, ◌≡◌, ◌≤◌, ◌∙◌, Bool, true, false, not, List, [], ◌∷◌, ◌++◌, map, count_by, filter, refl, sym, ap, ap₂, subst, arith}
use Rattle.std.proofs.lemmas.Bool.{both_ways, cond_both}
use Rattle.std.proofs.lemmas.List.{map-append}
use Rattle.std.proofs.lemmas.List.Elements.{All-append, All-filter, All-map, All-weaker}
use Rattle.reply_data.specs.declared.orders.Launch.{Launch}
use Rattle.reply_data.specs.declared.orders.Orders.{Orders}
use Rattle.request_data.specs.declared.report.Done.{Done}
use Rattle.request_data.specs.declared.report.Report.{Report}
use Rattle.request_data.specs.declared.report.Start.{Start}
use Rattle.ctl_state.specs.State.{State}
use Rattle.node_daemon.specs.Daemon.{Daemon, accepted, are_due, given, is_among, is_same, launched, not_killed}
use Rattle.node_daemon.specs.declared.running.Running.{Running}
use Rattle.daemon_world.specs.Claims.{Claim, IsHeldAt, claim_launch, claim_run, claims_of, claims_ordered}
use Rattle.daemon_world.specs.Together.{Fit, HeardBefore, HeardNoLife, HeardSince, InStep, IsUpTo, RunsNothing, Tells, kept_of}
use Rattle.daemon_world.proofs.Claimed.{fit_less}
use Rattle.daemon_world.proofs.Lists.{count_append, count_filter, count_kept}
use Rattle.daemon_world.proofs.Numbers.{due, since_before, since_life, up_to}
use Rattle.list_lemmas.proofs.Elements.{all-left as all_left, all-right as all_right}
use Rattle.ctl_pass.proofs.Beside.{all-back as all_unmap}

-- what runs once they are taken: what isn't killed, and what is launched
claims-launched : (now : ℕ) (launches : List Launch)
    → map claim_run (map (launched now) launches) ≡ map claim_launch launches
claims-launched now [] = refl
claims-launched now (launch ∷ later) = ap (λ rest. claim_launch launch ∷ rest) (claims-launched now later)

pub claims_accepted : (now : ℕ) (orders : Orders) (daemon : Daemon)
    → claims_of (accepted now orders daemon)
    ≡ map claim_run (not_killed orders.kills daemon.running) ++ claims_ordered orders
claims_accepted now orders daemon =
    map-append claim_run (not_killed orders.kills daemon.running) (map (launched now) orders.launches)
    ∙ ap (λ rest. map claim_run (not_killed orders.kills daemon.running) ++ rest)
    (claims-launched now orders.launches)

fewer-killed : (kills : List Start) (running : List Running) (p : Claim → Bool) (more : List Claim)
    → count_by p (map claim_run (not_killed kills running) ++ more) ≤ count_by p (map claim_run running ++ more)
fewer-killed kills running p more =
    omega (
      arith,
      count_append p (map claim_run (not_killed kills running)) more,
      count_append p (map claim_run running) more,
      count_filter p claim_run (λ (one : Running). not (is_among kills one.start)) running,
    )

pub fit_accepted : (now : ℕ) (s : State) (node : List ℕ) (orders : Orders) (daemon : Daemon)
    → Fit s node (claims_of daemon ++ claims_ordered orders) daemon.over
    → Fit s node (claims_of (accepted now orders daemon)) (accepted now orders daemon).over
fit_accepted now s node orders daemon fit =
    let stays : Running → Bool = λ one. not (is_among orders.kills one.start) in
    let left = map claim_run (not_killed orders.kills daemon.running) in
    let less = left ++ claims_ordered orders in
    let whole = claims_of daemon ++ claims_ordered orders in
    let after = accepted now orders daemon in
    subst (λ claims. Fit s node claims after.over) (sym (claims_accepted now orders daemon))
    (fit_less s node whole less daemon.over after.over fit
    (λ p. fewer-killed orders.kills daemon.running p (claims_ordered orders))
    (λ place all. All-append (IsHeldAt s.jobs place) left (claims_ordered orders)
    (All-map (IsHeldAt s.jobs place) claim_run (filter stays daemon.running)
    (All-filter stays (λ (one : Running). IsHeldAt s.jobs place (claim_run one)) daemon.running
    (all_unmap (IsHeldAt s.jobs place) claim_run daemon.running
    (all_left (IsHeldAt s.jobs place) (claims_of daemon) (claims_ordered orders) all))))
    (all_right (IsHeldAt s.jobs place) (claims_of daemon) (claims_ordered orders) all))
    (λ start. omega (
      arith,
      fewer-killed orders.kills daemon.running (λ (claim : Claim). is_same claim.start start) (claims_ordered orders),
      count_kept (λ (done : Done). is_same done.start start)
          (λ (done : Done). not (is_among orders.forgets done.start)) daemon.over,
    )))

-- where nothing runs, nothing runs but what is launched
nothing-left : (now : ℕ) (kills : List Start) (running : List Running) (launches : List Launch) → running ≡ []
    → launches ≡ [] → not_killed kills running ++ map (launched now) launches ≡ []
nothing-left now kills running launches none no_more =
    ap₂ (λ (some : List Running) (more : List Launch). not_killed kills some ++ map (launched now) more) none no_more

takes-on : (now : ℕ) (s : State) (reports : List Report) (orders : List Orders) (node : List ℕ) (daemon : Daemon)
    (one : Orders) → one.node ≡ node → InStep s reports orders node daemon
    → (are_due one daemon ≡ true → Fit s node (claims_of daemon ++ claims_ordered one) daemon.over)
    → (one.node ≡ node → HeardSince (kept_of s node) one.boot one.number)
    → (RunsNothing orders daemon → are_due one daemon ≡ true → one.launches ≡ [])
    → are_due one daemon ≡ true
    → InStep s reports orders node (accepted now one daemon)
takes-on now s reports orders node daemon one is step fits answers nothing due_now =
    let after = accepted now one daemon in
    let is_due = due one daemon due_now in
    let since = answers is in
    let kept = kept_of s node in
    record {
      name = step.name;
      apart = step.apart;
      heard = step.heard;
      sent = step.sent;
      fresh = λ life. absurd (since_life kept one.boot one.number since (subst (HeardNoLife kept) is_due.boot life));
      fit = fit_accepted now s node one daemon (fits due_now);
      ordered = λ k d below due. absurd (both_ways false refl due);
      told = All-weaker (λ (report : Report). report.node ≡ node
          → IsUpTo report.boot report.number daemon.boot daemon.number)
          (λ (report : Report). report.node ≡ node → HeardBefore kept report.boot report.number
          → report.boot ≡ after.boot → Tells report after)
          (λ report up own before life.
          absurd (since_before kept one.boot one.number report.boot report.number since before
          (up_to report.boot report.number daemon.boot daemon.number one.boot one.number (up own)
          (record { boot = omega (arith, is_due.boot); number = λ boots. omega (arith, is_due.number) }))))
          reports step.sent;
      parted = step.parted;
      answered = step.answered;
      emptied = λ place at told.
          let none = step.emptied place at told in
          record {
            running = nothing-left now one.kills daemon.running one.launches none.running (nothing none due_now);
            ordered = λ k d below due. absurd (both_ways false refl due);
          };
    }

-- Orders that come keep a daemon in step.
pub obeys_on : (now : ℕ) (s : State) (reports : List Report) (orders : List Orders) (node : List ℕ) (daemon : Daemon)
    (one : Orders) → one.node ≡ node → InStep s reports orders node daemon
    → (are_due one daemon ≡ true → Fit s node (claims_of daemon ++ claims_ordered one) daemon.over)
    → (one.node ≡ node → HeardSince (kept_of s node) one.boot one.number)
    → (RunsNothing orders daemon → are_due one daemon ≡ true → one.launches ≡ [])
    → InStep s reports orders node (given now one daemon)
obeys_on now s reports orders node daemon one is step fits answers nothing =
    cond_both (are_due one daemon) (accepted now one daemon) daemon (InStep s reports orders node)
    (λ due_now. takes-on now s reports orders node daemon one is step fits answers nothing due_now) (λ late. step)
