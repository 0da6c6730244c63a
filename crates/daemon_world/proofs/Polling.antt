-- A daemon polls, or is started anew.
use Rattle.std.proofs.Common.{ℕ, ◌≡◌, ◌≤◌, ◌<◌, ◌+◌, ◌∙◌, Bool, true, false, not, ◌||◌, List, [], ◌∷◌, ◌++◌, map, filter, cond, All, Option, Some, None, refl, sym, ap, arith, inl, inr, option_map}
use Rattle.std.specs.List.{cons_option}
use Rattle.std.proofs.lemmas.Bool.{cases_Bool, both_ways, or_left, or_right}
use Rattle.std.proofs.lemmas.List.Elements.{All-append, All-cons, All-filter, All-head, All-map, All-nil, All-tail, All-weaker}
use Rattle.reply_data.specs.declared.orders.Orders.{Orders}
use Rattle.request_data.specs.declared.report.Done.{Done}
use Rattle.request_data.specs.declared.report.Report.{Report}
use Rattle.request_data.specs.declared.report.Start.{Start}
use Rattle.ctl_state.specs.State.{State}
use Rattle.node_daemon.specs.Daemon.{Daemon, are_due, done_with, is_among, is_over, is_same, polled, reported, started, still_running, told_over}
use Rattle.node_daemon.specs.declared.running.Running.{Running}
use Rattle.node_daemon.specs.declared.running.Script.{Script}
use Rattle.daemon_world.specs.Claims.{Claim, IsHeldAt, claim_run, claims_of, claims_ordered, times_claiming, times_over}
use Rattle.daemon_world.specs.Together.{Fit, HeardBefore, HeardSince, InStep, IsUpTo, Tells, kept_of, tells_over}
use Rattle.daemon_world.proofs.Claimed.{all_among, each_claims, fit_less, fit_none, not_told}
use Rattle.daemon_world.proofs.Lists.{count_append, count_filter}
use Rattle.daemon_world.proofs.Numbers.{due, heard_in_life, heard_on, later_life, next, not_next, since_up, up_to}
use Rattle.list_lemmas.proofs.Sums.{count-cons as count_cons}
use Rattle.ctl_pass.proofs.Beside.{all-back as all_unmap}

-- what is told of one that is over, if it is
told-one : (start other : Start) (script : Option Script) (rest : List Done)
    → times_over (cons_option (option_map (done_with start) script) rest) other
    ≤ cond (is_same start other) 1 0 + times_over rest other
told-one start other None rest = omega arith
told-one start other (Some script) rest =
    omega (arith, count_cons (λ (done : Done). is_same done.start other) (done_with start script) rest)

-- no start is lost, and none comes, when some are over
pub starts_stay : (now : ℕ) (start : Start) (running : List Running)
    → times_claiming (map claim_run (still_running now running)) start + times_over (told_over now running) start
    ≤ times_claiming (map claim_run running) start
starts_stay now start [] = omega arith
starts_stay now start (one ∷ later) =
    let rest = starts_stay now start later in
    let claims = λ (claim : Claim). is_same claim.start start in
    let whole = count_cons claims (claim_run one) (map claim_run later) in
    elim (cases_Bool (is_over now one)) [
      | inl over ↦ rw over (omega (arith, rest, whole, told-one one.start start one.script (told_over now later)))
      | inr runs ↦
          rw runs
          (omega (arith, rest, whole, count_cons claims (claim_run one) (map claim_run (still_running now later))))
    ]

-- what was listed as running is told to be over in no way that the list doesn't know
told-known : (report : Report) (start : Start) (script : Option Script) (rest : List Done)
    → is_among report.running start ≡ true
    → All (λ (done : Done). (is_among report.running done.start || tells_over report done.start) ≡ true) rest
    → All (λ (done : Done). (is_among report.running done.start || tells_over report done.start) ≡ true)
    (cons_option (option_map (done_with start) script) rest)
told-known report start None rest listed all = all
told-known report start (Some script) rest listed all =
    All-cons (λ (done : Done). (is_among report.running done.start || tells_over report done.start) ≡ true)
    (done_with start script) rest (or_left (is_among report.running start) (tells_over report start) listed) all

over-known : (now : ℕ) (report : Report) (running : List Running)
    → All (λ (one : Running). is_among report.running one.start ≡ true) running
    → All (λ (done : Done). (is_among report.running done.start || tells_over report done.start) ≡ true)
    (told_over now running)
over-known now report [] all =
    All-nil (λ (done : Done). (is_among report.running done.start || tells_over report done.start) ≡ true)
over-known now report (one ∷ later) all =
    let Listed = λ (one : Running). is_among report.running one.start ≡ true in
    let rest = over-known now report later (All-tail Listed one later all) in
    elim (cases_Bool (is_over now one)) [
      | inl over ↦
          rw over (told-known report one.start one.script (told_over now later) (All-head Listed one later all) rest)
      | inr runs ↦ rw runs rest
    ]

-- what a report told of before, it tells of after
pub tells_on : (now : ℕ) (report : Report) (daemon : Daemon) → Tells report daemon → Tells report (polled now daemon)
tells_on now report daemon tells = record {
  running = All-filter (λ one. not (is_over now one))
      (λ (one : Running). is_among report.running one.start ≡ true) daemon.running tells.running;
  over = All-append (λ (done : Done). (is_among report.running done.start || tells_over report done.start) ≡ true)
      daemon.over (told_over now daemon.running) tells.over (over-known now report daemon.running tells.running);
}

-- and the new one tells of all
pub tells_all : (daemon : Daemon) → Tells (reported daemon) daemon
tells_all daemon =
    let report = reported daemon in
    record {
      running = all_among (λ (one : Running). one.start) daemon.running;
      over = All-weaker (λ (done : Done). tells_over report done.start ≡ true)
          (λ (done : Done). (is_among report.running done.start || tells_over report done.start) ≡ true)
          (λ done is. or_right (is_among report.running done.start) (tells_over report done.start) is) daemon.over
          (all_among (λ (done : Done). done.start) daemon.over);
    }

-- of no start in both ways
pub tells_apart : (s : State) (node : List ℕ) (daemon : Daemon) → Fit s node (claims_of daemon) daemon.over
    → All (λ start. tells_over (reported daemon) start ≡ false) (reported daemon).running
tells_apart s node daemon fit =
    let each = all_unmap (λ (claim : Claim). 1 ≤ times_claiming (claims_of daemon) claim.start) claim_run daemon.running
    (each_claims (claims_of daemon)) in
    All-map (λ start. tells_over (reported daemon) start ≡ false) (λ (one : Running). one.start) daemon.running
    (All-weaker (λ (one : Running). 1 ≤ times_claiming (claims_of daemon) one.start)
    (λ (one : Running). tells_over (reported daemon) one.start ≡ false)
    (λ one claims. not_told daemon.over one.start (omega (arith, claims, fit.once one.start))) daemon.running each)

-- what still runs fits
pub fit_polled : (now : ℕ) (s : State) (node : List ℕ) (daemon : Daemon) → Fit s node (claims_of daemon) daemon.over
    → Fit s node (claims_of (polled now daemon)) (polled now daemon).over
fit_polled now s node daemon fit =
    let stays : Running → Bool = λ one. not (is_over now one) in
    fit_less s node (claims_of daemon) (claims_of (polled now daemon)) daemon.over (polled now daemon).over fit
    (λ p. count_filter p claim_run stays daemon.running)
    (λ place all. All-map (IsHeldAt s.jobs place) claim_run (filter stays daemon.running)
    (All-filter stays (λ (one : Running). IsHeldAt s.jobs place (claim_run one)) daemon.running
    (all_unmap (IsHeldAt s.jobs place) claim_run daemon.running all)))
    (λ start. omega (
      arith,
      starts_stay now start daemon.running,
      count_append (λ (done : Done). is_same done.start start) daemon.over (told_over now daemon.running),
    ))

-- orders that were sent are for no report that comes yet
pub none_due : (s : State) (reports : List Report) (orders : List Orders) (node : List ℕ) (daemon after : Daemon)
    → InStep s reports orders node daemon → after.node ≡ daemon.node
    → after.boot ≡ daemon.boot → after.number ≡ daemon.number + 1
    → All (λ (one : Orders). are_due one after ≡ true → ⊥) orders
none_due s reports orders node daemon after step name boot number =
    All-weaker (λ (one : Orders). one.node ≡ node → HeardSince (kept_of s node) one.boot one.number)
    (λ (one : Orders). are_due one after ≡ true → ⊥)
    (λ one since is.
    let is_due = due one after is in
    not_next one.boot one.number daemon.boot daemon.number
    (since_up (kept_of s node) one.boot one.number daemon.boot daemon.number
    (since (sym is_due.node ∙ name ∙ step.name)) step.heard) (sym is_due.boot ∙ boot) (sym is_due.number ∙ number))
    orders step.answered

-- A poll keeps a daemon in step.
pub polls_on : (now : ℕ) (s : State) (reports : List Report) (orders : List Orders) (node : List ℕ) (daemon : Daemon)
    → InStep s reports orders node daemon
    → InStep s (reported (polled now daemon) ∷ reports) orders node (polled now daemon)
polls_on now s reports orders node daemon step =
    let after = polled now daemon in
    let report = reported after in
    let on = next daemon.boot daemon.number in
    let none = none_due s reports orders node daemon after step refl refl refl in
    let fit = fit_polled now s node daemon step.fit in
    record {
      name = step.name;
      apart = step.apart;
      heard = heard_on (kept_of s node) daemon.boot daemon.number after.boot after.number step.heard on;
      sent = All-cons (λ (one : Report). one.node ≡ node → IsUpTo one.boot one.number after.boot after.number) report
          reports (λ is. record { boot = omega arith; number = λ same. omega arith })
          (All-weaker (λ (one : Report). one.node ≡ node → IsUpTo one.boot one.number daemon.boot daemon.number)
          (λ (one : Report). one.node ≡ node → IsUpTo one.boot one.number after.boot after.number)
          (λ one up is. up_to one.boot one.number daemon.boot daemon.number after.boot after.number (up is) on) reports
          step.sent);
      fresh = λ life. ap (still_running now) (step.fresh life);
      fit = fit;
      ordered = All-weaker (λ (one : Orders). are_due one after ≡ true → ⊥)
          (λ (one : Orders). are_due one after ≡ true → Fit s node (claims_of after ++ claims_ordered one) after.over)
          (λ one never is. absurd (never is)) orders none;
      told = All-cons (λ (one : Report). one.node ≡ node → HeardBefore (kept_of s node) one.boot one.number
          → one.boot ≡ after.boot → Tells one after) report reports (λ is before life. tells_all after)
          (All-weaker (λ (one : Report). one.node ≡ node → HeardBefore (kept_of s node) one.boot one.number
          → one.boot ≡ daemon.boot → Tells one daemon)
          (λ (one : Report). one.node ≡ node → HeardBefore (kept_of s node) one.boot one.number
          → one.boot ≡ after.boot → Tells one after)
          (λ one tells is before life. tells_on now one daemon (tells is before life)) reports step.told);
      parted = All-cons (λ (one : Report). one.node ≡ node → All (λ start. tells_over one start ≡ false) one.running)
          report reports (λ is. tells_apart s node after fit) step.parted;
      answered = step.answered;
      emptied = λ place is told. record {
        running = ap (still_running now) (step.emptied place is told).running;
        ordered = All-weaker (λ (one : Orders). are_due one after ≡ true → ⊥)
            (λ (one : Orders). are_due one after ≡ true → one.launches ≡ []) (λ one never is. absurd (never is)) orders
            none;
      };
    }

-- A daemon that is started anew is in step.
pub restarts_on : (s : State) (reports : List Report) (orders : List Orders) (node : List ℕ) (daemon : Daemon)
    (boot : ℕ) → daemon.boot < boot → InStep s reports orders node daemon
    → InStep s reports orders node (started node boot)
restarts_on s reports orders node daemon boot later step =
    let after = started node boot in
    let never : (one : Orders) → are_due one after ≡ true → ⊥ = λ one is. both_ways false refl is in
    record {
      name = refl;
      apart = step.apart;
      heard = heard_in_life (kept_of s node) daemon.boot daemon.number boot step.heard later;
      sent = All-weaker (λ (one : Report). one.node ≡ node → IsUpTo one.boot one.number daemon.boot daemon.number)
          (λ (one : Report). one.node ≡ node → IsUpTo one.boot one.number boot 0)
          (λ one up is. later_life one.boot one.number daemon.boot daemon.number boot (up is) later) reports step.sent;
      fresh = λ life. refl;
      fit = fit_none s node;
      ordered = λ k d below is. absurd (both_ways false refl is);
      told = All-weaker (λ (one : Report). one.node ≡ node → IsUpTo one.boot one.number daemon.boot daemon.number)
          (λ (one : Report). one.node ≡ node → HeardBefore (kept_of s node) one.boot one.number
          → one.boot ≡ boot → Tells one after)
          (λ one up is before life. absurd (omega (arith, (up is).boot, later, life))) reports step.sent;
      parted = step.parted;
      answered = step.answered;
      emptied = λ place is told. record {
        running = refl;
        ordered = λ k d below due. absurd (both_ways false refl due);
      };
    }
