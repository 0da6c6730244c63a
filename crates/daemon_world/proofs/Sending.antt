-- What other daemons send, and what is sent to them, is nothing to a daemon.
use Rattle.std.proofs.Common.{ℕ, ◌≡◌, ◌∙◌, true, false, List, [], ◌∷◌, ◌++◌, All, sym}
use Rattle.std.proofs.lemmas.List.Elements.{All-cons}
use Rattle.reply_data.specs.declared.orders.Orders.{Orders}
use Rattle.request_data.specs.declared.report.Report.{Report}
use Rattle.ctl_state.specs.State.{State}
use Rattle.node_daemon.specs.Daemon.{Daemon, are_due}
use Rattle.daemon_world.specs.Claims.{claims_of, claims_ordered}
use Rattle.daemon_world.specs.Together.{Fit, HeardBefore, HeardSince, InStep, IsUpTo, Tells, kept_of, tells_over}
use Rattle.daemon_world.proofs.Numbers.{due}

pub more_reports : (s : State) (reports : List Report) (orders : List Orders) (node : List ℕ) (daemon : Daemon)
    (report : Report) → (report.node ≡ node → ⊥) → InStep s reports orders node daemon
    → InStep s (report ∷ reports) orders node daemon
more_reports s reports orders node daemon report others step = record {
  name = step.name;
  apart = step.apart;
  heard = step.heard;
  sent = All-cons (λ (one : Report). one.node ≡ node → IsUpTo one.boot one.number daemon.boot daemon.number) report
      reports (λ is. absurd (others is)) step.sent;
  fresh = step.fresh;
  fit = step.fit;
  ordered = step.ordered;
  told = All-cons (λ (one : Report). one.node ≡ node → HeardBefore (kept_of s node) one.boot one.number
      → one.boot ≡ daemon.boot → Tells one daemon) report reports (λ is before life. absurd (others is)) step.told;
  parted = All-cons (λ (one : Report). one.node ≡ node → All (λ start. tells_over one start ≡ false) one.running)
      report reports (λ is. absurd (others is)) step.parted;
  answered = step.answered;
  emptied = step.emptied;
}

pub more_orders : (s : State) (reports : List Report) (orders : List Orders) (node : List ℕ) (daemon : Daemon)
    (more : Orders) → (more.node ≡ node → ⊥) → InStep s reports orders node daemon
    → InStep s reports (more ∷ orders) node daemon
more_orders s reports orders node daemon more others step =
    let never : are_due more daemon ≡ true → ⊥ = λ is. others (sym (due more daemon is).node ∙ step.name) in
    record {
      name = step.name;
      apart = step.apart;
      heard = step.heard;
      sent = step.sent;
      fresh = step.fresh;
      fit = step.fit;
      ordered = All-cons (λ (one : Orders). are_due one daemon ≡ true
          → Fit s node (claims_of daemon ++ claims_ordered one) daemon.over) more orders (λ is. absurd (never is))
          step.ordered;
      told = step.told;
      parted = step.parted;
      answered = All-cons (λ (one : Orders). one.node ≡ node → HeardSince (kept_of s node) one.boot one.number) more
          orders (λ is. absurd (others is)) step.answered;
      emptied = λ place is told.
          let nothing = step.emptied place is told in
          record {
            running = nothing.running;
            ordered = All-cons (λ (one : Orders). are_due one daemon ≡ true → one.launches ≡ []) more orders
                (λ is. absurd (never is)) nothing.ordered;
          };
    }
