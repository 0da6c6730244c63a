-- Orders that answer a report are for that report, and so they are due to the daemon that made it.
use Rattle.std.proofs.Common.{ℕ, ◌≡◌, ◌∙◌, Bool, true, false, not, List, Option, None, Some, refl, sym, ap}
use Rattle.std.proofs.lemmas.Bool.{and_from, cond-true, eq-eqb}
use Rattle.std.proofs.lemmas.Slice.Eq.{bytes_eq-Decides}
use Rattle.std.specs.Str.{bytes_eq}
use Rattle.reply_data.specs.declared.orders.Orders.{Orders}
use Rattle.reply_data.specs.declared.refusal.Refusal.{Refusal}
use Rattle.reply_data.specs.declared.reply.Reply.{Reply}
use Rattle.reply_data.specs.declared.reply.Reply.TheVariants.{Orders as Ordered}
use Rattle.request_data.specs.declared.report.Report.{Report}
use Rattle.request_data.specs.declared.request.Request.TheVariants.{Report as Reports}
use Rattle.ctl_state.specs.State.{State}
use Rattle.ctl_state.specs.Refusals.{first_refusal, unless_refused}
use Rattle.ctl_state.specs.Verdicts.{Verdict, Refuses, Tells, Stays, Makes, reply_by}
use Rattle.ctl_node_side.specs.Answering.{node_of, report_refusals}
use Rattle.ctl_node_side.specs.Ordering.{orders_of}
use Rattle.ctl_node_side.specs.Restarting.{made_by_report, met, report_made}
use Rattle.ctl_core.specs.Sizes.{has_room}
use Rattle.ctl_core.specs.Step.{early_refusals, raised, reply_of, unless_full, worked}
use Rattle.ctl_desk.specs.declared.entry.Answer.{Answer}
use Rattle.ctl_desk.specs.Desk.{Sight, seen, state_at}
use Rattle.node_daemon.specs.Daemon.{Daemon, accepted, are_due, polled, reported}
use Rattle.node_daemon.specs.Turn.{AnswersReport, after_reply, given_reply, report_at, root}

-- what comes to orders isn't refused, and has room
past-refusals : (refusal : Option Refusal) (verdict : Verdict) (orders : Orders)
    → reply_by (unless_refused refusal verdict) ≡ Ordered orders → reply_by verdict ≡ Ordered orders
past-refusals None verdict orders is = is
past-refusals (Some refusal) verdict orders is = cc

past-room : (room : Bool) (verdict : Verdict) (orders : Orders)
    → reply_by (unless_full room verdict) ≡ Ordered orders → reply_by verdict ≡ Ordered orders
past-room true verdict orders is = is
past-room false (Refuses refusal) orders is = is
past-room false (Tells view) orders is = is
past-room false Stays orders is = is
past-room false (Makes reply after) orders is = cc

-- the orders are for the report
record AreFor (report : Report) (orders : Orders) : Type 0 where
  node : orders.node ≡ report.node
  boot : orders.boot ≡ report.boot
  number : orders.number ≡ report.number

made-for : (s : State) (now : ℕ) (report : Report) (node : Option ℕ) (orders : Orders)
    → reply_by (made_by_report s now report node) ≡ Ordered orders → AreFor report orders
unfolding orders_of
made-for s now report None orders is = cc
made-for s now report (Some node) orders is =
    let same : orders ≡ orders_of (met s now node report).jobs now node report = cc in
    record {
      node = ap (λ (all : Orders). all.node) same;
      boot = ap (λ (all : Orders). all.boot) same;
      number = ap (λ (all : Orders). all.number) same;
    }

answer-for : (s : State) (now : ℕ) (user : List ℕ) (report : Report) (orders : Orders)
    → reply_of s now user (Reports report) ≡ Ordered orders → AreFor report orders
answer-for s now user report orders is =
    let request = Reports report in
    let made = report_made s (raised s now) report in
    let fitting = unless_full (has_room s request) made in
    let work = worked s (raised s now) user request in
    let early = first_refusal (early_refusals s now request) in
    made-for s (raised s now) report (node_of s report) orders
    (past-room (has_room s request) made orders
    (past-refusals (first_refusal (report_refusals s user report)) fitting orders
    (past-refusals early work orders is)))

-- orders for the last report are due where none were taken
due : (orders : Orders) (daemon : Daemon) → daemon.taken ≡ false → AreFor (reported daemon) orders
    → are_due orders daemon ≡ true
due orders daemon untaken answers =
    and_from (not daemon.taken) _ (ap not untaken)
    (and_from (bytes_eq daemon.node orders.node) _ ((bytes_eq-Decides daemon.node orders.node).1 (sym answers.node))
    (and_from _ _ (eq-eqb daemon.boot orders.boot (sym answers.boot))
    (eq-eqb daemon.number orders.number (sym answers.number))))

pub due_when_polled : (s : State) (asked now : ℕ) (user : List ℕ) (daemon : Daemon) (orders : Orders)
    → reply_of s asked user (report_at now daemon) ≡ Ordered orders → are_due orders (polled now daemon) ≡ true
due_when_polled s asked now user daemon orders is =
    due orders (polled now daemon) refl (answer-for s asked user (reported (polled now daemon)) orders is)

-- where orders are due, they are done
given-due : (now : ℕ) (reply : Reply) (daemon : Daemon)
    → ((orders : Orders) → reply ≡ Ordered orders → are_due orders daemon ≡ true)
    → given_reply now reply daemon ≡ after_reply now reply daemon
given-due now (Ordered orders) daemon are =
    cond-true (are_due orders daemon) (accepted now orders daemon) daemon (are orders refl)
given-due now reply daemon are = refl

-- so the orders that answer a report are done
pub answer_done : (now : ℕ) (daemon : Daemon) (desk desk' : Sight) (answer : Answer)
    → AnswersReport now daemon desk desk' answer
    → given_reply now answer.reply (polled now daemon) ≡ after_reply now answer.reply (polled now daemon)
answer_done now daemon desk desk' answer answers =
    let s = state_at desk.opening (seen desk') answer.place in
    given-due now answer.reply (polled now daemon)
    (λ orders is. due_when_polled s now now root daemon orders (sym answers.reply ∙ is))
