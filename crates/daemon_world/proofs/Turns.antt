-- A daemon's turn is a list of events: it polls, its report comes, and the orders that answer it come.
use Rattle.std.proofs.Common.{ℕ, ◌≡◌, ◌∙◌, true, false, not, List, [], ◌∷◌, Contains, refl, sym, ap, subst, arith, inl, inr, ◌⊎◌, bytes_eq}
use Rattle.std.proofs.lemmas.Bool.{and_parts, both_ways, cond_both}
use Rattle.reply_data.specs.declared.orders.Orders.{Orders}
use Rattle.reply_data.specs.declared.reply.Reply.{Reply}
use Rattle.reply_data.specs.declared.reply.Reply.TheVariants.{Done, Idle, Orders as Ordered, Passed, Refused, Shown, Submitted}
use Rattle.ctl_state.specs.State.{State}
use Rattle.ctl_core.specs.Step.{reply_of}
use Rattle.ctl_desk.specs.declared.entry.Answer.{Answer}
use Rattle.ctl_desk.specs.Desk.{Sight}
use Rattle.node_daemon.specs.Daemon.{Daemon, accepted, are_due, given, polled, reported}
use Rattle.node_daemon.specs.Turn.{AnswersReport, IsCutTurn, after_reply, report_at, root}
use Rattle.daemon_world.specs.Together.{Together}
use Rattle.daemon_world.specs.Turns.{IsAskedIn, Leads, state_told}
use Rattle.daemon_world.specs.Worlds.{Event, World, with_daemon, with_reply}
use Rattle.ctl_reconfigure.proofs.NameLists.{bytes-same as same_name, same-bytes as named}

-- ---- the daemons, of which one has become another

with-own : (node : List ℕ) (daemon : Daemon) (daemons : List ℕ → Daemon)
    → with_daemon node daemon daemons node ≡ daemon
with-own node daemon daemons =
    cond_both (bytes_eq node node) daemon (daemons node) (λ (one : Daemon). one ≡ daemon) (λ is. refl)
    (λ differ. absurd (both_ways (bytes_eq node node) differ (named node node refl)))

with-other : (node other : List ℕ) (daemon : Daemon) (daemons : List ℕ → Daemon) → bytes_eq other node ≡ false
    → with_daemon node daemon daemons other ≡ daemons other
with-other node other daemon daemons differ =
    cond_both (bytes_eq other node) daemon (daemons other) (λ (one : Daemon). one ≡ daemons other)
    (λ is. absurd (both_ways (bytes_eq other node) differ is)) (λ out. refl)

-- ---- the events of a turn

-- nothing happens
nothing-leads : (w : World) (node : List ℕ) → Leads w node w.state (w.daemons node)
nothing-leads w node = record { events = []; can = tt; state = refl; daemon = refl; others = λ other differ. refl }

-- it polls, and nothing of its report is entered
poll-leads : (w : World) (now : ℕ) (node : List ℕ) → Leads w node w.state (polled now (w.daemons node))
poll-leads w now node = record {
  events = Event.Polls now node ∷ [];
  can = (tt, tt);
  state = refl;
  daemon = with-own node (polled now (w.daemons node)) w.daemons;
  others = λ other differ. with-other node other (polled now (w.daemons node)) w.daemons differ;
}

-- its report comes, and no orders come
report-leads : (w : World) (now : ℕ) (node : List ℕ) → Leads w node (state_told w now node) (polled now (w.daemons node))
report-leads w now node = record {
  events = Event.Polls now node ∷ Event.ReportComes now (reported (polled now (w.daemons node))) ∷ [];
  can = (tt, ((0, omega arith, refl), tt));
  state = refl;
  daemon = with-own node (polled now (w.daemons node)) w.daemons;
  others = λ other differ. with-other node other (polled now (w.daemons node)) w.daemons differ;
}

given-due : (now : ℕ) (orders : Orders) (daemon : Daemon) → are_due orders daemon ≡ true
    → given now orders daemon ≡ accepted now orders daemon
given-due now orders daemon due =
    cond_both (are_due orders daemon) (accepted now orders daemon) daemon
    (λ (one : Daemon). one ≡ accepted now orders daemon) (λ is. refl)
    (λ not. absurd (both_ways (are_due orders daemon) not due))

-- where the orders are for this node
own-taken : (now : ℕ) (node name : List ℕ) (orders : Orders) (after : Daemon) (daemons : List ℕ → Daemon) → name ≡ node
    → are_due orders after ≡ true
    → with_daemon name (given now orders (with_daemon node after daemons name)) (with_daemon node after daemons) node
    ≡ accepted now orders after
own-taken now node name orders after daemons same due =
    subst (λ (name : List ℕ). with_daemon name (given now orders (with_daemon node after daemons name))
    (with_daemon node after daemons) node ≡ accepted now orders after) (sym same)
    (with-own node (given now orders (with_daemon node after daemons node)) (with_daemon node after daemons)
    ∙ ap (given now orders) (with-own node after daemons) ∙ given-due now orders after due)

-- its report comes, and so do the orders that answer it
orders-lead : (w : World) (now : ℕ) (node : List ℕ) (orders : Orders) → (w.daemons node).node ≡ node
    → reply_of w.state now root (report_at now (w.daemons node)) ≡ Ordered orders
    → are_due orders (polled now (w.daemons node)) ≡ true
    → Leads w node (state_told w now node) (accepted now orders (polled now (w.daemons node)))
orders-lead w now node orders own is due =
    let after = polled now (w.daemons node) in
    let second = (and_parts (not after.taken) _ due).1 in
    let for = (and_parts (bytes_eq after.node orders.node) _ second).0 in
    let name : orders.node ≡ node = sym (same_name after.node orders.node for) ∙ own in
    record {
      events = Event.Polls now node
          ∷ Event.ReportComes now (reported after)
          ∷ Event.OrdersCome now orders
          ∷ [];
      can = (
        tt,
        (
          (0, omega arith, refl),
          (
            subst (λ (reply : Reply). Contains (with_reply reply w.orders) orders) (sym is) (0, omega arith, refl),
            tt,
          ),
        ),
      );
      state = refl;
      daemon = own-taken now node orders.node orders after w.daemons name due;
      others = λ other differ.
          with-other orders.node other (given now orders (with_daemon node after w.daemons orders.node))
          (with_daemon node after w.daemons)
          (subst (λ (name : List ℕ). bytes_eq other name ≡ false) (sym name) differ)
          ∙ with-other node other after w.daemons differ;
    }

-- ---- a turn

-- orders that answer a report are due to the daemon that made it
abbrev pub AreDueAnswers : Type 0
AreDueAnswers = (s : State) (asked now : ℕ) (user : List ℕ) (daemon : Daemon) (orders : Orders)
    → reply_of s asked user (report_at now daemon) ≡ Ordered orders → are_due orders (polled now daemon) ≡ true

pub reply_leads : AreDueAnswers → (w : World) (now : ℕ) (node : List ℕ) (reply : Reply) → (w.daemons node).node ≡ node
    → reply_of w.state now root (report_at now (w.daemons node)) ≡ reply
    → Leads w node (state_told w now node) (after_reply now reply (polled now (w.daemons node)))
reply_leads due w now node (Ordered orders) own is =
    orders-lead w now node orders own is (due w.state now now root (w.daemons node) orders is)
reply_leads due w now node (Submitted id) own is = report-leads w now node
reply_leads due w now node Done own is = report-leads w now node
reply_leads due w now node (Passed ended started planned) own is = report-leads w now node
reply_leads due w now node Idle own is = report-leads w now node
reply_leads due w now node (Shown view) own is = report-leads w now node
reply_leads due w now node (Refused refusal) own is = report-leads w now node

pub turn_leads : AreDueAnswers → (w : World) (now : ℕ) (node : List ℕ) (desk desk' : Sight) (answer : Answer)
    → Together w → IsAskedIn w now node desk desk' → AnswersReport now (w.daemons node) desk desk' answer
    → Leads w node (state_told w now node) (after_reply now answer.reply (polled now (w.daemons node)))
turn_leads due w now node desk desk' answer together asked answers =
    let same = answers.reply
    ∙ ap (λ (s : State). reply_of s now root (report_at now (w.daemons node))) (asked answer answers) in
    reply_leads due w now node answer.reply (together.each node).name (sym same)

pub cut_leads : (w : World) (now : ℕ) (node : List ℕ) (turned : Daemon) (desk desk' : Sight)
    → IsCutTurn now (w.daemons node) turned desk desk'
    → Leads w node w.state turned ⊎ Leads w node (state_told w now node) turned
cut_leads w now node turned desk desk' (inl untouched) =
    inl (subst (λ (one : Daemon). Leads w node w.state one) (sym untouched.0) (nothing-leads w node))
cut_leads w now node turned desk desk' (inr (inl unheard)) =
    inl (subst (λ (one : Daemon). Leads w node w.state one) (sym unheard.0) (poll-leads w now node))
cut_leads w now node turned desk desk' (inr (inr lost)) =
    inr (subst (λ (one : Daemon). Leads w node (state_told w now node) one) (sym lost.after) (report-leads w now node))
