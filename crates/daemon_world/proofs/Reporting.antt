-- A report that comes to the controller keeps all together.
use Rattle.std.proofs.Common.{ℕ, ◌≡◌, ◌∙◌, false, List, ◌∷◌, All, Contains, bytes_eq, if◌then◌else◌, refl, sym, subst, arith, inl, inr}
use Rattle.std.proofs.lemmas.Bool.{cases_Bool}
use Rattle.std.proofs.lemmas.List.Elements.{All-contains}
use Rattle.reply_data.specs.declared.orders.Orders.{Orders}
use Rattle.request_data.specs.declared.report.Report.{Report}
use Rattle.request_data.specs.declared.request.Request.TheVariants.{Report as Reports}
use Rattle.ctl_state.specs.Soundness.{IsSound}
use Rattle.ctl_state.specs.State.{State}
use Rattle.ctl_state.specs.Verdicts.{Verdict, left_by, reply_by}
use Rattle.ctl_node_side.specs.Ordering.{orders_of}
use Rattle.ctl_node_side.specs.Reporting.{report_after}
use Rattle.ctl_node_side.specs.Restarting.{met}
use Rattle.ctl_core.specs.Sizes.{size_of}
use Rattle.ctl_core.specs.Step.{entered, is_entered, raised, verdict_of}
use Rattle.node_daemon.specs.Daemon.{Daemon}
use Rattle.node_daemon.specs.Turn.{root}
use Rattle.daemon_world.specs.Together.{HeardBefore, InStep, IsUpTo, Tells, kept_of, tells_over}
use Rattle.daemon_world.specs.Worlds.{with_reply}
use Rattle.daemon_world.proofs.Accepting.{Comes, Lower, accepts_on, answers}
use Rattle.daemon_world.proofs.Delivering.{IsAccepted, comes}
use Rattle.daemon_world.proofs.LeftAlone.{left_on, left_same}
use Rattle.daemon_world.proofs.Numbers.{other_name}
use Rattle.daemon_world.proofs.Others.{others_left}
use Rattle.daemon_world.proofs.Sending.{more_orders}
use Rattle.ctl_reconfigure.proofs.NameLists.{bytes-same as same_name}

-- the state and the orders that a verdict on a report leaves
abbrev pub left : State → ℕ → Report → Verdict → State
left s now report verdict =
    if is_entered (reply_by verdict)
    then entered (raised s now) (size_of (Reports report)) (left_by s verdict)
    else s

-- what a report that was sent is to its daemon
came : (s : State) (now : ℕ) (reports : List Report) (orders : List Orders) (daemons : List ℕ → Daemon)
    (report : Report) (verdict : Verdict) → IsSound s → Contains reports report
    → ((node : List ℕ) → InStep s reports orders node (daemons node)) → (accepted : IsAccepted s now report verdict)
    → Comes s reports orders (daemons report.node) report accepted.place (raised s now)
came s now reports orders daemons report verdict sound sent each accepted =
    let daemon = daemons report.node in
    let node = report.node in
    let step = each node in
    let kept = kept_of s node in
    record {
      step = step;
      sound = sound;
      raised = omega arith;
      in_time = omega (arith, sound.moment, accepted.in_time);
      there = accepted.node;
      news = accepted.news;
      sent = All-contains (λ (one : Report). one.node ≡ node → IsUpTo one.boot one.number daemon.boot daemon.number)
          reports report step.sent sent refl;
      tells = λ life. All-contains (λ (one : Report). one.node ≡ node → HeardBefore kept one.boot one.number
          → one.boot ≡ daemon.boot → Tells one daemon) reports report step.told sent refl accepted.news life;
      parted = All-contains (λ (one : Report). one.node ≡ node
          → All (λ start. tells_over one start ≡ false) one.running) reports report step.parted sent refl;
    }

-- an accepted report keeps each daemon in step
each-accepted : Lower → (s : State) (now : ℕ) (reports : List Report) (orders : List Orders)
    (daemons : List ℕ → Daemon) (report : Report) (verdict : Verdict) (node : List ℕ) → IsSound s
    → Contains reports report → ((node : List ℕ) → InStep s reports orders node (daemons node))
    → (accepted : IsAccepted s now report verdict)
    → InStep (report_after (met s (raised s now) accepted.place report) (raised s now) accepted.place report) reports
    (orders_of (met s (raised s now) accepted.place report).jobs (raised s now) accepted.place report ∷ orders) node
    (daemons node)
each-accepted lower s now reports orders daemons report verdict node sound sent each accepted =
    let moment = raised s now in
    let place = accepted.place in
    let s' = report_after (met s moment place report) moment place report in
    let more = orders_of (met s moment place report).jobs moment place report in
    elim (cases_Bool (bytes_eq report.node node)) [
      | inl own ↦
          subst (λ (name : List ℕ). InStep s' reports (more ∷ orders) name (daemons name))
          (same_name report.node node own)
          (accepts_on lower s reports orders (daemons report.node) report place moment
          (came s now reports orders daemons report verdict sound sent each accepted))
      | inr others ↦
          let differ = other_name report.node node others in
          more_orders s' reports orders node (daemons node) more
          (λ is. differ (sym (answers s moment place report).node ∙ is))
          (left_on s s' reports orders node (daemons node)
          (others_left lower s moment place report node differ accepted.node) (each node))
    ]

each-reported : Lower → (s : State) (now : ℕ) (reports : List Report) (orders : List Orders)
    (daemons : List ℕ → Daemon) (report : Report) (verdict : Verdict) (node : List ℕ) → IsSound s
    → Contains reports report → ((node : List ℕ) → InStep s reports orders node (daemons node))
    → IsAccepted s now report verdict
    → InStep (left s now report verdict) reports (with_reply (reply_by verdict) orders) node (daemons node)
each-reported lower s now reports orders daemons report verdict node sound sent each accepted =
    let moment = raised s now in
    let place = accepted.place in
    let s' = report_after (met s moment place report) moment place report in
    let more = orders_of (met s moment place report).jobs moment place report in
    subst (λ (verdict : Verdict). InStep (left s now report verdict) reports (with_reply (reply_by verdict) orders) node
    (daemons node)) (sym accepted.is)
    (left_on s' (entered moment (size_of (Reports report)) s') reports (more ∷ orders) node (daemons node)
    (left_same s' (entered moment (size_of (Reports report)) s') node refl refl refl)
    (each-accepted lower s now reports orders daemons report verdict node sound sent each accepted))

pub reports_on : Lower → (s : State) (now : ℕ) (reports : List Report) (orders : List Orders)
    (daemons : List ℕ → Daemon) (report : Report) (node : List ℕ) → IsSound s
    → Contains reports report → ((node : List ℕ) → InStep s reports orders node (daemons node))
    → InStep (left s now report (verdict_of s now root (Reports report))) reports
    (with_reply (reply_by (verdict_of s now root (Reports report))) orders) node (daemons node)
reports_on lower s now reports orders daemons report node sound sent each =
    let verdict = verdict_of s now root (Reports report) in
    elim (comes s now root report) [
      | inl refused ↦
          subst (λ (verdict : Verdict). InStep (left s now report verdict) reports
          (with_reply (reply_by verdict) orders) node (daemons node)) (sym refused.1) (each node)
      | inr accepted ↦
          each-reported lower s now reports orders daemons report verdict node sound sent each accepted
    ]
