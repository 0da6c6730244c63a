-- The last accepted report of a node never comes earlier than one before.
use Rattle.std.proofs.Common.{ℕ, ◌≡◌, List, [], ◌∷◌, bytes_eq, IfSome, Option, Some, None, refl, sym, subst, inl, inr}
use Rattle.std.proofs.lemmas.Bool.{cases_Bool}
use Rattle.request_data.specs.declared.report.Report.{Report}
use Rattle.request_data.specs.declared.request.Request.TheVariants.{Report as Reports}
use Rattle.ctl_state.specs.State.{State}
use Rattle.ctl_state.specs.Verdicts.{Verdict}
use Rattle.ctl_core.specs.Sizes.{size_of}
use Rattle.ctl_core.specs.Step.{entered, raised, state_after, verdict_of}
use Rattle.node_daemon.specs.Turn.{root}
use Rattle.daemon_world.specs.Together.{HeardBefore, HeardSince, KeptRises, Pair, Together, kept_of}
use Rattle.daemon_world.specs.Worlds.{AllCanHappen, CanHappen, Event, HasComeAbout, World, world_after, world_after_all}
use Rattle.daemon_world.proofs.Accepting.{Lower, after, kept_after}
use Rattle.daemon_world.proofs.Delivering.{IsAccepted, comes}
use Rattle.daemon_world.proofs.LeftAlone.{left_same}
use Rattle.daemon_world.proofs.Numbers.{after_up, other_name, same, up_to}
use Rattle.daemon_world.proofs.Others.{others_left}
use Rattle.daemon_world.proofs.Reporting.{left}
use Rattle.daemon_world.proofs.Requests.{asked_leaves}
use Rattle.daemon_world.proofs.Whole.{EventsKeep, Promises, came_together}
use Rattle.ctl_reconfigure.proofs.NameLists.{bytes-same as same_name}

-- ---- pairs

abbrev Rises : Option Pair → Option Pair → Type 0
Rises one other = IfSome one (λ pair. HeardSince other pair.boot pair.number)

rises-itself : (kept : Option Pair) → Rises kept kept
rises-itself None = tt
rises-itself (Some pair) = same pair.boot pair.number

rises-on : (one two three : Option Pair) → Rises one two → Rises two three → Rises one three
rises-on None two three first second = tt
rises-on (Some pair) None three first second = absurd first
rises-on (Some pair) (Some later) None first second = absurd second
rises-on (Some pair) (Some later) (Some last) first second =
    up_to pair.boot pair.number later.boot later.number last.boot last.number first second

rises-after : (kept : Option Pair) (last : Pair) → HeardBefore kept last.boot last.number → Rises kept (Some last)
rises-after None last before = tt
rises-after (Some pair) last before = after_up last.boot last.number pair.boot pair.number before

rises-same : (s s' : State) (node : List ℕ) → kept_of s' node ≡ kept_of s node → KeptRises s s' node
rises-same s s' node is = subst (Rises (kept_of s node)) (sym is) (rises-itself (kept_of s node))

-- ---- events

accepted-rises : Lower → (s : State) (now : ℕ) (report : Report) (verdict : Verdict) (node : List ℕ)
    → (accepted : IsAccepted s now report verdict)
    → KeptRises s (after s (raised s now) accepted.place report) node
accepted-rises lower s now report verdict node accepted =
    let moment = raised s now in
    let place = accepted.place in
    let s' = after s moment place report in
    elim (cases_Bool (bytes_eq report.node node)) [
      | inl own ↦
          subst (λ (name : List ℕ). KeptRises s s' name) (same_name report.node node own)
          (subst (Rises (kept_of s report.node)) (sym (kept_after lower s moment place report accepted.node))
          (rises-after (kept_of s report.node) (record { boot = report.boot; number = report.number }) accepted.news))
      | inr others ↦
          rises-same s s' node (others_left lower s moment place report node (other_name report.node node others)
          accepted.node).kept
    ]

report-rises : Lower → (s : State) (now : ℕ) (report : Report) (node : List ℕ)
    → KeptRises s (left s now report (verdict_of s now root (Reports report))) node
report-rises lower s now report node =
    let verdict = verdict_of s now root (Reports report) in
    elim (comes s now root report) [
      | inl refused ↦
          subst (λ (verdict : Verdict). KeptRises s (left s now report verdict) node) (sym refused.1)
          (rises-same s s node refl)
      | inr accepted ↦
          let told = after s (raised s now) accepted.place report in
          let stamped = entered (raised s now) (size_of (Reports report)) told in
          subst (λ (verdict : Verdict). KeptRises s (left s now report verdict) node) (sym accepted.is)
          (rises-on (kept_of s node) (kept_of told node) (kept_of stamped node)
          (accepted-rises lower s now report verdict node accepted)
          (rises-same told stamped node (left_same told stamped node refl refl refl).kept))
    ]

pub event_rises : Promises → (w : World) (event : Event) (node : List ℕ) → Together w → CanHappen w event
    → KeptRises w.state (world_after w event).state node
event_rises promises w (Event.Polls now other) node together can = rises-same w.state w.state node refl
event_rises promises w (Event.ReportComes now report) node together can =
    report-rises promises.lower w.state now report node
event_rises promises w (Event.OrdersCome now orders) node together can = rises-same w.state w.state node refl
event_rises promises w (Event.Restarts other boot) node together can = rises-same w.state w.state node refl
event_rises promises w (Event.Asks now user request) node together can =
    rises-same w.state (state_after w.state now user request) node
    (asked_leaves promises.passes promises.lower.named w.state now user request node together.sound
    (together.each node).apart can.1).kept

-- ---- all of them

abbrev pub EventsRise : Type 0
EventsRise = (w : World) (event : Event) (node : List ℕ) → Together w → CanHappen w event
    → KeptRises w.state (world_after w event).state node

events-rise : EventsKeep → EventsRise → (w : World) (events : List Event) (node : List ℕ) → Together w
    → AllCanHappen w events → KeptRises w.state (world_after_all w events).state node
events-rise keep rise w [] node together can = rises-same w.state w.state node refl
events-rise keep rise w (event ∷ later) node together can =
    rises-on (kept_of w.state node) (kept_of (world_after w event).state node)
    (kept_of (world_after_all w (event ∷ later)).state node) (rise w event node together can.0)
    (events-rise keep rise (world_after w event) later node (keep w event together can.0) can.1)

pub came_rise : EventsKeep → EventsRise → (w : World) (events : List Event) (node : List ℕ) → HasComeAbout w
    → AllCanHappen w events → KeptRises w.state (world_after_all w events).state node
came_rise keep rise w events node came can = events-rise keep rise w events node (came_together keep w came) can
