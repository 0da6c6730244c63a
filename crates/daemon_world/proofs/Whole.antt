-- Each event keeps all together, and so do all events.
use Rattle.std.proofs.Common.{ℕ, zero, suc, ◌≡◌, ◌<◌, ◌∙◌, true, List, [], ◌∷◌, ◌++◌, Contains, Some, None, Option, option_map, bytes_eq, map, refl, sym, ap, subst, arith}
use Rattle.std.proofs.lemmas.Bool.{cond_both}
use Rattle.std.proofs.lemmas.List.Elements.{All-contains}
use Rattle.plain_data.specs.Assocs.{AssocView}
use Rattle.plain_data.specs.Confs.{ConfView}
use Rattle.plain_data.specs.declared.conf.NodeConf.{NodeConf}
use Rattle.reply_data.specs.declared.orders.Orders.{Orders}
use Rattle.request_data.specs.declared.report.Done.{Done}
use Rattle.request_data.specs.declared.report.Report.{Report}
use Rattle.request_data.specs.declared.request.Request.{Request}
use Rattle.request_data.specs.declared.request.Request.TheVariants.{Report as Reports}
use Rattle.node_state.specs.Laws.{PlacesAreNamed}
use Rattle.node_state.specs.Nodes.{opened, place_named}
use Rattle.ctl_state.specs.Soundness.{IsSound}
use Rattle.ctl_state.specs.State.{State, opening}
use Rattle.ctl_node_side.specs.Reporting.{heard_of}
use Rattle.ctl_core.specs.Step.{IsInRange, state_after}
use Rattle.node_daemon.specs.Daemon.{Daemon, are_due, given, polled, reported, started}
use Rattle.node_daemon.specs.declared.running.Running.{Running}
use Rattle.node_daemon.specs.Turn.{root}
use Rattle.daemon_world.specs.Claims.{claim_run, claims_of, claims_ordered}
use Rattle.daemon_world.specs.Together.{Fit, HeardSince, HeardUpTo, InStep, Together, kept_at, kept_of, pair_heard}
use Rattle.daemon_world.specs.Worlds.{AllCanHappen, CanHappen, Event, HasComeAbout, IsAtRest, IsNoReport, World, opening_world, with_daemon, world_after, world_after_all}
use Rattle.daemon_world.proofs.Accepting.{Lower}
use Rattle.daemon_world.proofs.Claimed.{fit_none}
use Rattle.daemon_world.proofs.LeftAlone.{left_on}
use Rattle.daemon_world.proofs.Numbers.{other_name}
use Rattle.daemon_world.proofs.Obeying.{obeys_on}
use Rattle.daemon_world.proofs.Polling.{polls_on, restarts_on}
use Rattle.daemon_world.proofs.Reporting.{reports_on}
use Rattle.daemon_world.proofs.Requests.{Passes, asked_leaves}
use Rattle.daemon_world.proofs.Sending.{more_reports}
use Rattle.ctl_reconfigure.proofs.NameLists.{bytes-same as same_name}

-- the daemon of the node has become another, the others are as they were
pub by_name : (P : List ℕ → Daemon → Type 0) (node : List ℕ) (daemon : Daemon) (daemons : List ℕ → Daemon)
    (other : List ℕ) → P node daemon → ((node ≡ other → ⊥) → P other (daemons other))
    → P other (with_daemon node daemon daemons other)
by_name P node daemon daemons other own others =
    cond_both (bytes_eq other node) daemon (daemons other) (P other)
    (λ is. subst (λ name. P name daemon) (sym (same_name other node is)) own)
    (λ differ. others (λ is. other_name other node differ (sym is)))

-- ---- what daemons do

pub polls_together : (w : World) (now : ℕ) (node : List ℕ) → Together w
    → Together (world_after w (Event.Polls now node))
polls_together w now node together =
    let daemon = w.daemons node in
    let after = polled now daemon in
    record {
      sound = together.sound;
      each = λ other. by_name (InStep w.state (reported after ∷ w.reports) w.orders) node after w.daemons other
          (polls_on now w.state w.reports w.orders node daemon (together.each node))
          (λ differ. more_reports w.state w.reports w.orders other (w.daemons other) (reported after)
          (λ is. differ (sym (together.each node).name ∙ is)) (together.each other));
    }

pub restarts_together : (w : World) (node : List ℕ) (boot : ℕ) → Together w → (w.daemons node).boot < boot
    → Together (world_after w (Event.Restarts node boot))
restarts_together w node boot together later = record {
  sound = together.sound;
  each = λ other. by_name (InStep w.state w.reports w.orders) node (started node boot) w.daemons other
      (restarts_on w.state w.reports w.orders node (w.daemons node) boot later (together.each node))
      (λ differ. together.each other);
}

pub orders_together : (w : World) (now : ℕ) (orders : Orders) → Together w → Contains w.orders orders
    → Together (world_after w (Event.OrdersCome now orders))
orders_together w now orders together sent =
    let node = orders.node in
    let daemon = w.daemons node in
    let step = together.each node in
    record {
      sound = together.sound;
      each = λ other. by_name (InStep w.state w.reports w.orders) node (given now orders daemon) w.daemons other
          (obeys_on now w.state w.reports w.orders node daemon orders refl step
          (All-contains (λ (one : Orders). are_due one daemon ≡ true
          → Fit w.state node (claims_of daemon ++ claims_ordered one) daemon.over) w.orders orders step.ordered sent)
          (All-contains (λ (one : Orders). one.node ≡ node → HeardSince (kept_of w.state node) one.boot one.number)
          w.orders orders step.answered sent)
          (λ nothing. All-contains (λ (one : Orders). are_due one daemon ≡ true → one.launches ≡ []) w.orders orders
          nothing.ordered sent))
          (λ differ. together.each other);
    }

-- ---- what comes to the controller

abbrev pub StepsKeep : Type 0
StepsKeep = (s : State) (now : ℕ) (user : List ℕ) (request : Request) → IsSound s → IsInRange request
    → IsSound (state_after s now user request)

pub report_together : Lower → StepsKeep → (w : World) (now : ℕ) (report : Report) → Together w
    → Contains w.reports report → Together (world_after w (Event.ReportComes now report))
report_together lower steps w now report together sent = record {
  sound = steps w.state now root (Reports report) together.sound tt;
  each = λ node. reports_on lower w.state now w.reports w.orders w.daemons report node together.sound sent
      together.each;
}

pub request_together : Passes → PlacesAreNamed → StepsKeep → (w : World) (now : ℕ) (user : List ℕ) (request : Request) → Together w
    → IsInRange request → IsNoReport request → Together (world_after w (Event.Asks now user request))
request_together passes law steps w now user request together ranges own = record {
  sound = steps w.state now user request together.sound ranges;
  each = λ node. left_on w.state (state_after w.state now user request) w.reports w.orders node (w.daemons node)
      (asked_leaves passes law w.state now user request node together.sound (together.each node).apart own)
      (together.each node);
}

-- ---- any event, and all of them

pub record Promises : Type 0 where
  pub lower : Lower
  pub passes : Passes
  pub steps : StepsKeep

pub event_together : Promises → (w : World) (event : Event) → Together w → CanHappen w event
    → Together (world_after w event)
event_together promises w (Event.Polls now node) together can = polls_together w now node together
event_together promises w (Event.ReportComes now report) together can =
    report_together promises.lower promises.steps w now report together can
event_together promises w (Event.OrdersCome now orders) together can = orders_together w now orders together can
event_together promises w (Event.Restarts node boot) together can = restarts_together w node boot together can
event_together promises w (Event.Asks now user request) together can =
    request_together promises.passes promises.lower.named promises.steps w now user request together can.0 can.1

abbrev pub EventsKeep : Type 0
EventsKeep = (w : World) (event : Event) → Together w → CanHappen w event → Together (world_after w event)

events-together : EventsKeep → (w : World) (events : List Event) → Together w → AllCanHappen w events
    → Together (world_after_all w events)
events-together keep w [] together can = together
events-together keep w (event ∷ later) together can =
    events-together keep (world_after w event) later (keep w event together can.0) can.1

-- ---- the opening

never-heard : (nodes : List NodeConf) (place : ℕ) → heard_of (map opened nodes) place ≡ None
never-heard [] place = refl
never-heard (node ∷ nodes) zero = refl
never-heard (node ∷ nodes) (suc place) = never-heard nodes place

none-kept : (conf : ConfView) (file : AssocView) (node : List ℕ) (found : Option ℕ)
    → kept_at (opening conf file) node found ≡ None
none-kept conf file node None = refl
none-kept conf file node (Some place) = ap (option_map pair_heard) (never-heard conf.nodes place)

fits-none : (s : State) (node : List ℕ) (daemon : Daemon) → IsAtRest node daemon
    → Fit s node (claims_of daemon) daemon.over
fits-none s node daemon rest =
    subst (λ (over : List Done). Fit s node (claims_of daemon) over) (sym rest.over)
    (subst (λ (running : List Running). Fit s node (map claim_run running) []) (sym rest.running) (fit_none s node))

opens : (conf : ConfView) (file : AssocView) (node : List ℕ) (daemon : Daemon) → IsAtRest node daemon
    → InStep (opening conf file) [] [] node daemon
opens conf file node daemon rest =
    let s = opening conf file in
    let kept : kept_of s node ≡ None = none-kept conf file node (place_named node s.nodes) in
    record {
      name = rest.named;
      apart = λ place there. refl;
      heard = subst (λ kept. HeardUpTo kept daemon.boot daemon.number) (sym kept) tt;
      sent = λ k d below. absurd (omega (arith, below));
      fresh = λ life. rest.running;
      fit = fits-none s node daemon rest;
      ordered = λ k d below. absurd (omega (arith, below));
      told = λ k d below. absurd (omega (arith, below));
      parted = λ k d below. absurd (omega (arith, below));
      answered = λ k d below. absurd (omega (arith, below));
      emptied = λ place there told. record {
        running = rest.running;
        ordered = λ k d below. absurd (omega (arith, below));
      };
    }

pub opening_together : (conf : ConfView) (file : AssocView) (daemons : List ℕ → Daemon)
    → ((node : List ℕ) → IsAtRest node (daemons node)) → IsSound (opening conf file)
    → Together (opening_world conf file daemons)
opening_together conf file daemons rest sound = record {
  sound = sound;
  each = λ node. opens conf file node (daemons node) (rest node);
}

pub came_together : EventsKeep → (w : World) → HasComeAbout w → Together w
came_together keep w came =
    let begin = opening_world came.conf came.file came.daemons in
    subst Together (sym came.is)
    (events-together keep begin came.events
    (opening_together came.conf came.file came.daemons came.at_rest came.sound) came.could)
