-- The rounds of a simulation are events of the world.
use Rattle.std.proofs.Common.{ℕ, zero, suc, ◌≡◌, ◌≢◌, ◌∙◌, false, List, [], ◌∷◌, ◌++◌, All, AllPairs, Some, bytes_eq, get_or, nat_eq, refl, sym, ap, subst, arith, inl, inr}
use Rattle.std.proofs.lemmas.Bool.{cases_Bool, false_from_ne_true}
use Rattle.std.proofs.lemmas.List.Elements.{All-cons, All-head, All-nil, All-tail}
use Rattle.std.proofs.lemmas.List.Kept.{AllPairs-cons}
use Rattle.reply_data.specs.declared.reply.Reply.{Reply}
use Rattle.reply_data.specs.declared.reply.Reply.TheVariants.{Orders as Ordered}
use Rattle.request_data.specs.declared.request.Request.TheVariants.{Pass}
use Rattle.ctl_state.specs.State.{State}
use Rattle.ctl_core.specs.Step.{reply_of, state_after}
use Rattle.node_daemon.specs.Daemon.{Daemon, polled}
use Rattle.node_daemon.specs.Turn.{after_reply, report_at, root}
use Rattle.simulation.specs.Simulation.{Simulated, behind, counted, daemon_behind_turn, daemons_behind_turns, jobs_asked, looked_at, passed, round, rounds, state_behind_turn, state_behind_turns, told, turned}
use Rattle.daemon_world.specs.Courses.{Comes, Shows}
use Rattle.daemon_world.specs.Turns.{Leads}
use Rattle.daemon_world.specs.Worlds.{AllCanHappen, Event, World, world_after, world_after_all}
use Rattle.daemon_world.proofs.Turns.{AreDueAnswers, reply_leads}
use Rattle.ctl_reconfigure.proofs.NameLists.{bytes-same as same_name}

-- ---- events one after the other

all-can : (w : World) (one other : List Event) → AllCanHappen w one → AllCanHappen (world_after_all w one) other
    → AllCanHappen w (one ++ other)
all-can w [] other first second = second
all-can w (event ∷ later) other first second = (first.0, all-can (world_after w event) later other first.1 second)

after-both : (w : World) (one other : List Event)
    → world_after_all w (one ++ other) ≡ world_after_all (world_after_all w one) other
after-both w [] other = refl
after-both w (event ∷ later) other = after-both (world_after w event) later other

-- ---- the turns of daemons

abbrev Differ : List Daemon → Type 0
Differ daemons = AllPairs (λ (one other : Daemon). one.node ≢ other.node) daemons

-- a turn leaves a daemon its node
after-node : (now : ℕ) (reply : Reply) (daemon : Daemon) → (after_reply now reply daemon).node ≡ daemon.node
after-node now (Ordered orders) daemon = refl
after-node now reply daemon = refl

turn-node : (now : ℕ) (s : State) (daemon : Daemon) → (daemon_behind_turn now s daemon).node ≡ daemon.node
turn-node now s daemon = after-node now (told now (report_at now daemon) s) (polled now daemon)

turns-all : (P : List ℕ → Type 0) (now : ℕ) (s : State) (daemons : List Daemon)
    → All (λ (daemon : Daemon). P daemon.node) daemons
    → All (λ (daemon : Daemon). P daemon.node) (daemons_behind_turns now s daemons)
turns-all P now s [] all = All-nil (λ (daemon : Daemon). P daemon.node)
turns-all P now s (daemon ∷ later) all =
    let Named = λ (daemon : Daemon). P daemon.node in
    let next = state_behind_turn now s daemon in
    All-cons Named (daemon_behind_turn now s daemon) (daemons_behind_turns now next later)
    (subst P (sym (turn-node now s daemon)) (All-head Named daemon later all))
    (turns-all P now next later (All-tail Named daemon later all))

turns-differ : (now : ℕ) (s : State) (daemons : List Daemon) → Differ daemons
    → Differ (daemons_behind_turns now s daemons)
turns-differ now s [] apart = apart
turns-differ now s (daemon ∷ later) apart =
    let next = state_behind_turn now s daemon in
    let first = daemon_behind_turn now s daemon in
    AllPairs-cons (λ (one other : Daemon). one.node ≢ other.node) first (daemons_behind_turns now next later)
    (subst (λ (name : List ℕ). All (λ (other : Daemon). name ≢ other.node) (daemons_behind_turns now next later))
    (sym (turn-node now s daemon))
    (turns-all (λ (name : List ℕ). daemon.node ≢ name) now next later
    (λ k d below. apart 0 (suc k) d (omega arith) (omega (arith, below)))))
    (turns-differ now next later
    (λ i j d low high. apart (suc i) (suc j) d (omega (arith, low)) (omega (arith, high))))

-- events that are the turns of these daemons: they lead to the state and to the daemons behind them
record Turned (w : World) (now : ℕ) (all : List Daemon) : Type 0 where
  pub events : List Event
  pub can : AllCanHappen w events
  pub state : (world_after_all w events).state ≡ state_behind_turns now w.state all
  pub daemons : All (λ (daemon : Daemon). (world_after_all w events).daemons daemon.node ≡ daemon)
      (daemons_behind_turns now w.state all)
  pub others : (name : List ℕ) → All (λ (daemon : Daemon). daemon.node ≢ name) all
      → (world_after_all w events).daemons name ≡ w.daemons name

other-name : (one other : List ℕ) → one ≢ other → bytes_eq other one ≡ false
other-name one other differ =
    false_from_ne_true (bytes_eq other one) (λ same. differ (sym (same_name other one same)))

one-turn : AreDueAnswers → (w : World) (now : ℕ) (daemon : Daemon) → w.daemons daemon.node ≡ daemon
    → Leads w daemon.node (state_behind_turn now w.state daemon) (daemon_behind_turn now w.state daemon)
unfolding behind told
one-turn due w now daemon same =
    let own = ap (λ (one : Daemon). one.node) same in
    let lead = reply_leads due w now daemon.node
    (reply_of w.state now root (report_at now (w.daemons daemon.node))) own refl in
    subst (λ (one : Daemon). Leads w daemon.node (state_after w.state now root (report_at now one))
    (after_reply now (reply_of w.state now root (report_at now one)) (polled now one))) same lead

turns-lead : AreDueAnswers → (w : World) (now : ℕ) (daemons : List Daemon)
    → All (λ (daemon : Daemon). w.daemons daemon.node ≡ daemon) daemons → Differ daemons → Turned w now daemons
turns-lead due w now [] same apart = record {
  events = [];
  can = tt;
  state = refl;
  daemons = All-nil (λ (daemon : Daemon). w.daemons daemon.node ≡ daemon);
  others = λ name all. refl;
}
turns-lead due w now (daemon ∷ later) same apart =
    let Same = λ (daemon : Daemon). w.daemons daemon.node ≡ daemon in
    let lead = one-turn due w now daemon (All-head Same daemon later same) in
    let middle = world_after_all w lead.events in
    let first = daemon_behind_turn now w.state daemon in
    let next = state_behind_turn now w.state daemon in
    let rest = turns-lead due middle now later
    (λ k d below. let other = get_or later k d in
    lead.others other.node
    (other-name daemon.node other.node (apart 0 (suc k) d (omega arith) (omega (arith, below))))
    ∙ All-tail Same daemon later same k d below)
    (λ i j d low high. apart (suc i) (suc j) d (omega (arith, low)) (omega (arith, high))) in
    let end = world_after_all middle rest.events in
    let both = after-both w lead.events rest.events in
    let here : end.daemons first.node ≡ first =
    subst (λ (name : List ℕ). end.daemons name ≡ first) (sym (turn-node now w.state daemon))
    (rest.others daemon.node
    (λ k d below same. apart 0 (suc k) d (omega arith) (omega (arith, below)) (sym same)) ∙ lead.daemon) in
    let There = λ (one : Daemon). end.daemons one.node ≡ one in
    record {
      events = lead.events ++ rest.events;
      can = all-can w lead.events rest.events lead.can rest.can;
      state = ap (λ (w : World). w.state) both ∙ rest.state
          ∙ ap (λ (s : State). state_behind_turns now s later) lead.state;
      daemons = subst (λ (w : World). All (λ (one : Daemon). w.daemons one.node ≡ one)
          (first ∷ daemons_behind_turns now next later)) (sym both)
          (All-cons There first (daemons_behind_turns now next later) here
          (subst (λ (s : State). All There (daemons_behind_turns now s later)) lead.state rest.daemons));
      others = λ name all.
          let Other = λ (daemon : Daemon). daemon.node ≢ name in
          ap (λ (w : World). w.daemons name) both
          ∙ rest.others name (All-tail Other daemon later all)
          ∙ lead.others name (other-name daemon.node name (All-head Other daemon later all));
    }

-- ---- rounds

comes-on : (w : World) (sim end : Simulated) → (one : Comes w sim) → Comes (world_after_all w one.events) end
    → Comes w end
comes-on w sim end one two = record {
  events = one.events ++ two.events;
  can = all-can w one.events two.events one.can two.can;
  shows = subst (λ (w : World). Shows w end) (sym (after-both w one.events two.events)) two.shows;
}

turns-come : AreDueAnswers → (w : World) (now : ℕ) (sim : Simulated) → Shows w sim → Comes w (turned now sim)
turns-come due w now sim shows =
    let turns = turns-lead due w now sim.daemons shows.daemons shows.apart in
    let end = world_after_all w turns.events in
    record {
      events = turns.events;
      can = turns.can;
      shows = record {
        state = turns.state ∙ ap (λ (s : State). state_behind_turns now s sim.daemons) shows.state;
        daemons = subst (λ (s : State). All (λ (daemon : Daemon). end.daemons daemon.node ≡ daemon)
            (daemons_behind_turns now s sim.daemons)) shows.state turns.daemons;
        apart = turns-differ now sim.state sim.daemons shows.apart;
      };
    }

asks-come : (w : World) (now : ℕ) (sim : Simulated) → Shows w sim → Comes w (looked_at now (passed now sim))
unfolding behind
asks-come w now sim shows = record {
  events = Event.Asks now root Pass ∷ Event.Asks now root jobs_asked ∷ [];
  can = ((tt, tt), ((tt, tt), tt));
  shows = record {
    state = ap (λ (s : State). state_after (state_after s now root Pass) now root jobs_asked) shows.state;
    daemons = shows.daemons;
    apart = shows.apart;
  };
}

round-comes : AreDueAnswers → (w : World) (sim : Simulated) → Shows w sim → Comes w (round sim)
unfolding round
round-comes due w sim shows =
    let now = counted sim.tally.moment 30 in
    let turns = turns-come due w now sim shows in
    comes-on w (turned now sim) (looked_at now (passed now (turned now sim))) turns
    (asks-come (world_after_all w turns.events) now (turned now sim) turns.shows)

pub rounds_come : AreDueAnswers → (w : World) (n : ℕ) (sim end : Simulated) → Shows w sim → rounds n sim ≡ Some end
    → Comes w end
rounds_come due w zero sim end shows is = absurd (cc)
rounds_come due w (suc n) sim end shows is =
    let first = round-comes due w sim shows in
    elim (cases_Bool (nat_eq (round sim).tally.left 0)) [
      | inl none ↦
          let last : Some (round sim) ≡ Some end = rw none at is in
          let same : round sim ≡ end = cc in
          subst (Comes w) same first
      | inr some ↦
          let later : rounds n (round sim) ≡ Some end = rw some at is in
          comes-on w (round sim) end first
          (rounds_come due (world_after_all w first.events) n (round sim) end first.shows later)
    ]
