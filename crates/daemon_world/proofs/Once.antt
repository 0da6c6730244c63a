-- Over all events a start of a job ends once.
use Rattle.std.proofs.Common.{ℕ, ◌≡◌, ◌≤◌, ◌<◌, ◌+◌, ◌∙◌, List, [], ◌∷◌, length, get_or, All, Any, refl, sym, ap, subst, arith, inl, inr, ◌⊎◌}
use Rattle.std.proofs.lemmas.Bool.{cases_order}
use Rattle.std.proofs.lemmas.List.{get_or_default}
use Rattle.std.proofs.lemmas.List.Elements.{All-weaker}
use Rattle.request_data.specs.declared.request.Request.{Request}
use Rattle.request_data.specs.declared.request.Request.TheVariants.{Report as Reports}
use Rattle.job_table.specs.declared.record.JobRecord.{JobRecord}
use Rattle.job_table.specs.declared.change.Change.TheVariants.{Start}
use Rattle.job_table.specs.Changes.{changed}
use Rattle.ctl_state.specs.Soundness.{IsSound}
use Rattle.ctl_state.specs.State.{State}
use Rattle.ctl_core.specs.Step.{state_after}
use Rattle.node_daemon.specs.Turn.{root}
use Rattle.daemon_world.specs.Finals.{EndOnce, StaysSettled}
use Rattle.daemon_world.specs.Together.{Together}
use Rattle.daemon_world.specs.Worlds.{AllCanHappen, Event, HasComeAbout, World, opening_world, world_after, world_after_all}
use Rattle.daemon_world.proofs.Ending.{GoesOn, Lasts, step_goes}
use Rattle.daemon_world.proofs.Lists.{any_weaker}
use Rattle.daemon_world.proofs.Requests.{Passes}
use Rattle.daemon_world.proofs.Settling.{Settles, settled_on, settles_itself}
use Rattle.daemon_world.proofs.Whole.{EventsKeep, came_together, opening_together}

-- the same job later: it was started again, or its start is settled as it was
record IsLater (job after : JobRecord) : Type 0 where
  pub id : after.id ≡ job.id
  pub next : (job.starts < after.starts) ⊎ ((after.starts ≡ job.starts) × StaysSettled job.state after.state)

-- it was one of these jobs, or it is new
abbrev Was : List JobRecord → ℕ → JobRecord → Type 0
Was jobs next after = Any (λ (job : JobRecord). IsLater job after) jobs ⊎ (next ≤ after.id)

later-settles : (job middle after : JobRecord) → Settles middle after → IsLater job middle → IsLater job after
later-settles job middle after settles later = record {
  id = settles.id ∙ later.id;
  next = elim later.next [
    | inl again ↦ inl (omega (arith, again, settles.starts))
    | inr stays ↦
        inr (
          settles.starts ∙ stays.0,
          settled_on job.state middle.state after.state stays.1 settles.settled,
        )
  ];
}

later-starts : (size : ℕ) (job middle after : JobRecord) → size ≤ 1073742080 → middle.starts ≤ size
    → after.id ≡ middle.id → middle.starts < after.starts → IsLater job middle → IsLater job after
later-starts size job middle after small few id more later = record {
  id = id ∙ later.id;
  next = elim later.next [
    | inl again ↦ inl (omega (arith, again, more))
    | inr stays ↦ inl (omega (arith, more, stays.0))
  ];
}

was-lasts : (s : State) (jobs : List JobRecord) (next : ℕ) → s.size ≤ 1073742080 → next ≤ s.next_id
    → Lasts s (Was jobs next)
was-lasts s jobs next small behind = record {
  settles = λ job after settles was. elim was [
    | inl some ↦
        inl (any_weaker (λ old. IsLater old job) (λ old. IsLater old after) jobs
        (λ old later. later-settles old job after settles later) some)
    | inr new ↦ inr (omega (arith, new, settles.id))
  ];
  new = λ job above never. inr (omega (arith, above, behind));
  starts = λ job now parts names waits few was. elim was [
    | inl some ↦
        inl (any_weaker (λ old. IsLater old job) (λ old. IsLater old (changed (Start now parts names) job)) jobs
        (λ old later. later-starts s.size old job (changed (Start now parts names) job) small few refl
        (omega (arith, small, few)) later) some)
    | inr new ↦ inr (omega (arith, new))
  ];
}

few-lasts : (s : State) → Lasts s (λ (job : JobRecord). job.starts ≤ s.size + 1)
few-lasts s = record {
  settles = λ job after settles few. omega (arith, settles.starts, few);
  new = λ job above never. omega (arith, never);
  starts = λ job now parts names waits few had. omega (arith, few);
}

-- what holds of a world after one in which there were these jobs, and in which the next number was this
record Since (jobs : List JobRecord) (next : ℕ) (s : State) : Type 0 where
  pub few : All (λ (job : JobRecord). job.starts ≤ s.size) s.jobs
  pub all : All (Was jobs next) s.jobs
  pub next_id : next ≤ s.next_id

few-on : (s after : State) → All (λ (job : JobRecord). job.starts ≤ s.size) s.jobs
    → GoesOn s after (λ (job : JobRecord). job.starts ≤ s.size + 1)
    → All (λ (job : JobRecord). job.starts ≤ after.size) after.jobs
few-on s after few went = elim went.size [
  | inl same ↦
      subst (λ (jobs : List JobRecord). All (λ (job : JobRecord). job.starts ≤ after.size) jobs) (sym same)
      (All-weaker (λ (job : JobRecord). job.starts ≤ s.size) (λ (job : JobRecord). job.starts ≤ after.size)
      (λ job fewer. omega (arith, fewer, went.not_less)) s.jobs few)
  | inr grown ↦
      All-weaker (λ (job : JobRecord). job.starts ≤ s.size + 1) (λ (job : JobRecord). job.starts ≤ after.size)
      (λ job fewer. omega (arith, fewer, grown)) after.jobs went.all
]

step-since : Passes → (jobs : List JobRecord) (next : ℕ) (s : State) (now : ℕ) (user : List ℕ) (request : Request)
    → IsSound s → Since jobs next s → Since jobs next (state_after s now user request)
step-since passes jobs next s now user request sound since =
    let small : s.size ≤ 1073742080 = omega (arith, sound.size) in
    let went = step_goes passes s (Was jobs next) (was-lasts s jobs next small since.next_id) now user request sound
    since.all since.few in
    let had = All-weaker (λ (job : JobRecord). job.starts ≤ s.size) (λ (job : JobRecord). job.starts ≤ s.size + 1)
    (λ job fewer. omega (arith, fewer)) s.jobs since.few in
    record {
      few = few-on s (state_after s now user request) since.few
          (step_goes passes s (λ (job : JobRecord). job.starts ≤ s.size + 1) (few-lasts s) now user request sound had
          since.few);
      all = went.all;
      next_id = omega (arith, went.next, since.next_id);
    }

event-since : Passes → (jobs : List JobRecord) (next : ℕ) (w : World) (event : Event) → Together w
    → Since jobs next w.state → Since jobs next (world_after w event).state
event-since passes jobs next w (Event.Polls now node) together since = since
event-since passes jobs next w (Event.ReportComes now report) together since =
    step-since passes jobs next w.state now root (Reports report) together.sound since
event-since passes jobs next w (Event.OrdersCome now orders) together since = since
event-since passes jobs next w (Event.Restarts node boot) together since = since
event-since passes jobs next w (Event.Asks now user request) together since =
    step-since passes jobs next w.state now user request together.sound since

events-since : EventsKeep → Passes → (jobs : List JobRecord) (next : ℕ) (w : World) (events : List Event) → Together w
    → AllCanHappen w events → Since jobs next w.state → Since jobs next (world_after_all w events).state
events-since keep passes jobs next w [] together can since = since
events-since keep passes jobs next w (event ∷ later) together can since =
    events-since keep passes jobs next (world_after w event) later (keep w event together can.0) can.1
    (event-since passes jobs next w event together since)

-- each job is there since itself
since-itself : (s : State) → All (λ (job : JobRecord). job.starts ≤ s.size) s.jobs → Since s.jobs s.next_id s
since-itself s few = record {
  few = few;
  all = λ k d below.
      let job = get_or s.jobs k d in
      inl (
        k,
        job,
        below,
        get_or_default s.jobs k job d below,
        record { id = refl; next = inr (refl, (settles_itself job).settled) },
      );
  next_id = omega arith;
}

settled-since : (s : State) (after : JobRecord) (k : ℕ) (d : JobRecord) → IsSound s → k < length s.jobs
    → after.id ≡ (get_or s.jobs k d).id → after.starts ≡ (get_or s.jobs k d).starts → Was s.jobs s.next_id after
    → StaysSettled (get_or s.jobs k d).state after.state
settled-since s after k d sound below id starts (inr new) =
    absurd (omega (arith, new, id, sound.below_next k d below))
settled-since s after k d sound below id starts (inl (i, old, within, is, later)) =
    elim (cases_order i k) [
      | inl same ↦
          let this : old ≡ get_or s.jobs k d =
          sym is ∙ ap (λ (n : ℕ). get_or s.jobs n old) same ∙ get_or_default s.jobs k old d below in
          settled-by (subst (λ (job : JobRecord). IsLater job after) this later) starts
      | inr differ ↦ elim differ [
        | inl before ↦
            absurd (omega (
              arith,
              sound.rising i k old before below,
              ap (λ (job : JobRecord). job.id) is,
              ap (λ (job : JobRecord). job.id) (get_or_default s.jobs k old d below),
              later.id,
              id,
            ))
        | inr behind ↦
            absurd (omega (
              arith,
              sound.rising k i old behind within,
              ap (λ (job : JobRecord). job.id) is,
              ap (λ (job : JobRecord). job.id) (get_or_default s.jobs k old d below),
              later.id,
              id,
            ))
      ]
    ]
  where
    settled-by : {job : JobRecord} → IsLater job after → after.starts ≡ job.starts
        → StaysSettled job.state after.state
    settled-by later starts = elim later.next [
      | inl again ↦ absurd (omega (arith, again, starts))
      | inr stays ↦ stays.1
    ]

-- the jobs of a world that has come about were started no more often than its size
few-starts : EventsKeep → Passes → (w : World) → HasComeAbout w
    → All (λ (job : JobRecord). job.starts ≤ w.state.size) w.state.jobs
few-starts keep passes w came =
    let begin = opening_world came.conf came.file came.daemons in
    let opens = opening_together came.conf came.file came.daemons came.at_rest came.sound in
    let nothing : Since [] 0 begin.state = record {
      few = λ k d below. absurd (omega (arith, below));
      all = λ k d below. absurd (omega (arith, below));
      next_id = omega arith;
    } in
    let since = events-since keep passes [] 0 begin came.events opens came.could nothing in
    subst (λ (w : World). All (λ (job : JobRecord). job.starts ≤ w.state.size) w.state.jobs) (sym came.is) since.few

pub starts_end : EventsKeep → Passes → (w : World) (events : List Event) → HasComeAbout w → AllCanHappen w events
    → EndOnce w.state (world_after_all w events).state
starts_end keep passes w events came can =
    let together = came_together keep w came in
    let since = events-since keep passes w.state.jobs w.state.next_id w events together can
    (since-itself w.state (few-starts keep passes w came)) in
    λ k d below j e within id starts.
    settled-since w.state (get_or (world_after_all w events).state.jobs j e) k d together.sound below id starts
    (since.all j e within)
