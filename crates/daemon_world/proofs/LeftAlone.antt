-- Where a step of the controller leaves a node's side alone, its daemon stays in step.
use Rattle.std.proofs.Common.{ℕ, ◌≡◌, ◌∙◌, true, List, [], ◌++◌, map, get_or, All, Option, Some, None, refl, sym, ap, ap₂, subst, inl, inr, option_map}
use Rattle.std.proofs.lemmas.List.Elements.{All-nil, All-weaker}
use Rattle.reply_data.specs.declared.orders.Launch.{Launch}
use Rattle.reply_data.specs.declared.orders.Orders.{Orders}
use Rattle.request_data.specs.declared.report.Done.{Done}
use Rattle.request_data.specs.declared.report.Report.{Report}
use Rattle.node_state.specs.declared.record.DroppedNode.{DroppedNode}
use Rattle.node_state.specs.declared.record.NodeRecord.{NodeRecord}
use Rattle.node_state.specs.Nodes.{place_named}
use Rattle.node_state.specs.Renewing.{dropped_named}
use Rattle.job_table.specs.declared.record.JobRecord.{JobRecord}
use Rattle.ctl_state.specs.Planning.{is_at}
use Rattle.ctl_state.specs.Soundness.{is_up_at}
use Rattle.ctl_state.specs.State.{State}
use Rattle.ctl_node_side.specs.Reporting.{heard_of}
use Rattle.node_daemon.specs.Daemon.{Daemon}
use Rattle.node_daemon.specs.declared.running.Running.{Running}
use Rattle.daemon_world.specs.Claims.{Claim, IsHeldAt, claim_launch, claim_run, claims_of, claims_ordered}
use Rattle.daemon_world.specs.Leaving.{LeavesNode, LeavesPlace, WasEmptied}
use Rattle.daemon_world.specs.Together.{Fit, HeardBefore, HeardNoLife, HeardSince, HeardUpTo, InStep, is_emptied, kept_at, kept_of, pair_dropped, pair_heard}
use Rattle.daemon_world.proofs.Numbers.{due}

-- a step that leaves the node its place leaves its side alone
kept-placed : (s s' : State) (node : List ℕ) → LeavesPlace s s' node → (found : Option ℕ)
    → place_named node s.nodes ≡ found → kept_at s' node found ≡ kept_at s node found
kept-placed s s' node leaves None is =
    ap (λ (gone : List DroppedNode). option_map pair_dropped (dropped_named node gone)) leaves.dropped
kept-placed s s' node leaves (Some place) is = ap (option_map pair_heard) (leaves.heard place is)

pub kept_there : (s : State) (node : List ℕ) (place : ℕ) → place_named node s.nodes ≡ Some place
    → kept_of s node ≡ option_map pair_heard (heard_of s.nodes place)
kept_there s node place there = ap (kept_at s node) there

pub placed : (s s' : State) (node : List ℕ) → LeavesPlace s s' node → LeavesNode s s' node
placed s s' node leaves = record {
  apart = λ apart place there.
      ap (dropped_named node) leaves.dropped ∙ apart place (sym leaves.place ∙ there);
  kept = ap (kept_at s' node) leaves.place ∙ kept-placed s s' node leaves (place_named node s.nodes) refl;
  held = λ place is up.
      let there = sym leaves.place ∙ is in
      elim (leaves.held place there up) [
        | inl stays ↦ inl (record { place = place; there = there; up = stays.0; held = stays.1 })
        | inr nothing ↦ elim nothing [
          | inl never ↦ inr (inl (kept_there s node place there ∙ ap (option_map pair_heard) never))
          | inr emptied ↦ inr (inr (record { place = place; there = there; emptied = emptied }))
        ]
      ];
  emptied = λ place is told.
      let there = sym leaves.place ∙ is in
      record { place = place; there = there; emptied = leaves.emptied place there told };
}

-- one step after another
pub leaves_on : (s t u : State) (node : List ℕ) → LeavesNode s t node → LeavesNode t u node → LeavesNode s u node
leaves_on s t u node one two = record {
  apart = λ apart. two.apart (one.apart apart);
  kept = two.kept ∙ one.kept;
  held = λ place is up. elim (two.held place is up) [
    | inl later ↦ elim (one.held later.place later.there later.up) [
      | inl first ↦
          inl (record {
            place = first.place;
            there = first.there;
            up = first.up;
            held = λ claim holds. later.held claim (first.held claim holds);
          })
      | inr nothing ↦ inr nothing
    ]
    | inr nothing ↦ elim nothing [
      | inl never ↦ inr (inl (sym one.kept ∙ never))
      | inr emptied ↦ inr (inr (one.emptied emptied.place emptied.there emptied.emptied))
    ]
  ];
  emptied = λ place is told.
      let later = two.emptied place is told in one.emptied later.place later.there later.emptied;
}

-- what fits goes on fitting, where nothing is claimed of a node that was never heard or was emptied
fit-on : (s s' : State) (node : List ℕ) (claims : List Claim) (over : List Done) → LeavesNode s s' node
    → Fit s node claims over → (kept_of s node ≡ None → claims ≡ []) → (WasEmptied s node → claims ≡ [])
    → Fit s' node claims over
fit-on s s' node claims over leaves fit never gone = record {
  apart = fit.apart;
  held = λ place is up.
      let Held = IsHeldAt s'.jobs place in
      elim (leaves.held place is up) [
        | inl stays ↦
            All-weaker (IsHeldAt s.jobs stays.place) Held stays.held claims
            (fit.held stays.place stays.there stays.up)
        | inr nothing ↦ elim nothing [
          | inl unheard ↦ subst (All Held) (sym (never unheard)) (All-nil Held)
          | inr emptied ↦ subst (All Held) (sym (gone emptied)) (All-nil Held)
        ]
      ];
  once = fit.once;
}

no-claims : (daemon : Daemon) → daemon.running ≡ [] → claims_of daemon ≡ []
no-claims daemon none = ap (map claim_run) none

no-claims-ordered : (daemon : Daemon) (one : Orders) → daemon.running ≡ [] → one.launches ≡ []
    → claims_of daemon ++ claims_ordered one ≡ []
no-claims-ordered daemon one none no_more =
    ap₂ (λ (running : List Running) (launches : List Launch). map claim_run running ++ map claim_launch launches) none
    no_more

pub left_on : (s s' : State) (reports : List Report) (orders : List Orders) (node : List ℕ) (daemon : Daemon)
    → LeavesNode s s' node → InStep s reports orders node daemon → InStep s' reports orders node daemon
left_on s s' reports orders node daemon leaves step = record {
  name = step.name;
  apart = leaves.apart step.apart;
  heard = subst (λ kept. HeardUpTo kept daemon.boot daemon.number) (sym leaves.kept) step.heard;
  sent = step.sent;
  fresh = λ life. step.fresh (subst (λ kept. HeardNoLife kept daemon.boot) leaves.kept life);
  fit = fit-on s s' node (claims_of daemon) daemon.over leaves step.fit
      (λ never. no-claims daemon (step.fresh (subst (λ kept. HeardNoLife kept daemon.boot) (sym never) tt)))
      (λ was. no-claims daemon (step.emptied was.place was.there was.emptied).running);
  ordered = λ k d below is.
      let one = get_or orders k d in
      fit-on s s' node (claims_of daemon ++ claims_ordered one) daemon.over leaves (step.ordered k d below is)
      (λ never. absurd (subst (λ kept. HeardSince kept one.boot one.number) never
      (step.answered k d below (sym (due one daemon is).node ∙ step.name))))
      (λ was.
      let nothing = step.emptied was.place was.there was.emptied in
      no-claims-ordered daemon one nothing.running (nothing.ordered k d below is));
  told = λ k d below is before life.
      let one = get_or reports k d in
      step.told k d below is (subst (λ kept. HeardBefore kept one.boot one.number) leaves.kept before) life;
  parted = step.parted;
  answered = λ k d below is.
      let one = get_or orders k d in
      subst (λ kept. HeardSince kept one.boot one.number) (sym leaves.kept) (step.answered k d below is);
  emptied = λ place is told.
      let was = leaves.emptied place is told in step.emptied was.place was.there was.emptied;
}

-- the same jobs and nodes
same-up : (one other : List NodeRecord) (place : ℕ) → other ≡ one → is_up_at other place ≡ true
    → is_up_at one place ≡ true
same-up one other place is up = ap (λ nodes. is_up_at nodes place) (sym is) ∙ up

pub left_same : (s s' : State) (node : List ℕ) → s'.nodes ≡ s.nodes → s'.dropped ≡ s.dropped → s'.jobs ≡ s.jobs
    → LeavesNode s s' node
left_same s s' node nodes dropped jobs = placed s s' node (record {
  place = ap (place_named node) nodes;
  dropped = dropped;
  heard = λ place there. ap (λ (all : List NodeRecord). heard_of all place) nodes;
  held = λ place there up. inl (
    same-up s.nodes s'.nodes place nodes up,
    λ claim held. subst (λ (all : List JobRecord). IsHeldAt all place claim) (sym jobs) held,
  );
  emptied = λ place there told. ap (λ all. is_at is_emptied all place) (sym nodes) ∙ told;
})
