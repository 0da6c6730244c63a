-- What comes of a report at the controller: it is refused, or it is worked and answered by orders.
use Rattle.std.proofs.Common.{ℕ, ◌≡◌, ◌≤◌, ◌∙◌, Bool, true, false, not, ◌&&◌, ◌||◌, nat_eq, List, [], ◌∷◌, Option, Some, None, is_none, option_and_then, option_map, refl, sym, ap, subst, arith, inl, inr, ◌⊎◌}
use Rattle.std.specs.Prelude.{nat_lt}
use Rattle.std.proofs.lemmas.Bool.{and_parts, eqb-true, ltb-false, ltb-true, or_cases}
use Rattle.reply_data.specs.declared.refusal.Refusal.{Refusal}
use Rattle.reply_data.specs.declared.refusal.Refusal.TheVariants.{AccessDenied, HistoryFull, MomentTooLarge, ShuttingDown, StaleReport, UnknownNode}
use Rattle.reply_data.specs.declared.reply.Reply.TheVariants.{Orders as Ordered}
use Rattle.request_data.specs.declared.report.Heard.{Heard}
use Rattle.request_data.specs.declared.report.Report.{Report}
use Rattle.request_data.specs.declared.request.Request.TheVariants.{Report as Reports}
use Rattle.node_state.specs.Nodes.{place_named}
use Rattle.ctl_state.specs.State.{State, last_moment}
use Rattle.ctl_state.specs.Refusals.{first_refusal, is_privileged, refused_if, unless_refused}
use Rattle.ctl_state.specs.Verdicts.{Verdict, Refuses, Makes}
use Rattle.ctl_node_side.specs.Answering.{last_heard, node_of, staleness}
use Rattle.ctl_node_side.specs.Ordering.{orders_of}
use Rattle.ctl_node_side.specs.Reporting.{heard_of, is_after, report_after}
use Rattle.ctl_node_side.specs.Restarting.{made_by_report, met}
use Rattle.ctl_core.specs.Sizes.{has_room}
use Rattle.ctl_core.specs.Step.{is_closed, raised, unless_full, verdict_of, worked}
use Rattle.daemon_world.specs.Together.{HeardBefore, IsAfter, kept_of, pair_heard}
use Rattle.daemon_world.proofs.LeftAlone.{kept_there}

-- the report is accepted, of the node at a place
pub record IsAccepted (s : State) (now : ℕ) (report : Report) (verdict : Verdict) : Type 0 where
  pub place : ℕ
  pub node : place_named report.node s.nodes ≡ Some place
  pub news : HeardBefore (kept_of s report.node) report.boot report.number
  pub in_time : now ≤ last_moment
  pub is : verdict
      ≡ Makes (Ordered (orders_of (met s (raised s now) place report).jobs (raised s now) place report))
      (report_after (met s (raised s now) place report) (raised s now) place report)

-- it is refused, or accepted
abbrev pub Comes : State → ℕ → Report → Verdict → Type 0
Comes s now report verdict = ((refusal : Refusal) × (verdict ≡ Refuses refusal)) ⊎ IsAccepted s now report verdict

-- no staleness: it comes after the last one
by-tests : (boot number boot' number' : ℕ)
    → (nat_lt boot boot' || (nat_eq boot boot' && nat_lt number number')) ≡ true → IsAfter boot' number' boot number
by-tests boot number boot' number' is =
    elim (or_cases (nat_lt boot boot') (nat_eq boot boot' && nat_lt number number') is) [
      | inl later ↦
          let life = ltb-true boot boot' later in
          record { boot = omega (arith, life); number = λ same. absurd (omega (arith, life, same)) }
      | inr same ↦
          let each = and_parts (nat_eq boot boot') (nat_lt number number') same in
          let boots = eqb-true boot boot' each.0 in
          let numbers = ltb-true number number' each.1 in
          record { boot = omega (arith, boots); number = λ is. numbers }
    ]

unless-stale : (after : Bool) (refusal : Refusal) → refused_if (not after) refusal ≡ None → after ≡ true
unless-stale true refusal none = refl
unless-stale false refusal none = absurd (let never = none in cc)

fresh-news : (report : Report) (kept : Option Heard) → staleness report kept ≡ None
    → HeardBefore (option_map pair_heard kept) report.boot report.number
fresh-news report None none = tt
fresh-news report (Some heard) none =
    by-tests heard.boot heard.number report.boot report.number
    (unless-stale (is_after heard report) (StaleReport heard.boot heard.number) none)

news-of : (s : State) (report : Report) (place : ℕ) → place_named report.node s.nodes ≡ Some place
    → staleness report (last_heard s report) ≡ None → HeardBefore (kept_of s report.node) report.boot report.number
news-of s report place there none =
    let last = ap (option_and_then (heard_of s.nodes)) there in
    subst (λ kept. HeardBefore kept report.boot report.number)
    (ap (option_map pair_heard) last ∙ sym (kept_there s report.node place there))
    (fresh-news report (last_heard s report) none)

-- by why it may be refused, and whether there is room
by-parts : (s : State) (now : ℕ) (report : Report) (denied : Bool) (found : Option ℕ) (stale : Option Refusal)
    (room : Bool) → now ≤ last_moment → place_named report.node s.nodes ≡ found
    → staleness report (last_heard s report) ≡ stale
    → Comes s now report
    (unless_refused (first_refusal
    (refused_if denied AccessDenied ∷ refused_if (is_none found) UnknownNode ∷ stale ∷ []))
    (unless_full room (made_by_report s (raised s now) report found)))
by-parts s now report true found stale room in_time is news = inl (AccessDenied, refl)
by-parts s now report false None stale room in_time is news = inl (UnknownNode, refl)
by-parts s now report false (Some place) (Some refusal) room in_time is news = inl (refusal, refl)
by-parts s now report false (Some place) None false in_time is news = inl (HistoryFull, refl)
by-parts s now report false (Some place) None true in_time is news =
    inr (record {
      place = place;
      node = is;
      news = news-of s report place is news;
      in_time = in_time;
      is = refl;
    })

by-early : (s : State) (now : ℕ) (user : List ℕ) (report : Report) (early closed : Bool)
    → nat_lt last_moment now ≡ early
    → Comes s now report
    (unless_refused (first_refusal (refused_if early MomentTooLarge ∷ refused_if closed ShuttingDown ∷ []))
    (worked s (raised s now) user (Reports report)))
by-early s now user report true closed is = inl (MomentTooLarge, refl)
by-early s now user report false true is = inl (ShuttingDown, refl)
by-early s now user report false false is =
    by-parts s now report (not (is_privileged s user)) (node_of s report) (staleness report (last_heard s report))
    (has_room s (Reports report)) (ltb-false last_moment now is) refl refl

pub comes : (s : State) (now : ℕ) (user : List ℕ) (report : Report)
    → Comes s now report (verdict_of s now user (Reports report))
comes s now user report =
    by-early s now user report (nat_lt last_moment now) (is_closed s (Reports report)) refl
