-- A pass at a desk, from when the desk is made with it until the desk gives it back.
use Rattle.std.proofs.Common.{true, ◌≡◌, ◌==◌, ◌∙◌, ℕ, List, [], ◌∷◌, ◌++◌, length, take, drop, Option, Some, None, IfSome, refl, sym, ap, subst, arith, length-append, append_assoc}
use Rattle.std.proofs.lemmas.List.{take-append-drop}
use Rattle.std.proofs.lemmas.List.Elements.{filter-append}
use Rattle.atomic_table.specs.Seated.{TableId}
use Rattle.turn_lock.specs.Passes.{IsKnown, SeesMore}
use Rattle.ctl_state.specs.State.{State}
use Rattle.ctl_desk.specs.declared.entry.Entry.{Entry}
use Rattle.ctl_desk.specs.Desk.{Sight, GoesOn, history_of, later, seen}
use Rattle.ctl_desk.specs.History.{BookState, History, of_session, present}
use Rattle.ctl_server.specs.Locked.{BookView, LockedSeat, sight_at, sight_by, sight_there}
use Rattle.ctl_server.specs.Parts.{BeganWith, HasSeenShut, seen_by}

-- What is known of a pass that comes back from a desk.
pub record Sat (pass pass' : BookView) (desk desk' : Sight) : Type 0 where
  pub own : pass'.lock ≡ pass.lock
  pub number_is : desk.number ≡ pass'.number
  pub opening_is : desk'.opening ≡ desk.opening
  pub seen_is : seen desk' ≡ pass'.seen
  pub unmade : pass.mine ≡ [] → of_session pass'.number (seen desk) ≡ []

none_in_front : {X : Type 0} (xs ys : List X) → xs ++ ys ≡ ys → xs ≡ []
none_in_front [] ys same = refl
none_in_front (x ∷ xs) ys same =
    let long : length ((x ∷ xs) ++ ys) ≡ length ys = ap (λ (all : List _). length all) same in
    let sum = length-append (x ∷ xs) ys in absurd (omega arith)

sat_by : (pass pass' : BookView) (opening opening' : State) (before before' : ℕ) (at : Option BookView) (sight : Sight)
    → IfSome at (λ now. SeesMore pass now) → GoesOn (sight_at opening before at) sight
    → sight ≡ sight_by opening' before' pass' → IsKnown (λ (entry : Entry). entry.session) pass'
    → Sat pass pass' (sight_at opening before at) sight
sat_by pass pass' opening opening' before before' None sight sees goes is known =
    let lock : None ≡ Some pass'.lock = ap (λ (s : Sight). s.lock) (sym goes.1 ∙ is) in absurd (cc)
sat_by pass pass' opening opening' before before' (Some now) sight sees goes is known =
    let more = goes.0 in
    let whole : sight_by opening' before' pass' ≡ later (sight_by opening before now) more = sym is ∙ goes.1 in
    let lock : Some pass'.lock ≡ Some now.lock = ap (λ (s : Sight). s.lock) whole in
    let lock_is : pass'.lock ≡ now.lock = cc in
    let number : pass'.number ≡ now.number = ap (λ (s : Sight). s.number) whole in
    let seen_now : seen sight ≡ pass'.seen = ap (λ (s : Sight). seen s) is ∙ take-append-drop before' pass'.seen in
    let grown : pass'.seen ≡ seen (sight_by opening before now) ++ more =
    sym seen_now ∙ ap (λ (s : Sight). seen s) goes.1
    ∙ sym (append_assoc (take before now.seen) (drop before now.seen) more) in record {
      own = lock_is ∙ ap (λ (p : BookView). p.lock) sees.same;
      number_is = sym number;
      opening_is = ap (λ (s : Sight). s.opening) goes.1;
      seen_is = seen_now;
      unmade = λ mine.
          let made : pass'.mine ≡ now.mine ++ of_session now.number more = ap (λ (s : Sight). s.mine) whole in
          let before_none : now.mine ≡ [] = ap (λ (p : BookView). p.mine) sees.same ∙ mine in
          let made_is : pass'.mine ≡ of_session pass'.number more =
          made ∙ (ap (λ (es : List Entry). es ++ of_session now.number more) before_none
          ∙ ap (λ (n : ℕ). of_session n more) (sym number)) in
          let all : pass'.mine ≡ of_session pass'.number (seen (sight_by opening before now)) ++ of_session pass'.number more =
          known.mine ∙ (ap (λ (es : List Entry). of_session pass'.number es) grown
          ∙ filter-append (λ (e : Entry). e.session == pass'.number) (seen (sight_by opening before now)) more) in
          none_in_front (of_session pass'.number (seen (sight_by opening before now))) (of_session pass'.number more)
          (sym all ∙ made_is);
    }

pub sat : (pass pass' : BookView) (desk desk' : LockedSeat) → IfSome desk.pass (λ now. SeesMore pass now)
    → GoesOn (sight_there desk) (sight_there desk') → desk'.pass ≡ Some pass'
    → IsKnown (λ (entry : Entry). entry.session) pass' → Sat pass pass' (sight_there desk) (sight_there desk')
sat pass pass' desk desk' sees goes back known =
    sat_by pass pass' desk.opening desk'.opening desk.before desk'.before desk.pass (sight_there desk') sees goes
    (ap (sight_at desk'.opening desk'.before) back) known

-- the desk begins with the book's opening
pub opened : (opening : State) (pass : BookView) (desk : State) → BeganWith opening pass
    → IfSome pass.first (λ first. desk ≡ first.opening) → desk ≡ opening
opened opening pass desk began opens =
    subst (λ (o : Option BookState). IfSome o (λ first. desk ≡ first.opening)) began.1 opens ∙ began.2

-- the history that it has seen in the end, by the pass
pub seen_history : (opening : State) (pass pass' : BookView) (desk desk' : Sight) → Sat pass pass' desk desk'
    → desk.opening ≡ opening → history_of desk' ≡ seen_by opening pass'
seen_history opening pass pass' desk desk' sat opens =
    λ i. record { opening = (sat.opening_is ∙ opens) i; entries = sat.seen_is i }

-- it is a pass of the same lock
pub came_back : (lock : TableId) (pass pass' : BookView) (desk desk' : LockedSeat) → pass.lock ≡ lock
    → IfSome desk.pass (λ now. SeesMore pass now) → GoesOn (sight_there desk) (sight_there desk')
    → desk'.pass ≡ Some pass' → IsKnown (λ (entry : Entry). entry.session) pass' → pass'.lock ≡ lock
came_back lock pass pass' desk desk' own sees goes back known = (sat pass pass' desk desk' sees goes back known).own ∙ own

there : (opening : State) (before : ℕ) (at : Option BookView) → (sight_at opening before at).opening ≡ opening
there opening before None = refl
there opening before (Some pass) = refl

-- it has seen the shutdown that its desk has seen
pub saw_shut : (opening : State) (pass pass' : BookView) (desk desk' : LockedSeat) → BeganWith opening pass
    → IfSome desk.pass (λ now. SeesMore pass now) → IfSome pass.first (λ first. desk.opening ≡ first.opening)
    → GoesOn (sight_there desk) (sight_there desk') → desk'.pass ≡ Some pass'
    → IsKnown (λ (entry : Entry). entry.session) pass'
    → (present (history_of (sight_there desk'))).is_shut ≡ true → HasSeenShut opening pass'
saw_shut opening pass pass' desk desk' began sees opens goes back known shut =
    let sits = sat pass pass' desk desk' sees goes back known in
    let from = there desk.opening desk.before desk.pass ∙ opened opening pass desk.opening began opens in
    subst (λ (h : History). (present h).is_shut ≡ true)
    (seen_history opening pass pass' (sight_there desk) (sight_there desk') sits from) shut
