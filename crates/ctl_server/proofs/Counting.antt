-- What a turn counts, and that a desk goes on through it.
use Rattle.std.proofs.Common.{◌≡◌, ℕ, zero, ◌≤◌, Bool, true, List, [], ◌∷◌, ◌++◌, length, take, eqb, refl, sym, ap, ◌∙◌, subst, arith, Result, Ok, Err, OnErr, append-nil, append_assoc, length-append}
use Rattle.std.proofs.Math.Seq.{take-append_seam, take-length}
use Rattle.std.proofs.lemmas.List.{take_all}
use Rattle.std.proofs.lemmas.List.Elements.{filter-append}
use Rattle.request_data.specs.declared.request.Request.{Request}
use Rattle.resource_profile.specs.Counts.{IsTickedUpTo}
use Rattle.backfill_planner.specs.Plans.{PlannedView}
use Rattle.ctl_state.specs.Soundness.{IsSound}
use Rattle.ctl_state.specs.State.{State}
use Rattle.ctl_core.specs.Step.{IsHinted, input_at, is_entered, reply_of, steps_of}
use Rattle.ctl_desk.specs.declared.entry.Answer.{Answer}
use Rattle.ctl_desk.specs.declared.entry.Entry.{Entry}
use Rattle.ctl_desk.specs.Desk.{Sight, GoesOn, IsAnswered, history_of, later, seen, state_at}
use Rattle.ctl_desk.specs.History.{after_all, entry_of, IsHistory, of_session, present}
use Rattle.ctl_server.specs.Beside.{IsPlannedBeside, input_there}

abbrev pub OwnHintCountsNothing : Type 0
OwnHintCountsNothing = (s : State) (now : ℕ) (user : List ℕ) (before after : ℕ) → IsSound s
    → IsTickedUpTo (steps_of s now user) before after → IsHinted (input_at s now) s now before after → after ≡ before

-- a desk goes on that sees nothing come
pub goes_nowhere : (desk : Sight) → GoesOn desk desk
goes_nowhere desk = ([], rw (append-nil desk.since, append-nil desk.mine) refl)

-- and one that sees entries come, and then others
later-twice : (desk : Sight) (one two : List Entry) → later (later desk one) two ≡ later desk (one ++ two)
later-twice desk one two =
    let n = desk.number in
    let mine : (desk.mine ++ of_session n one) ++ of_session n two ≡ desk.mine ++ of_session n (one ++ two) =
    append_assoc desk.mine (of_session n one) (of_session n two)
    ∙ ap (λ (es : List Entry). desk.mine ++ es)
    (sym (filter-append (λ (entry : Entry). eqb entry.session n) one two)) in
    λ i. record {
      lock = desk.lock;
      opening = desk.opening;
      number = n;
      before = desk.before;
      since = append_assoc desk.since one two i;
      mine = mine i;
    }

pub goes_further : (desk middle desk' : Sight) → GoesOn desk middle → GoesOn middle desk' → GoesOn desk desk'
goes_further desk middle desk' first second = (
  first.0 ++ second.0,
  second.1 ∙ ap (λ (d : Sight). later d second.0) first.1 ∙ later-twice desk first.0 second.0,
)

-- what is seen goes on
seen-more : (desk desk' : Sight) → (goes : GoesOn desk desk') → seen desk' ≡ seen desk ++ goes.0
seen-more desk desk' goes =
    ap (λ (d : Sight). seen d) goes.1 ∙ sym (append_assoc desk.before desk.since goes.0)

same-opening : (desk desk' : Sight) → GoesOn desk desk' → desk'.opening ≡ desk.opening
same-opening desk desk' goes = ap (λ (d : Sight). d.opening) goes.1

same-number : (desk desk' : Sight) → GoesOn desk desk' → desk'.number ≡ desk.number
same-number desk desk' goes = ap (λ (d : Sight). d.number) goes.1

-- what is answered later on at a desk at which nothing was asked meanwhile is answered
pub answered-later : (desk middle desk' : Sight) (now : ℕ) (user : List ℕ) (request : Request) (answer : Answer)
    → GoesOn desk middle → middle.mine ≡ desk.mine → IsAnswered middle desk' now user request answer
    → IsAnswered desk desk' now user request answer
answered-later desk middle desk' now user request answer goes mine answered =
    let opening = same-opening desk middle goes in
    let number = same-number desk middle goes in
    let state : state_at middle.opening (seen desk') answer.place ≡ state_at desk.opening (seen desk') answer.place =
    ap (λ (s : State). state_at s (seen desk') answer.place) opening in
    let entry : entry_of (state_at middle.opening (seen desk') answer.place) middle.number now user request
    ≡ entry_of (state_at desk.opening (seen desk') answer.place) desk.number now user request =
    λ i. entry_of (state i) (number i) now user request in
    record {
      from = omega (
        arith,
        answered.from,
        ap (λ (es : List Entry). length es) (seen-more desk middle goes),
        length-append (seen desk) goes.0,
      );
      within = answered.within;
      reply = answered.reply ∙ ap (λ (s : State). reply_of s now user request) state;
      accepted = λ accepts.
          let both = answered.accepted accepts in (
            both.0 ∙ ap (λ (e : Entry). take answer.place (seen desk') ++ e ∷ []) entry,
            both.1 ∙ (λ i. mine i ++ entry i ∷ []),
          );
      other = λ refuses.
          let both = answered.other refuses in (both.0, both.1 ∙ mine);
    }

-- the state at the place behind all that was seen
pub state-behind : (desk desk' : Sight) (place : ℕ) → GoesOn desk desk' → place ≡ length (seen desk)
    → state_at desk.opening (seen desk') place ≡ present (history_of desk)
state-behind desk desk' place goes is =
    ap (after_all desk.opening)
    (ap (λ n. take n (seen desk')) is
    ∙ ap (take (length (seen desk))) (seen-more desk desk' goes)
    ∙ take-append_seam (seen desk) goes.0)

-- where nothing was counted
pub not-counted : (most count : ℕ) → IsTickedUpTo most count count
not-counted most count = record { times = 0; few = omega arith; is = refl }

-- a turn that ended before its pass
pub cut-short : (desk desk' : Sight) (now outside outside' inside : ℕ) → GoesOn desk desk'
    → IsTickedUpTo (length (input_there desk' now).ranked) outside outside'
    → IsPlannedBeside desk desk' now (length (seen desk')) outside outside' inside inside
cut-short desk desk' now outside outside' inside goes counted = record {
  middle = desk';
  before = goes;
  after = goes_nowhere desk';
  beside_book = counted;
  in_pass = λ steady are. not-counted _ inside;
  alone = λ _. refl;
}

-- a turn with its pass
pub planned-beside : OwnHintCountsNothing → (desk middle desk' : Sight) (now place : ℕ) (user : List ℕ)
    (outside outside' inside inside' : ℕ) (planned : PlannedView) → GoesOn desk middle → GoesOn middle desk'
    → IsHistory (history_of middle) → planned ≡ input_there middle now
    → IsTickedUpTo (length (input_there middle now).ranked) outside outside'
    → IsTickedUpTo (steps_of (state_at middle.opening (seen desk') place) now user) inside inside'
    → IsHinted planned (state_at middle.opening (seen desk') place) now inside inside'
    → IsPlannedBeside desk desk' now place outside outside' inside inside'
planned-beside law desk middle desk' now place user outside outside' inside inside' planned first second history is
    counted most hinted =
    let there = λ (s : State). state_at s (seen desk') place in
    let opening = same-opening desk middle first in
    let over : IsHinted (input_there middle now) (there middle.opening) now inside inside' =
    subst (λ (hint : PlannedView). IsHinted hint (there middle.opening) now inside inside') is hinted in
    record {
      middle = middle;
      before = first;
      after = second;
      beside_book = counted;
      in_pass = subst (λ (s : State). IsHinted (input_there middle now) (there s) now inside inside') opening over;
      alone = λ at.
          let s = present (history_of middle) in
          let same : there middle.opening ≡ s = state-behind middle desk' place second at in
          let sound : IsSound s = subst (λ (es : List Entry). IsSound (after_all middle.opening es))
          (take-length (seen middle)) (history.sound (length (seen middle))) in
          law s now user inside inside' sound
          (subst (λ (at : State). IsTickedUpTo (steps_of at now user) inside inside') same most)
          (subst (λ (at : State). IsHinted (input_there middle now) at now inside inside') same over);
    }

-- a turn whose pass wanted memory, as if it had been made after all that was seen
pub planned-beside-err : OwnHintCountsNothing → (desk middle desk' : Sight) (now : ℕ) (user : List ℕ)
    (outside outside' inside inside' : ℕ) (planned : PlannedView) → GoesOn desk middle → GoesOn middle desk'
    → IsHistory (history_of middle) → planned ≡ input_there middle now
    → IsTickedUpTo (length (input_there middle now).ranked) outside outside'
    → IsTickedUpTo (steps_of (present (history_of desk')) now user) inside inside'
    → IsHinted planned (present (history_of desk')) now inside inside'
    → IsPlannedBeside desk desk' now (length (seen desk')) outside outside' inside inside'
planned-beside-err law desk middle desk' now user outside outside' inside inside' planned first second history is
    counted most hinted =
    let end : present (history_of desk') ≡ state_at middle.opening (seen desk') (length (seen desk')) =
    ap (λ (o : State). after_all o (seen desk')) (same-opening middle desk' second)
    ∙ ap (after_all middle.opening) (sym (take-length (seen desk'))) in
    planned-beside law desk middle desk' now (length (seen desk')) user outside outside' inside inside' planned first
    second history is counted
    (subst (λ (s : State). IsTickedUpTo (steps_of s now user) inside inside') end most)
    (subst (λ (s : State). IsHinted planned s now inside inside') end hinted)

-- what holds in each case holds where the answer is an error
pub on-err : {X E : Type 0} (result : Result X E) (P : Type 0) → P → OnErr result P
on-err (Ok value) P holds = tt
on-err (Err error) P holds = holds
