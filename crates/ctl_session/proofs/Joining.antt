-- Answers that follow one another are answers.
use Rattle.std.proofs.Common.{◌≡◌, ◌==◌, ℕ, zero, suc, ◌≤◌, List, [], ◌∷◌, ◌++◌, Some, length, slice_get, get_or, All, false, refl, sym, ap, ◌∙◌, subst, arith, length-append, append_assoc}
use Rattle.std.proofs.lemmas.List.{append-nil, take-append-le, take_all}
use Rattle.std.proofs.lemmas.List.Concat.{flat_map-append}
use Rattle.std.proofs.lemmas.List.Elements.{filter-append, All-append, All-cons, All-head, All-nil, All-push, All-tail}
use Rattle.std.specs.Option.{option_to_list}
use Rattle.block_frame.specs.declared.form.Form.{Form}
use Rattle.ctl_state.specs.State.{State}
use Rattle.ctl_desk.specs.declared.entry.Entry.{Entry}
use Rattle.ctl_desk.specs.Desk.{Sight, history_of, later, seen, state_at}
use Rattle.ctl_desk.specs.History.{after_all, of_session, present}
use Rattle.ctl_session.specs.Answers.{Answered, IsAnswerIn, IsOpenBehind, Answers, Rise, behind, entries}
use Rattle.ctl_session.specs.Session.{StaysOpen, is_shut}

slice_get-append_left : {X : Type 0} (xs ys : List X) (n : ℕ) (x : X) → slice_get xs n ≡ Some x
    → slice_get (xs ++ ys) n ≡ Some x
slice_get-append_left [] ys n x h = cc
slice_get-append_left (a ∷ xs) ys zero x h = h
slice_get-append_left (a ∷ xs) ys (suc n) x h = slice_get-append_left xs ys n x h

-- the state at a place stays, whatever is entered behind it, and so does the answer there
answer_stays : (form : Form) (opening : State) (number : ℕ) (history more : List Entry) (a : Answered)
    → IsAnswerIn form opening number history a → IsAnswerIn form opening number (history ++ more) a
answer_stays form opening number history more a answer =
    let same : state_at opening (history ++ more) a.place ≡ state_at opening history a.place =
    ap (after_all opening) (take-append-le a.place history more answer.within) in
    record {
      within = omega (arith, answer.within, length-append history more);
      reply = rw same answer.reply;
      entry = rw same answer.entry;
      stands = λ entry is. slice_get-append_left history more a.place entry (answer.stands entry is);
    }

-- places that rise from one on rise from each lower one on, and further
rise_from : (low mid : ℕ) (answers : List Answered) (high : ℕ) → low ≤ mid → Rise mid answers high
    → Rise low answers high
rise_from low mid [] high below rise = omega (arith, rise)
rise_from low mid (a ∷ answers) high below rise = (omega (arith, rise.0), rise.1)

pub rise_on : (low : ℕ) (xs : List Answered) (mid : ℕ) (ys : List Answered) (high : ℕ) → Rise low xs mid
    → Rise mid ys high → Rise low (xs ++ ys) high
rise_on low [] mid ys high first next = rise_from low mid ys high first next
rise_on low (a ∷ xs) mid ys high first next = (first.0, rise_on (behind a) xs mid ys high first.1 next)

-- a desk that went on twice went on once
later_twice : (desk : Sight) (xs ys : List Entry) → later (later desk xs) ys ≡ later desk (xs ++ ys)
later_twice desk xs ys =
    let since : (desk.since ++ xs) ++ ys ≡ desk.since ++ (xs ++ ys) = append_assoc desk.since xs ys in
    let mine : (desk.mine ++ of_session desk.number xs) ++ of_session desk.number ys
    ≡ desk.mine ++ of_session desk.number (xs ++ ys) =
    append_assoc desk.mine (of_session desk.number xs) (of_session desk.number ys)
    ∙ ap (λ l. desk.mine ++ l) (sym (filter-append (λ e. e.session == desk.number) xs ys)) in
    rw (since, mine) refl

-- what a desk has seen when it has gone on
seen_later : (desk desk' : Sight) (since : List Entry) → desk' ≡ later desk since → seen desk' ≡ seen desk ++ since
seen_later desk desk' since goes_on = ap seen goes_on ∙ sym (append_assoc desk.before desk.since since)

pub joined : (form : Form) (desk mid desk' : Sight) (xs ys : List Answered) → Answers form desk mid xs
    → Answers form mid desk' ys → Answers form desk desk' (xs ++ ys)
joined form desk mid desk' xs ys first next =
    let next' : Answers form (later desk first.since) desk' ys =
    subst (λ d. Answers form d desk' ys) first.goes_on next in
    let grown : seen desk' ≡ seen mid ++ next.since = seen_later mid desk' next.since next.goes_on in
    record {
      since = first.since ++ next'.since;
      goes_on = next'.goes_on ∙ later_twice desk first.since next'.since;
      own = flat_map-append (λ a. option_to_list a.entry) xs ys
          ∙ ap (λ l. l ++ entries ys) first.own
          ∙ ap (λ l. of_session desk.number first.since ++ l) next'.own
          ∙ sym (filter-append (λ e. e.session == desk.number) first.since next'.since);
      each = All-append (IsAnswerIn form desk.opening desk.number (seen desk')) xs ys
          (rw grown (λ k d within. answer_stays form desk.opening desk.number (seen mid) next.since (get_or xs k d)
          (first.each k d within)))
          next'.each;
      rise = rise_on (length (seen desk)) xs (length (seen mid)) ys (length (seen desk')) first.rise next.rise;
    }

-- a desk that was asked nothing
pub none_asked : (form : Form) (desk : Sight) → Answers form desk desk []
none_asked form desk = record {
  since = [];
  goes_on = rw (append-nil desk.since, append-nil desk.mine) refl;
  own = refl;
  each = All-nil (IsAnswerIn form desk.opening desk.number (seen desk));
  rise = omega arith;
}

-- places that rise are up to the last of them
rise_bound : (low : ℕ) (answers : List Answered) (high : ℕ) → Rise low answers high → low ≤ high
rise_bound low [] high rise = rise
rise_bound low (a ∷ answers) high rise = omega (arith, rise.0, rise_bound (behind a) answers high rise.1)

-- what stood open behind answers stands open there, whatever is entered later
open_stays : (opening : State) (history more : List Entry) (low : ℕ) (answers : List Answered)
    → Rise low answers (length history) → All (IsOpenBehind opening history) answers
    → All (IsOpenBehind opening (history ++ more)) answers
open_stays opening history more low [] rise open_behind = All-nil (IsOpenBehind opening (history ++ more))
open_stays opening history more low (a ∷ answers) rise open_behind =
    let same : state_at opening (history ++ more) (behind a) ≡ state_at opening history (behind a) =
    ap (after_all opening) (take-append-le (behind a) history more
    (rise_bound (behind a) answers (length history) rise.1)) in
    All-cons (IsOpenBehind opening (history ++ more)) a answers
    (ap (λ (s : State). s.is_shut) same ∙ All-head (IsOpenBehind opening history) a answers open_behind)
    (open_stays opening history more (behind a) answers rise.1
    (All-tail (IsOpenBehind opening history) a answers open_behind))

-- at a desk that went on
pub open_later : (form : Form) (desk mid desk' : Sight) (answers others : List Answered)
    → Answers form desk mid answers → Answers form mid desk' others → StaysOpen mid answers → StaysOpen desk' answers
open_later form desk mid desk' answers others first next open_behind =
    let grown : seen desk' ≡ seen mid ++ next.since = seen_later mid desk' next.since next.goes_on in
    let same : desk'.opening ≡ mid.opening = ap (λ (d : Sight). d.opening) next.goes_on in
    rw (grown, same) (open_stays mid.opening (seen mid) next.since (length (seen desk)) answers first.rise open_behind)

-- behind the answer that a desk gave last it stands open, where the desk has seen no shutdown
pub open_last : (desk : Sight) (answers : List Answered) (answer : Answered) → behind answer ≡ length (seen desk)
    → is_shut desk ≡ false → StaysOpen desk answers → StaysOpen desk (answers ++ answer ∷ [])
open_last desk answers answer at unshut open_behind =
    let now : state_at desk.opening (seen desk) (behind answer) ≡ present (history_of desk) =
    ap (λ n. state_at desk.opening (seen desk) n) at
    ∙ ap (after_all desk.opening) (take_all (length (seen desk)) (seen desk) (omega arith)) in
    All-push (IsOpenBehind desk.opening (seen desk)) answers answer open_behind
    (ap (λ (s : State). s.is_shut) now ∙ unshut)
