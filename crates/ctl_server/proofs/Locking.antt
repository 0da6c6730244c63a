-- What a turn at a book makes of a desk.
use Rattle.std.proofs.Common.{◌≡◌, ◌≢◌, ℕ, ◌+◌, ◌<◌, ◌≤◌, ◌^◌, eqb, Bool, true, false, List, [], ◌∷◌, ◌++◌, length, take, drop, filter, Option, Some, None, Result, Ok, Err, IfOk, OnErr, IfSome, refl, sym, ap, ◌∙◌, subst, arith, length-append, append-nil, append_assoc, inl, inr, if◌then◌else◌, eq-eqb}
use Rattle.std.specs.Prelude.{All}
use Rattle.std.proofs.Math.Seq.{take-append_seam}
use Rattle.std.proofs.lemmas.Bool.{cases_Bool, true≢false}
use Rattle.std.proofs.lemmas.List.{take_all, take-append-le, take-append-drop, drop-append-le}
use Rattle.std.proofs.lemmas.List.Elements.{All-nil, All-cons, filter-append}
use Rattle.request_data.specs.declared.request.Request.{Request}
use Rattle.request_data.specs.declared.request.Request.TheVariants.{Pass}
use Rattle.atomic_table.specs.Seated.{TableId}
use Rattle.turn_lock.specs.Views.{StartsWith, bearing}
use Rattle.turn_lock.specs.Passes.{HasTurn, Adds, SeesMore, IsKnown, seen_all}
use Rattle.resource_profile.specs.Counts.{IsTickedUpTo}
use Rattle.ctl_state.specs.State.{State}
use Rattle.ctl_core.specs.Step.{reply_of, is_entered, steps_of}
use Rattle.ctl_desk.specs.declared.entry.Answer.{Answer}
use Rattle.ctl_desk.specs.declared.entry.Entry.{Entry}
use Rattle.ctl_desk.specs.Desk.{Sight, GoesOn, IsAnswered, seen, later, state_at, history_of}
use Rattle.ctl_desk.specs.History.{after_all, BookState, entry_of, history_in, IsHistory, of_session, present}
use Rattle.ctl_server.specs.Locked.{BookView, LockedSeat, IsAtDesk, HasPass, IsWorked, sight_by, sight_there}

abbrev entries_of : BookState → List Entry
entries_of book = book.entries

abbrev bearer : Entry → ℕ
bearer entry = entry.session

abbrev begins_as : BookState → BookState → Type 0
begins_as first book = book.opening ≡ first.opening

-- A desk's pass took the turn at a book, which went on by some entries of its own, and was given back.
pub record Took (lock : TableId) (opening : State) (before len : ℕ) (is_shut : Bool) (pass turn after : BookView) (old new : BookState) (tail : List Entry) : Type 0 where
  pub desk : IsAtDesk lock opening before len is_shut pass
  pub took : HasTurn entries_of begins_as pass turn old
  pub known : IsKnown bearer turn
  pub begins : new.opening ≡ old.opening
  pub grown : new.entries ≡ old.entries ++ tail
  pub own : All (λ entry. entry.session ≡ turn.number) tail
  pub left : after ≡ seen_all entries_of bearer turn new

if-true : {X : Type 0} (b : Bool) (x y z : X) → z ≡ (if b then x else y) → b ≡ true → z ≡ x
if-true true x y z e is = e
if-true false x y z e is = cc

if-false : {X : Type 0} (b : Bool) (x y z : X) → z ≡ (if b then x else y) → b ≡ false → z ≡ y
if-false true x y z e is = cc
if-false false x y z e is = e

-- the entries that a worked request adds
pub tail_of : {E : Type 0} (number : ℕ) (old new : BookState) (now : ℕ) (user : List ℕ) (request : Request) (result : Result Answer E) → IsWorked number old new now user request result
    → (tail : List Entry) × (new.entries ≡ old.entries ++ tail) × All (λ entry. entry.session ≡ number) tail
tail_of number old new now user request (Ok answer) worked =
    let entry : Entry = entry_of (present (history_in old)) number now user request in
    let P : Entry → Type 0 = λ entry. entry.session ≡ number in
    elim (cases_Bool (is_entered answer.reply)) [
      | inl accepts ↦ (entry ∷ [], if-true (is_entered answer.reply) (old.entries ++ entry ∷ []) old.entries new.entries worked.entries accepts, All-cons P entry [] refl (All-nil P))
      | inr refuses ↦ ([], if-false (is_entered answer.reply) (old.entries ++ entry ∷ []) old.entries new.entries worked.entries refuses ∙ sym (append-nil old.entries), All-nil P)
    ]
tail_of number old new now user request (Err e) worked =
    ([], ap (λ h. h.entries) worked.err ∙ sym (append-nil old.entries), All-nil (λ (entry : Entry). entry.session ≡ number))

pub adds_to : (turn : BookView) (old new : BookState) (number : ℕ) → number ≡ turn.number → old.entries ≡ turn.seen
    → (tail : List Entry) × (new.entries ≡ old.entries ++ tail) × All (λ entry. entry.session ≡ number) tail → Adds entries_of bearer turn new
adds_to turn old new number is whole t =
    (t.0, t.1 ∙ ap (λ es. es ++ t.0) whole, subst (λ n. All (λ entry. entry.session ≡ n) t.0) is t.2)

-- lists that go on alike behind the same front
same_tail : {X : Type 0} (front xs ys : List X) → front ++ xs ≡ front ++ ys → xs ≡ ys
same_tail [] xs ys e = e
same_tail (x ∷ front) xs ys e = same_tail front xs ys (ap (drop 1) e)

-- what a turn at a book leaves of a desk, in facts
module _ {lock : TableId} {opening : State} {before len : ℕ} {is_shut : Bool} {pass turn after : BookView} {old new : BookState} {tail : List Entry}
    (t : Took lock opening before len is_shut pass turn after old new tail) where
  number_is : turn.number ≡ pass.number
  number_is = ap (λ (p : BookView). p.number) t.took.sees.same

  mine_is : turn.mine ≡ pass.mine
  mine_is = ap (λ (p : BookView). p.mine) t.took.sees.same

  first_is : turn.first ≡ pass.first
  first_is = ap (λ (p : BookView). p.first) t.took.sees.same

  pub opened : old.opening ≡ opening
  opened =
      let f = t.desk.known.first in
      let desk : opening ≡ f.0.opening = subst (λ (o : Option BookState). IfSome o (λ g. opening ≡ g.opening)) f.1 t.desk.first in
      let took : old.opening ≡ f.0.opening = subst (λ (o : Option BookState). IfSome o (λ g. old.opening ≡ g.opening)) (first_is ∙ f.1) t.took.begins in
      took ∙ sym desk

  -- all entries that the desk has then, behind those that it had seen
  abbrev pub more : List Entry
  more = t.took.sees.seen.0 ++ tail

  pub went_on : after.seen ≡ pass.seen ++ more
  went_on =
      ap (λ (p : BookView). p.seen) t.left
      ∙ (t.grown ∙ (ap (λ es. es ++ tail) (t.took.entries ∙ t.took.sees.seen.1) ∙ append_assoc pass.seen t.took.sees.seen.0 tail))

  own_grown : after.mine ≡ pass.mine ++ of_session pass.number more
  own_grown =
      ap (λ (p : BookView). p.mine) t.left
      ∙ (ap (bearing bearer turn.number) (sym (ap (λ (p : BookView). p.seen) t.left) ∙ went_on)
      ∙ (ap (λ n. bearing bearer n (pass.seen ++ more)) number_is
      ∙ (filter-append (λ (entry : Entry). eqb entry.session pass.number) pass.seen more
      ∙ ap (λ es. es ++ of_session pass.number more) (sym t.desk.known.mine))))

  after_number : after.number ≡ pass.number
  after_number = ap (λ (p : BookView). p.number) t.left ∙ number_is

  after_lock : after.lock ≡ pass.lock
  after_lock = ap (λ (p : BookView). p.lock) t.left ∙ ap (λ (p : BookView). p.lock) t.took.sees.same

  pub goes_on : GoesOn (sight_by opening before pass) (sight_by opening before after)
  goes_on = (
    more,
    λ i. record {
      lock = Some (after_lock i);
      opening = opening;
      number = after_number i;
      before = (ap (take before) went_on ∙ take-append-le before pass.seen more t.desk.since) i;
      since = (ap (drop before) went_on ∙ drop-append-le before pass.seen more t.desk.since) i;
      mine = own_grown i;
    },
  )

  seen_before : seen (sight_by opening before pass) ≡ pass.seen
  seen_before = take-append-drop before pass.seen

  pub seen_after : seen (sight_by opening before after) ≡ after.seen
  seen_after = take-append-drop before after.seen

  after_is : after.seen ≡ new.entries
  after_is = ap (λ (p : BookView). p.seen) t.left

  -- the entries that were found
  pub found_is : old.entries ≡ pass.seen ++ t.took.sees.seen.0
  found_is = t.took.entries ∙ t.took.sees.seen.1

  none_own : of_session pass.number old.entries ≡ pass.mine
  none_own = ap (of_session pass.number) t.took.entries ∙ (ap (λ n. of_session n turn.seen) (sym number_is) ∙ (sym t.known.mine ∙ mine_is))

  pub keeps_desk : (len' : ℕ) (is_shut' : Bool) → IsKnown bearer after → IsHistory (history_in new) → len' ≡ length new.entries → is_shut' ≡ (present (history_in new)).is_shut
      → IsAtDesk lock opening before len' is_shut' after
  keeps_desk len' is_shut' known history count shut =
      let begin : new.opening ≡ opening = t.begins ∙ opened in
      let whole : history_in new ≡ record { opening = opening; entries = after.seen } = λ i. record { opening = begin i; entries = sym after_is i } in record {
        own = ap (λ (p : BookView). p.lock) t.left ∙ (ap (λ (p : BookView). p.lock) t.took.sees.same ∙ t.desk.own);
        first = subst (λ (o : Option BookState). IfSome o (λ g. opening ≡ g.opening)) (sym (ap (λ (p : BookView). p.first) t.left ∙ first_is)) t.desk.first;
        known = known;
        history = subst IsHistory whole history;
        since = let s = t.desk.since in omega (arith, ap (λ (es : List Entry). length es) went_on, length-append pass.seen more);
        count = count ∙ ap (λ es. length es) (sym after_is);
        shut = shut ∙ ap (λ h. (present h).is_shut) whole;
      }

  -- the state at the place of an answer, where the book had the entries that were found
  there : (place : ℕ) → place ≡ length old.entries → take place after.seen ≡ old.entries → state_at opening (seen (sight_by opening before after)) place ≡ present (history_in old)
  there place at front = (λ i. after_all (sym opened i) ((ap (take place) seen_after ∙ front) i))

  front_is : (place : ℕ) → place ≡ length old.entries → take place after.seen ≡ old.entries
  front_is place at = rw (at, after_is ∙ t.grown) (take-append_seam old.entries tail)

  -- an answer to a request, with what it added
  answered_so : (now : ℕ) (user : List ℕ) (request : Request) (answer : Answer) → answer.reply ≡ reply_of (present (history_in old)) now user request → answer.place ≡ length old.entries
      → (is_entered answer.reply ≡ true → tail ≡ entry_of (present (history_in old)) turn.number now user request ∷ []) → (is_entered answer.reply ≡ false → tail ≡ [])
      → IsAnswered (sight_by opening before pass) (sight_by opening before after) now user request answer
  answered_so now user request answer reply place accepts refuses =
      let state : state_at opening (seen (sight_by opening before after)) answer.place ≡ present (history_in old) = there answer.place place (front_is answer.place place) in
      let lengths : length old.entries ≡ length pass.seen + length t.took.sees.seen.0 = ap (λ (es : List Entry). length es) found_is ∙ length-append pass.seen t.took.sees.seen.0 in
      let longer : length after.seen ≡ length old.entries + length tail = ap (λ (es : List Entry). length es) (after_is ∙ t.grown) ∙ length-append old.entries tail in
      let before_is : length (seen (sight_by opening before pass)) ≡ length pass.seen = ap (λ (es : List Entry). length es) seen_before in
      let behind_is : length (seen (sight_by opening before after)) ≡ length after.seen = ap (λ (es : List Entry). length es) seen_after in record {
        from = omega (arith, place, lengths, before_is);
        within = omega (arith, place, longer, behind_is);
        reply = subst (λ (s : State). answer.reply ≡ reply_of s now user request) (sym state) reply;
        accepted = λ is_in.
            let entry : Entry = entry_of (present (history_in old)) turn.number now user request in
            let entry' : Entry = entry_of (state_at opening (seen (sight_by opening before after)) answer.place) pass.number now user request in
            let same : entry ≡ entry' = λ i. entry_of (sym state i) (number_is i) now user request in
            let whole : seen (sight_by opening before after) ≡ old.entries ++ entry ∷ [] = seen_after ∙ (after_is ∙ (t.grown ∙ ap (λ es. old.entries ++ es) (accepts is_in))) in
            let front : take answer.place (seen (sight_by opening before after)) ≡ old.entries = ap (take answer.place) seen_after ∙ front_is answer.place place in (
              whole ∙ (λ i. sym front i ++ same i ∷ []),
              ap (λ (p : BookView). p.mine) t.left ∙ (ap (bearing bearer turn.number) (t.grown ∙ ap (λ es. old.entries ++ es) (accepts is_in))
                  ∙ (ap (λ n. bearing bearer n (old.entries ++ entry ∷ [])) number_is
                  ∙ (filter-append (λ (e : Entry). eqb e.session pass.number) old.entries (entry ∷ [])
                  ∙ (λ i. none_own i ++ one_own turn.number pass.number entry number_is i)))) ∙ ap (λ e. pass.mine ++ e ∷ []) same,
            );
        other = λ out. (
          omega (arith, place, longer, behind_is, ap (λ (es : List Entry). length es) (refuses out)),
          ap (λ (p : BookView). p.mine) t.left ∙ (ap (bearing bearer turn.number) (t.grown ∙ (ap (λ es. old.entries ++ es) (refuses out) ∙ append-nil old.entries))
              ∙ (ap (λ n. bearing bearer n old.entries) number_is ∙ none_own)),
        );
      }
    where
      one_own : (n m : ℕ) (entry : Entry) → n ≡ m → of_session m (record entry { session = n } ∷ []) ≡ record entry { session = n } ∷ []
      one_own n m entry is = rw (eq-eqb n m is) refl

  pub stays_mine : tail ≡ [] → after.mine ≡ pass.mine
  stays_mine none_added =
      ap (λ (p : BookView). p.mine) t.left ∙ (ap (bearing bearer turn.number) (t.grown ∙ (ap (λ es. old.entries ++ es) none_added ∙ append-nil old.entries))
      ∙ (ap (λ n. bearing bearer n old.entries) number_is ∙ none_own))

  -- the state after all that the desk has seen then, where nothing was added
  pub seen_present : tail ≡ [] → present (history_of (sight_by opening before after)) ≡ present (history_in old)
  seen_present none_added =
      let whole : seen (sight_by opening before after) ≡ old.entries =
      seen_after ∙ (after_is ∙ (t.grown ∙ (ap (λ es. old.entries ++ es) none_added ∙ append-nil old.entries))) in
      λ i. after_all (sym opened i) (whole i)

  abbrev the_seat : LockedSeat
  the_seat = record { opening = opening; before = before; pass = Some pass }

  pub seat_goes_on : (seat : LockedSeat) → the_seat ≡ seat → GoesOn (sight_there seat) (sight_by opening before after)
  seat_goes_on seat is = subst (λ (s : LockedSeat). GoesOn (sight_there s) (sight_by opening before after)) is goes_on

  pub seat_mine : (seat : LockedSeat) → the_seat ≡ seat → tail ≡ [] → after.mine ≡ (sight_there seat).mine
  seat_mine seat is none_added = stays_mine none_added ∙ ap (λ (s : LockedSeat). (sight_there s).mine) is

  answered_by : {E : Type 0} (now : ℕ) (user : List ℕ) (request : Request) (result : Result Answer E) → IsWorked turn.number old new now user request result
      → IfOk result (λ answer. IsAnswered (sight_by opening before pass) (sight_by opening before after) now user request answer)
  answered_by now user request (Ok answer) worked =
      let entry : Entry = entry_of (present (history_in old)) turn.number now user request in
      answered_so now user request answer worked.reply worked.place
      (λ accepts. same_tail old.entries tail (entry ∷ []) (sym t.grown ∙ if-true (is_entered answer.reply) (old.entries ++ entry ∷ []) old.entries new.entries worked.entries accepts))
      (λ refuses. same_tail old.entries tail [] (sym t.grown ∙ (if-false (is_entered answer.reply) (old.entries ++ entry ∷ []) old.entries new.entries worked.entries refuses ∙ sym (append-nil old.entries))))
  answered_by now user request (Err e) worked = tt

  pub seat_answered : {E : Type 0} (seat : LockedSeat) → the_seat ≡ seat → (now : ℕ) (user : List ℕ) (request : Request) (result : Result Answer E) (number : ℕ) → number ≡ turn.number → IsWorked number old new now user request result
      → IfOk result (λ answer. IsAnswered (sight_there seat) (sight_by opening before after) now user request answer)
  seat_answered seat is now user request result number own worked =
      subst (λ (s : LockedSeat). IfOk result (λ answer. IsAnswered (sight_there s) (sight_by opening before after) now user request answer)) is
      (answered_by now user request result (subst (λ n. IsWorked n old new now user request result) own worked))

  -- a pass counts at most the jobs that are planned at its place
  pub seat_counted : {E : Type 0} (seat : LockedSeat) → the_seat ≡ seat → (now : ℕ) (user : List ℕ) (result : Result Answer E) (number counted counted' : ℕ) → IsWorked number old new now user Pass result
      → IsTickedUpTo (steps_of (present (history_in old)) now user) counted counted'
      → IfOk result (λ answer. IsTickedUpTo (steps_of (state_at (sight_there seat).opening (seen (sight_by opening before after)) answer.place) now user) counted counted')
  seat_counted seat is now user (Ok answer) number counted counted' worked counts =
      subst (λ (s : LockedSeat). IsTickedUpTo (steps_of (state_at (sight_there s).opening (seen (sight_by opening before after)) answer.place) now user) counted counted') is
      (subst (λ (at : State). IsTickedUpTo (steps_of at now user) counted counted') (sym (there answer.place worked.place (front_is answer.place worked.place))) counts)
  seat_counted seat is now user (Err e) number counted counted' worked counts = tt

  pub seat_counted_up_to : {E : Type 0} (now : ℕ) (user : List ℕ) (result : Result Answer E) (number counted counted' : ℕ) → IsWorked number old new now user Pass result
      → IsTickedUpTo (steps_of (present (history_in old)) now user) counted counted'
      → OnErr result (IsTickedUpTo (steps_of (present (history_of (sight_by opening before after))) now user) counted counted')
  seat_counted_up_to now user (Ok answer) number counted counted' worked counts = tt
  seat_counted_up_to now user (Err e) number counted counted' worked counts =
      let whole : seen (sight_by opening before after) ≡ old.entries = seen_after ∙ (after_is ∙ ap (λ (h : BookState). h.entries) worked.err) in
      let same : present (history_of (sight_by opening before after)) ≡ present (history_in old) = λ i. after_all (sym opened i) (whole i) in
      subst (λ (at : State). IsTickedUpTo (steps_of at now user) counted counted') (sym same) counts

  -- what holds of the state that a request was worked in holds of the state at its place
  pub seat_there : {E : Type 0} (seat : LockedSeat) → the_seat ≡ seat → (P : State → Type 0) (now : ℕ) (user : List ℕ) (request : Request) (result : Result Answer E) (number : ℕ) → IsWorked number old new now user request result
      → P (present (history_in old))
      → IfOk result (λ answer. P (state_at (sight_there seat).opening (seen (sight_by opening before after)) answer.place))
  seat_there seat is P now user request (Ok answer) number worked holds =
      subst (λ (s : LockedSeat). P (state_at (sight_there s).opening (seen (sight_by opening before after)) answer.place)) is
      (subst P (sym (there answer.place worked.place (front_is answer.place worked.place))) holds)
  seat_there seat is P now user request (Err e) number worked holds = tt

  pub seat_there_err : {E : Type 0} (P : State → Type 0) (now : ℕ) (user : List ℕ) (request : Request) (result : Result Answer E) (number : ℕ) → IsWorked number old new now user request result
      → P (present (history_in old))
      → OnErr result (P (present (history_of (sight_by opening before after))))
  seat_there_err P now user request (Ok answer) number worked holds = tt
  seat_there_err P now user request (Err e) number worked holds =
      let whole : seen (sight_by opening before after) ≡ old.entries = seen_after ∙ (after_is ∙ ap (λ (h : BookState). h.entries) worked.err) in
      let same : present (history_of (sight_by opening before after)) ≡ present (history_in old) = λ i. after_all (sym opened i) (whole i) in
      subst P (sym same) holds

-- what a desk's turn is in which a request was worked
pub turn_worked : {E : Type 0} (lock : TableId) (opening : State) (before len : ℕ) (is_shut : Bool) (held : Option BookView) (pass turn after : BookView) (old new : BookState) (number now : ℕ) (user : List ℕ) (request : Request) (result : Result Answer E)
    → HasPass lock opening before len is_shut held → held ≡ Some pass → HasTurn entries_of begins_as pass turn old → IsKnown bearer turn → number ≡ turn.number
    → (worked : IsWorked number old new now user request result) → after ≡ seen_all entries_of bearer turn new
    → Took lock opening before len is_shut pass turn after old new (tail_of number old new now user request result worked).0
turn_worked lock opening before len is_shut held pass turn after old new number now user request result has is took known own worked left =
    let t = tail_of number old new now user request result worked in record {
      desk = subst (HasPass lock opening before len is_shut) is has;
      took = took;
      known = known;
      begins = worked.opening;
      grown = t.1;
      own = subst (λ (n : ℕ). All (λ (entry : Entry). entry.session ≡ n) t.0) own t.2;
      left = left;
    }

-- one in which nothing was added
pub turn_looked : (lock : TableId) (opening : State) (before len : ℕ) (is_shut : Bool) (held : Option BookView) (pass turn after : BookView) (book : BookState)
    → HasPass lock opening before len is_shut held → held ≡ Some pass → HasTurn entries_of begins_as pass turn book → IsKnown bearer turn → after ≡ seen_all entries_of bearer turn book
    → Took lock opening before len is_shut pass turn after book book []
turn_looked lock opening before len is_shut held pass turn after book has is took known left = record {
  desk = subst (HasPass lock opening before len is_shut) is has;
  took = took;
  known = known;
  begins = refl;
  grown = sym (append-nil book.entries);
  own = All-nil (λ (entry : Entry). entry.session ≡ turn.number);
  left = left;
}

-- one in which the book was asked for what changes nothing of it
pub turn_asked : (lock : TableId) (opening : State) (before len : ℕ) (is_shut : Bool) (held : Option BookView) (pass turn after : BookView) (old new : BookState)
    → HasPass lock opening before len is_shut held → held ≡ Some pass → HasTurn entries_of begins_as pass turn old → IsKnown bearer turn → new ≡ old → after ≡ seen_all entries_of bearer turn new
    → Took lock opening before len is_shut pass turn after old new []
turn_asked lock opening before len is_shut held pass turn after old new has is took known same left = record {
  desk = subst (HasPass lock opening before len is_shut) is has;
  took = took;
  known = known;
  begins = ap (λ (h : BookState). h.opening) same;
  grown = ap (λ (h : BookState). h.entries) same ∙ sym (append-nil old.entries);
  own = All-nil (λ (entry : Entry). entry.session ≡ turn.number);
  left = left;
}

-- a book as it was found adds nothing
pub adds_none : (turn : BookView) (book : BookState) → book.entries ≡ turn.seen → Adds entries_of bearer turn book
adds_none turn book whole = ([], whole ∙ sym (append-nil turn.seen), All-nil (λ (entry : Entry). entry.session ≡ turn.number))
