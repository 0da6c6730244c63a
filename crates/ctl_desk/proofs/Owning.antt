-- What a book of its own makes of a desk.
use Rattle.std.proofs.Common.{◌≡◌, ℕ, Bool, true, false, ◌≤◌, List, [], ◌∷◌, ◌++◌, length, take, drop, refl, sym, ap, ◌∙◌, subst, arith, length-append, inl, inr, if◌then◌else◌, Ok, Err, Result, IfOk, OnOk, OnErr, Option, Some, None, IfSome}
use Rattle.std.proofs.Math.Seq.{take-append_seam}
use Rattle.std.proofs.lemmas.Bool.{cases_Bool, true≢false}
use Rattle.std.proofs.lemmas.List.{append-nil, take_all, take-append-le, take-append-drop, drop-append-le}
use Rattle.request_data.specs.declared.request.Request.{Request}
use Rattle.ctl_state.specs.State.{State}
use Rattle.resource_profile.specs.Counts.{ticked, IsTickedUpTo}
use Rattle.request_data.specs.declared.request.Request.TheVariants.{Pass}
use Rattle.backfill_planner.specs.Plans.{PlannedView}
use Rattle.ctl_core.specs.Step.{IsHinted, reply_of, is_entered, steps_of}
use Rattle.ctl_desk.specs.declared.entry.Answer.{Answer}
use Rattle.ctl_desk.specs.declared.entry.Entry.{Entry}
use Rattle.ctl_desk.specs.Desk.{Sight, GoesOn, IsAnswered, seen, later, sight_of, history_of, state_at}
use Rattle.ctl_desk.specs.History.{BookState, History, after_all, history_in, present, entry_of}
use Rattle.ctl_desk.proofs.Entering.{where_true, where_false}

-- a desk that was made at a book of so many entries
abbrev pub at_book : ℕ → History → Sight
at_book before h = sight_of (record {
  opening = h.opening;
  before = take before h.entries;
  since =
      drop before h.entries;
})

-- it has seen all entries
pub all_seen : (before : ℕ) (h : History) → seen (at_book before h) ≡ h.entries
all_seen before h = take-append-drop before h.entries

-- the book with one entry more, and with the same entries
abbrev grown : History → Entry → History
grown h entry = record h { entries = h.entries ++ entry ∷ [] }

-- one entry more
goes_on_one : (before : ℕ) (entry : Entry) (h : History) → before ≤ length h.entries → entry.session ≡ 0
    → at_book before (grown h entry) ≡ later (at_book before h) (entry ∷ [])
goes_on_one before entry h below own =
    let since : drop before (h.entries ++ entry ∷ []) ≡ drop before h.entries ++ entry ∷ [] =
    drop-append-le before h.entries (entry ∷ []) below in
    rw (take-append-le before h.entries (entry ∷ []) below, since, own) refl

pub goes_nowhere : (desk : Sight) → GoesOn desk desk
goes_nowhere desk = ([], rw (append-nil desk.since, append-nil desk.mine) refl)

-- the book after a call, and its entries
same_book : (old new : History) (entries : List Entry) → new.opening ≡ old.opening → new.entries ≡ entries
    → new ≡ record old { entries = entries }
same_book old new entries opening all =
    let make : State → List Entry → History = λ o es. record { opening = o; entries = es } in
    ap (λ o. make o new.entries) opening ∙ ap (make old.opening) all

pub own_goes_on : {E : Type 0} (result : Result Answer E) (before : ℕ) (entry : Entry) (old new : History)
    → before ≤ length old.entries → entry.session ≡ 0
    → new.opening ≡ old.opening
    → IfOk result (λ answer. new.entries ≡ (if is_entered answer.reply then old.entries ++ entry ∷ [] else old.entries))
    → OnErr result (new ≡ old)
    → GoesOn (at_book before old) (at_book before new)
own_goes_on (Ok answer) before entry old new below own opening entered stays =
    elim (cases_Bool (is_entered answer.reply)) [
      | inl accepts ↦
          let all = where_true (is_entered answer.reply)
          (old.entries ++ entry ∷ []) old.entries new.entries entered accepts in (
            entry ∷ [],
            ap (at_book before) (same_book old new (old.entries ++ entry ∷ []) opening all)
                ∙ goes_on_one before entry old below own,
          )
      | inr refuses ↦
          let all = where_false (is_entered answer.reply)
          (old.entries ++ entry ∷ []) old.entries new.entries entered refuses in
          subst (λ (h : History). GoesOn (at_book before old) (at_book before h))
          (sym (same_book old new old.entries opening all)) (goes_nowhere (at_book before old))
    ]
own_goes_on (Err e) before entry old new below own opening entered stays =
    subst (λ (h : History). GoesOn (at_book before old) (at_book before h)) (sym stays)
    (goes_nowhere (at_book before old))

-- the answer of a book that entered the request
answered_entered : (now : ℕ) (user : List ℕ) (request : Request) (answer : Answer) (before : ℕ) (h : History)
    → before ≤ length h.entries
    → let s = after_all h.opening h.entries in
    let entry = entry_of s 0 now user request in
    answer.reply ≡ reply_of s now user request → answer.place ≡ length h.entries → is_entered answer.reply ≡ true
    → IsAnswered (at_book before h) (at_book before (grown h entry)) now user request answer
answered_entered now user request answer before h below reply place accepts =
    let old = h.entries in
    let s = after_all h.opening old in
    let entry = entry_of s 0 now user request in
    let more = old ++ entry ∷ [] in
    let front : take answer.place more ≡ old = ap (λ n. take n more) place ∙ take-append_seam old (entry ∷ []) in
    let there : s ≡ state_at h.opening more answer.place = ap (λ l. after_all h.opening l) (sym front) in
    let entry_at = λ (at : State). (more ≡ take answer.place more ++ entry_of at 0 now user request ∷ []) ×
    (drop before more ≡ drop before old ++ entry_of at 0 now user request ∷ []) in
    let seen_then : seen (at_book before (grown h entry)) ≡ more = all_seen before (grown h entry) in
    record {
      from = rw (all_seen before h) (omega (arith, place));
      within = rw seen_then (omega (arith, place, length-append old (entry ∷ [])));
      reply = rw seen_then (subst (λ (at : State). answer.reply ≡ reply_of at now user request) there reply);
      accepted = λ _. rw seen_then (subst entry_at there (
        ap (λ l. l ++ entry ∷ []) (sym front),
        drop-append-le before old (entry ∷ []) below,
      ));
      other = λ no_entry. absurd (true≢false (sym accepts ∙ no_entry));
    }

-- the answer of a book that entered nothing
answered_idle : (now : ℕ) (user : List ℕ) (request : Request) (answer : Answer) (before : ℕ) (h : History)
    → answer.reply ≡ reply_of (after_all h.opening h.entries) now user request → answer.place ≡ length h.entries
    → is_entered answer.reply ≡ false
    → IsAnswered (at_book before h) (at_book before h) now user request answer
answered_idle now user request answer before h reply place refuses =
    let all = all_seen before h in
    let front : take answer.place h.entries ≡ h.entries = take_all answer.place h.entries (omega (arith, place)) in
    let there : after_all h.opening h.entries ≡ state_at h.opening h.entries answer.place =
    ap (λ l. after_all h.opening l) (sym front) in
    record {
      from = rw all (omega (arith, place));
      within = rw all (omega (arith, place));
      reply = rw all (subst (λ (at : State). answer.reply ≡ reply_of at now user request) there reply);
      accepted = λ an_entry. absurd (true≢false (sym an_entry ∙ refuses));
      other = λ _. (rw all place, refl);
    }

pub own_answered : {E : Type 0} (result : Result Answer E) (now : ℕ) (user : List ℕ) (request : Request) (before : ℕ)
    (old new : History) → before ≤ length old.entries
    → new.opening ≡ old.opening
    → let s = after_all old.opening old.entries in
    IfOk result (λ answer. answer.reply ≡ reply_of s now user request)
    → IfOk result (λ answer. answer.place ≡ length old.entries)
    → IfOk result
    (λ answer. new.entries
    ≡ (if is_entered answer.reply then old.entries ++ entry_of s 0 now user request ∷ [] else old.entries))
    → IfOk result (λ answer. IsAnswered (at_book before old) (at_book before new) now user request answer)
own_answered (Ok answer) now user request before old new below opening reply place entered =
    let entry = entry_of (after_all old.opening old.entries) 0 now user request in
    let told = λ (h : History). IsAnswered (at_book before old) (at_book before h) now user request answer in
    elim (cases_Bool (is_entered answer.reply)) [
      | inl accepts ↦
          let all = where_true (is_entered answer.reply)
          (old.entries ++ entry ∷ []) old.entries new.entries entered accepts in
          subst told (sym (same_book old new (old.entries ++ entry ∷ []) opening all))
          (answered_entered now user request answer before old below reply place accepts)
      | inr refuses ↦
          let all = where_false (is_entered answer.reply)
          (old.entries ++ entry ∷ []) old.entries new.entries entered refuses in
          subst told (sym (same_book old new old.entries opening all))
          (answered_idle now user request answer before old reply place refuses)
    ]
own_answered (Err e) now user request before old new below opening reply place entered = tt

-- the entries before an answer's place are those that there were
before-place : (entered : Bool) (place : ℕ) (old new : List Entry) (entry : Entry) → place ≡ length old
    → new ≡ (if entered then old ++ entry ∷ [] else old) → take place new ≡ old
before-place true place old new entry at all = rw (all, at) (take-append_seam old (entry ∷ []))
before-place false place old new entry at all = rw all (take_all place old (omega (arith, at)))

-- a pass counts at most the jobs that are planned at its place
pub own_counted : {E : Type 0} (result : Result Answer E) (now : ℕ) (user : List ℕ) (before counted counted' : ℕ)
    (old new : History)
    → let s = after_all old.opening old.entries in
    IfOk result (λ answer. answer.place ≡ length old.entries)
    → IfOk result
    (λ answer. new.entries
    ≡ (if is_entered answer.reply then old.entries ++ entry_of s 0 now user Pass ∷ [] else old.entries))
    → IsTickedUpTo (steps_of s now user) counted counted'
    → IfOk result (λ answer. IsTickedUpTo (steps_of
    (state_at old.opening (seen (at_book before new)) answer.place) now user) counted counted')
own_counted (Ok answer) now user before counted counted' old new place entered counts =
    let s = after_all old.opening old.entries in
    let front = before-place (is_entered answer.reply) answer.place old.entries new.entries
    (entry_of s 0 now user Pass) place entered in
    let there : state_at old.opening (seen (at_book before new)) answer.place ≡ s =
    ap (λ es. after_all old.opening (take answer.place es)) (all_seen before new) ∙ ap (after_all old.opening) front in
    subst (λ (at : State). IsTickedUpTo (steps_of at now user) counted counted') (sym there) counts
own_counted (Err e) now user before counted counted' old new place entered counts = tt

-- after want of memory the book is as it was, and so is what the desk has seen
pub own_counted_up_to : {E : Type 0} (result : Result Answer E) (now : ℕ) (user : List ℕ)
    (before counted counted' : ℕ) (old new : History) → OnErr result (new ≡ old)
    → IsTickedUpTo (steps_of (present old) now user) counted counted'
    → OnErr result (IsTickedUpTo (steps_of (present (history_of (at_book before new))) now user) counted counted')
own_counted_up_to (Ok answer) now user before counted counted' old new stays counts = tt
own_counted_up_to (Err e) now user before counted counted' old new stays counts =
    let there : present (history_of (at_book before new)) ≡ present old =
    ap (after_all new.opening) (all_seen before new) ∙ ap present stays in
    subst (λ (at : State). IsTickedUpTo (steps_of at now user) counted counted') (sym there) counts

-- what holds of the state that a pass was made in holds of the state at its place
pub own_there : {E : Type 0} (P : State → Type 0) (result : Result Answer E) (now : ℕ) (user : List ℕ) (before : ℕ)
    (old new : History)
    → let s = after_all old.opening old.entries in
    IfOk result (λ answer. answer.place ≡ length old.entries)
    → IfOk result
    (λ answer. new.entries
    ≡ (if is_entered answer.reply then old.entries ++ entry_of s 0 now user Pass ∷ [] else old.entries))
    → P s
    → IfOk result (λ answer. P (state_at old.opening (seen (at_book before new)) answer.place))
own_there P (Ok answer) now user before old new place entered holds =
    let s = after_all old.opening old.entries in
    let front = before-place (is_entered answer.reply) answer.place old.entries new.entries
    (entry_of s 0 now user Pass) place entered in
    let there : state_at old.opening (seen (at_book before new)) answer.place ≡ s =
    ap (λ es. after_all old.opening (take answer.place es)) (all_seen before new) ∙ ap (after_all old.opening) front in
    subst P (sym there) holds
own_there P (Err e) now user before old new place entered holds = tt

-- the state after all that is seen at a book that is as it was
pub own_present : (before : ℕ) (old new : History) → new ≡ old → present (history_of (at_book before new)) ≡ present old
own_present before old new stays = ap (after_all new.opening) (all_seen before new) ∙ ap present stays

pub own_there_err : {E : Type 0} (P : State → Type 0) (result : Result Answer E) (before : ℕ) (old new : History)
    → OnErr result (new ≡ old) → P (present old)
    → OnErr result (P (present (history_of (at_book before new))))
own_there_err P (Ok answer) before old new stays holds = tt
own_there_err P (Err e) before old new stays holds = subst P (sym (own_present before old new stays)) holds

-- where nothing was counted
none-ticked : (most count : ℕ) → IsTickedUpTo most count count
none-ticked most count = record { times = 0; few = omega arith; is = refl }

pub not-hinted : (hint : Option PlannedView) (s : State) (now count : ℕ)
    → IfSome hint (λ old. IsHinted old s now count count)
not-hinted None s now count = tt
not-hinted (Some old) s now count = λ steady are. none-ticked _ count

-- a book that is as it was has the history that it had
pub stays_past : {A E : Type 0} (result : Result A E) (old new : BookState) → OnErr result (new ≡ old)
    → OnErr result (history_in new ≡ history_in old)
stays_past (Ok answer) old new stays = tt
stays_past (Err error) old new stays = ap (λ (book : BookState). history_in book) stays
