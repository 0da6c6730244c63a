-- The answers of a desk that nobody else asks.
use Rattle.std.proofs.Common.{◌≡◌, ℕ, zero, suc, ◌+◌, ◌≤◌, true, false, List, [], ◌∷◌, ◌++◌, Option, None, Some, length, take, slice_get, inl, inr, refl, ap, ◌∙◌, subst, arith, length-append, add-zero, All}
use Rattle.std.proofs.lemmas.Bool.{cases_Bool}
use Rattle.std.proofs.lemmas.List.Elements.{All-head, All-tail}
use Rattle.std.specs.Option.{option_to_list}
use Rattle.request_data.specs.declared.request.Request.{Request}
use Rattle.command_words.specs.declared.header.Asked.{Asked}
use Rattle.block_frame.specs.declared.form.Form.TheVariants.{Plain}
use Rattle.ctl_state.specs.State.{State}
use Rattle.ctl_state.specs.Soundness.{IsSound}
use Rattle.ctl_core.specs.Step.{reply_of, state_after, is_entered, raised}
use Rattle.ctl_desk.specs.declared.entry.Entry.{Entry}
use Rattle.ctl_desk.specs.Desk.{state_at}
use Rattle.ctl_desk.specs.History.{after_all, StaysSound, entry_of}
use Rattle.ctl_desk.proofs.Entering.{after_all-push}
use Rattle.command_words.specs.declared.header.Meaning.{Meaning}
use Rattle.command_words.specs.declared.header.Meaning.TheVariants.{Asks}
use Rattle.ctl_session.specs.Answers.{Answered, IsAnswerIn, Rise, behind, entries, meanings, replies}
use Rattle.ctl_session.specs.Meaning.{told, state_behind, entry_made}
use Rattle.script_run.specs.Script.{told_all, state_behind_all}

-- a request is decided at its raised moment as at its own
abbrev pub RaisedAlike : Type 0
RaisedAlike = (s : State) (now : ℕ) (user : List ℕ) (request : Request) → IsSound s
    → state_after s (raised s now) user request ≡ state_after s now user request

-- the front of a list up to a member, and that member
take_through : {X : Type 0} (xs : List X) (n : ℕ) (x : X) → slice_get xs n ≡ Some x
    → take (n + 1) xs ≡ take n xs ++ x ∷ []
take_through [] n x h = absurd cc
take_through (a ∷ xs) zero x h = cc
take_through (a ∷ xs) (suc n) x h = let e : suc n + 1 ≡ suc (n + 1) =
    omega arith in rw e (ap (λ l. a ∷ l) (take_through xs n x h))

-- where an entry stands at a place, the state behind it is what its request leaves
state_behind_entry : (opening : State) (history : List Entry) (place number : ℕ) (asked : Asked) → RaisedAlike
    → StaysSound opening history
    → slice_get history place
    ≡ Some (entry_of (state_at opening history place) number asked.moment asked.user asked.request)
    → state_at opening history (place + 1) ≡ state_behind (state_at opening history place) (Asks asked)
state_behind_entry opening history place number asked alike sound stands =
    let s = state_at opening history place in
    let entry = entry_of s number asked.moment asked.user asked.request in
    ap (after_all opening) (take_through history place entry stands)
    ∙ after_all-push opening (take place history) entry
    ∙ alike s asked.moment asked.user asked.request (sound place)

entered_made : (s : State) (number : ℕ) (asked : Asked) → is_entered
    (reply_of s asked.moment asked.user asked.request) ≡ true
    → entry_made s number (Asks asked) ≡ Some (entry_of s number asked.moment asked.user asked.request)
entered_made s number asked accepts = rw accepts refl

none_made : (s : State) (number : ℕ) (asked : Asked) → is_entered (reply_of s asked.moment asked.user asked.request)
    ≡ false
    → entry_made s number (Asks asked) ≡ None
none_made s number asked refuses = rw refuses refl

state_stays : (s : State) (asked : Asked) → is_entered (reply_of s asked.moment asked.user asked.request) ≡ false
    → s ≡ state_behind s (Asks asked)
state_stays s asked refuses = rw refuses refl

-- the state behind an answer is what its request leaves of the state at its place
state_next : (opening : State) (number : ℕ) (history : List Entry) (meaning : Meaning) (place : ℕ)
    (entry : Option Entry) → RaisedAlike → StaysSound opening history
    → entry ≡ entry_made (state_at opening history place) number meaning
    → ((e : Entry) → entry ≡ Some e → slice_get history place ≡ Some e)
    → state_at opening history (place + length (option_to_list entry))
    ≡ state_behind (state_at opening history place) meaning
state_next opening number history (Asks asked) place entry alike sound made stands =
    let s = state_at opening history place in
    elim (cases_Bool (is_entered (reply_of s asked.moment asked.user asked.request))) [
      | inl accepts ↦
          let is : entry ≡ Some (entry_of s number asked.moment asked.user asked.request) = made
          ∙ entered_made s number asked accepts in
          ap (λ (o : Option Entry). state_at opening history (place + length (option_to_list o))) is
          ∙ state_behind_entry opening history place number asked alike sound (stands _ is)
      | inr refuses ↦
          let is : entry ≡ None = made ∙ none_made s number asked refuses in
          ap (λ (o : Option Entry). state_at opening history (place + length (option_to_list o))) is
          ∙ ap (state_at opening history) (add-zero place)
          ∙ state_stays s asked refuses
    ]
state_next opening number history meaning place entry alike sound made stands =
    ap (λ (o : Option Entry). state_at opening history (place + length (option_to_list o))) made
    ∙ ap (state_at opening history) (add-zero place)

-- each entry has a place of its own
entries_fit : (low : ℕ) (answers : List Answered) (high : ℕ) → Rise low answers high
    → length (entries answers) + low ≤ high
entries_fit low [] high rise = omega (arith, rise)
entries_fit low (a ∷ answers) high rise =
    let later = entries_fit (behind a) answers high rise.1 in
    omega (arith, rise.0, later, length-append (option_to_list a.entry) (entries answers))

-- Answers whose entries are all those of a history from a place on: the first stands at that place, and the others go
-- on from behind it.
pub record Alone (opening : State) (number : ℕ) (history : List Entry) (low : ℕ)
    (answers : List Answered) : Type 0 where
  pub each : All (IsAnswerIn Plain opening number history) answers
  pub rise : Rise low answers (length history)
  pub all : length (entries answers) + low ≡ length history

pub at_place : (opening : State) (number : ℕ) (history : List Entry) (low : ℕ) (a : Answered)
    (answers : List Answered) → Alone opening number history low (a ∷ answers) → a.place ≡ low
at_place opening number history low a answers alone =
    let later = entries_fit (behind a) answers (length history) alone.rise.1 in
    omega (arith, alone.rise.0, later, alone.all, length-append (option_to_list a.entry) (entries answers))

pub goes_alone : (opening : State) (number : ℕ) (history : List Entry) (low : ℕ) (a : Answered)
    (answers : List Answered) → Alone opening number history low (a ∷ answers)
    → Alone opening number history (behind a) answers
goes_alone opening number history low a answers alone = record {
  each = All-tail (IsAnswerIn Plain opening number history) a answers alone.each;
  rise = alone.rise.1;
  all = omega (
    arith,
    at_place opening number history low a answers alone,
    alone.all,
    length-append (option_to_list a.entry) (entries answers),
  );
}

-- the state behind the first of them
pub next_state : (opening : State) (number : ℕ) (history : List Entry) (low : ℕ) (a : Answered)
    (answers : List Answered) → RaisedAlike → StaysSound opening history
    → Alone opening number history low (a ∷ answers) → state_at opening history (behind a)
    ≡ state_behind (state_at opening history low) a.meaning
next_state opening number history low a answers alike sound alone =
    let own = All-head (IsAnswerIn Plain opening number history) a answers alone.each in
    state_next opening number history a.meaning a.place a.entry alike sound own.entry own.stands
    ∙ ap (λ p. state_behind (state_at opening history p) a.meaning)
    (at_place opening number history low a answers alone)

-- the first answers are a script's
pub told_first : (opening : State) (number : ℕ) (history : List Entry) (low : ℕ) (first others : List Answered)
    → RaisedAlike → StaysSound opening history
    → Alone opening number history low (first ++ others)
    → replies first ≡ told_all (state_at opening history low) (meanings first)
told_first opening number history low [] others alike sound alone = refl
told_first opening number history low (a ∷ first) others alike sound alone =
    let s = state_at opening history low in
    let own = All-head (IsAnswerIn Plain opening number history) a (first ++ others) alone.each in
    let reply : a.reply ≡ told s a.meaning =
    own.reply ∙ ap (λ p. told (state_at opening history p) a.meaning)
    (at_place opening number history low a (first ++ others) alone) in
    let later = told_first opening number history (behind a) first others alike sound
    (goes_alone opening number history low a (first ++ others) alone) in
    let next = next_state opening number history low a (first ++ others) alike sound alone in
    ap (λ l. l ++ replies first) reply ∙ ap (λ l. told s a.meaning ++ l)
    (later ∙ ap (λ t. told_all t (meanings first)) next)

-- each state that they lead to is one of the history, and sound
pub leads_soundly : (opening : State) (number : ℕ) (history : List Entry) (low : ℕ) (answers : List Answered) (n : ℕ)
    → RaisedAlike → StaysSound opening history
    → Alone opening number history low answers
    → IsSound (state_behind_all (state_at opening history low) (take n (meanings answers)))
leads_soundly opening number history low [] zero alike sound alone = sound low
leads_soundly opening number history low [] (suc n) alike sound alone = sound low
leads_soundly opening number history low (a ∷ answers) zero alike sound alone = sound low
leads_soundly opening number history low (a ∷ answers) (suc n) alike sound alone =
    subst (λ t. IsSound (state_behind_all t (take n (meanings answers))))
    (next_state opening number history low a answers alike sound alone)
    (leads_soundly opening number history (behind a) answers n alike sound
    (goes_alone opening number history low a answers alone))
