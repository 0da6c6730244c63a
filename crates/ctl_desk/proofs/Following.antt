-- What is asked at a desk that nobody else's entries come to.
use Rattle.std.proofs.Common.{◌≡◌, ℕ, ◌+◌, ◌≤◌, Bool, true, false, List, [], ◌∷◌, ◌++◌, length, take, refl, sym, ap, ◌∙◌, subst, arith, length-append, inl, inr}
use Rattle.std.proofs.Math.Seq.{take-append_seam, take-length}
use Rattle.std.proofs.lemmas.Bool.{cases_Bool}
use Rattle.std.proofs.lemmas.List.{append_assoc, length-take-le, take_all}
use Rattle.request_data.specs.declared.request.Request.{Request}
use Rattle.ctl_state.specs.State.{State}
use Rattle.ctl_state.specs.Soundness.{IsSound}
use Rattle.ctl_core.specs.Step.{reply_of, state_after, is_entered, raised}
use Rattle.ctl_desk.specs.declared.entry.Answer.{Answer}
use Rattle.ctl_desk.specs.declared.entry.Entry.{Entry}
use Rattle.ctl_desk.specs.Desk.{GoesOn, IsAnswered, Seat, history_of, seen, sight_of, state_at, state_of}
use Rattle.ctl_desk.specs.History.{IsHistory, after_all, entry_of}
use Rattle.ctl_desk.proofs.Entering.{after_all-push}

-- a request leads to the same state at its raised moment as at its own
abbrev pub RaisedAlike : Type 0
RaisedAlike = (s : State) (now : ℕ) (user : List ℕ) (request : Request) → IsSound s
    → state_after s (raised s now) user request ≡ state_after s now user request

-- where all entries are some and one more, and its place is the last, the others are these
the_others : (all before : List Entry) (entry : Entry) (place : ℕ) → place ≤ length all
    → all ≡ take place all ++ entry ∷ [] → all ≡ before ++ entry ∷ [] → take place all ≡ before
the_others all before entry place within cut more =
    let one : length all ≡ length (take place all) + 1 =
    ap length cut ∙ length-append (take place all) (entry ∷ []) in
    let other : length all ≡ length before + 1 = ap length more ∙ length-append before (entry ∷ []) in
    let at : place ≡ length before = omega (arith, one, other, length-take-le place all within) in
    ap (take place) more ∙ ap (λ n. take n (before ++ entry ∷ [])) at ∙ take-append_seam before (entry ∷ [])

state_stays : (s : State) (now : ℕ) (user : List ℕ) (request : Request) → is_entered (reply_of s now user request) ≡ false
    → s ≡ state_after s now user request
state_stays s now user request refuses = rw refuses refl

pub follows : RaisedAlike
    → (old new : Seat) (now : ℕ) (user : List ℕ) (request : Request) (answer : Answer)
    → IsHistory (history_of (sight_of old))
    → GoesOn (sight_of old) (sight_of new)
    → IsAnswered (sight_of old) (sight_of new) now user request answer
    → (answer.reply ≡ reply_of (state_of old) now user request)
    × (state_of new ≡ state_after (state_of old) now user request)
follows alike old new now user request answer history goes answered =
    let before = seen (sight_of old) in
    let all = seen (sight_of new) in
    let s = state_of old in
    let opening : new.opening ≡ old.opening = ap (λ desk. desk.opening) goes.1 in
    let same : new.before ≡ old.before = ap (λ desk. desk.before) goes.1 in
    let sound : IsSound s = subst (λ (es : List Entry). IsSound (after_all old.opening es)) (take-length before)
    (history.sound (length before)) in
    let at = state_at old.opening all answer.place in
    elim (cases_Bool (is_entered answer.reply)) [
      | inl accepts ↦
          let entry = entry_of at 0 now user request in
          let cut : all ≡ take answer.place all ++ entry ∷ [] = (answered.accepted accepts).0 in
          let since : new.since ≡ old.since ++ entry ∷ [] = (answered.accepted accepts).1 in
          let more : all ≡ before ++ entry ∷ [] =
          ap (λ es. es ++ new.since) same ∙ ap (λ es. old.before ++ es) since
          ∙ sym (append_assoc old.before old.since (entry ∷ [])) in
          let front : take answer.place all ≡ before =
          the_others all before entry answer.place answered.within cut more in
          let there : at ≡ s = ap (after_all old.opening) front in (
            answered.reply ∙ ap (λ (t : State). reply_of t now user request) there,
            ap (λ o. after_all o all) opening
                ∙ ap (after_all old.opening) cut
                ∙ after_all-push old.opening (take answer.place all) entry
                ∙ ap (λ (t : State). state_after t (raised t now) user request) there
                ∙ alike s now user request sound,
          )
      | inr refuses ↦
          let last : answer.place ≡ length all = (answered.other refuses).0 in
          let since : new.since ≡ old.since = (answered.other refuses).1 in
          let more : all ≡ before = ap (λ es. es ++ new.since) same ∙ ap (λ es. old.before ++ es) since in
          let front : take answer.place all ≡ before =
          take_all answer.place all (omega (arith, last)) ∙ more in
          let there : at ≡ s = ap (after_all old.opening) front in
          let reply = answered.reply ∙ ap (λ (t : State). reply_of t now user request) there in (
            reply,
            ap (λ o. after_all o all) opening ∙ ap (after_all old.opening) more
                ∙ state_stays s now user request (ap is_entered (sym reply) ∙ refuses),
          )
    ]
