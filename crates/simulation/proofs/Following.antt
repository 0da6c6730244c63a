-- What is asked at a desk that nobody else's entries come to.
use Rattle.std.proofs.Common.{◌≡◌, ℕ, ◌+◌, ◌≤◌, Bool, true, false, List, [], ◌∷◌, ◌++◌, length, take, Option, None, Some, refl, sym, ap, ◌∙◌, subst, arith, length-append, inl, inr}
use Rattle.std.proofs.Math.Seq.{take-append_seam, take-length}
use Rattle.std.proofs.lemmas.Bool.{cases_Bool}
use Rattle.std.proofs.lemmas.List.{append_assoc, length-take-le, take_all}
use Rattle.request_data.specs.declared.query.Query.{Query}
use Rattle.request_data.specs.declared.request.Request.{Request}
use Rattle.request_data.specs.declared.request.Request.TheVariants.{Show}
use Rattle.reply_data.specs.declared.refusal.Refusal.{Refusal}
use Rattle.reply_data.specs.declared.reply.Reply.{Reply}
use Rattle.reply_data.specs.declared.view.View.{View}
use Rattle.ctl_state.specs.Refusals.{first_refusal, unless_refused}
use Rattle.ctl_state.specs.State.{State}
use Rattle.ctl_state.specs.Soundness.{IsSound}
use Rattle.ctl_state.specs.Verdicts.{Tells, reply_by}
use Rattle.ctl_core.specs.Sizes.{has_room}
use Rattle.ctl_core.specs.Step.{early_refusals, is_entered, raised, refusals_of, reply_of, state_after, unless_full}
use Rattle.ctl_desk.specs.declared.entry.Answer.{Answer}
use Rattle.ctl_desk.specs.declared.entry.Entry.{Entry}
use Rattle.ctl_desk.specs.Desk.{GoesOn, IsAnswered, Sight, history_of, seen, state_at}
use Rattle.ctl_desk.specs.History.{IsHistory, after_all, entry_of}
use Rattle.ctl_desk.proofs.Entering.{after_all-push}
use Rattle.node_daemon.specs.Turn.{root}
use Rattle.simulation.specs.Run.{IfAlone, state_seen}
use Rattle.simulation.specs.Simulation.{behind, told}

-- a request leads to the same state at its raised moment as at its own
abbrev pub RaisedAlike : Type 0
RaisedAlike = (s : State) (now : ℕ) (user : List ℕ) (request : Request) → IsSound s
    → state_after s (raised s now) user request ≡ state_after s now user request

-- where all entries are some and one more, and its place is the last, the others are these
the_others : (all before : List Entry) (entry : Entry) (place : ℕ) → place ≤ length all
    → all ≡ take place all ++ entry ∷ [] → all ≡ before ++ entry ∷ [] → take place all ≡ before
the_others all before entry place within cut more =
    let one : length all ≡ length (take place all) + 1 =
    ap length cut ∙ length-append (take place all) (entry ∷ []) in
    let other : length all ≡ length before + 1 = ap length more ∙ length-append before (entry ∷ []) in
    let at : place ≡ length before = omega (arith, one, other, length-take-le place all within) in
    ap (take place) more ∙ ap (λ n. take n (before ++ entry ∷ [])) at ∙ take-append_seam before (entry ∷ [])

state_stays : (s : State) (now : ℕ) (user : List ℕ) (request : Request) → is_entered (reply_of s now user request) ≡ false
    → s ≡ state_after s now user request
state_stays s now user request refuses = rw refuses refl

pub follows : RaisedAlike
    → (desk desk' : Sight) (now : ℕ) (user : List ℕ) (request : Request) (answer : Answer)
    → IsHistory (history_of desk)
    → GoesOn desk desk'
    → IsAnswered desk desk' now user request answer
    → IfAlone (λ s s'. (answer.reply ≡ reply_of s now user request) × (s' ≡ state_after s now user request)) desk desk'
follows alike desk desk' now user request answer history goes answered alone alone' =
    let before = seen desk in
    let all = seen desk' in
    let s = state_seen desk in
    let opening : desk'.opening ≡ desk.opening = ap (λ (d : Sight). d.opening) goes.1 in
    let same : desk'.before ≡ desk.before = ap (λ (d : Sight). d.before) goes.1 in
    let sound : IsSound s = subst (λ (es : List Entry). IsSound (after_all desk.opening es)) (take-length before)
    (history.sound (length before)) in
    let at = state_at desk.opening all answer.place in
    elim (cases_Bool (is_entered answer.reply)) [
      | inl accepts ↦
          let entry = entry_of at desk.number now user request in
          let cut : all ≡ take answer.place all ++ entry ∷ [] = (answered.accepted accepts).0 in
          let since : desk'.since ≡ desk.since ++ entry ∷ [] =
          sym alone' ∙ (answered.accepted accepts).1 ∙ ap (λ es. es ++ entry ∷ []) alone in
          let more : all ≡ before ++ entry ∷ [] =
          ap (λ es. es ++ desk'.since) same ∙ ap (λ es. desk.before ++ es) since
          ∙ sym (append_assoc desk.before desk.since (entry ∷ [])) in
          let front : take answer.place all ≡ before =
          the_others all before entry answer.place answered.within cut more in
          let there : at ≡ s = ap (after_all desk.opening) front in (
            answered.reply ∙ ap (λ (t : State). reply_of t now user request) there,
            ap (λ o. after_all o all) opening
                ∙ ap (after_all desk.opening) cut
                ∙ after_all-push desk.opening (take answer.place all) entry
                ∙ ap (λ (t : State). state_after t (raised t now) user request) there
                ∙ alike s now user request sound,
          )
      | inr refuses ↦
          let last : answer.place ≡ length all = (answered.other refuses).0 in
          let since : desk'.since ≡ desk.since = sym alone' ∙ (answered.other refuses).1 ∙ alone in
          let more : all ≡ before =
          ap (λ es. es ++ desk'.since) same ∙ ap (λ es. desk.before ++ es) since in
          let front : take answer.place all ≡ before =
          take_all answer.place all (omega (arith, last)) ∙ more in
          let there : at ≡ s = ap (after_all desk.opening) front in
          let reply = answered.reply ∙ ap (λ (t : State). reply_of t now user request) there in (
            reply,
            ap (λ o. after_all o all) opening ∙ ap (after_all desk.opening) more
                ∙ state_stays s now user request (ap is_entered (sym reply) ∙ refuses),
          )
    ]

-- the clause on what is asked at such a desk
abbrev pub Follows : Type 0
Follows = (desk desk' : Sight) (now : ℕ) (user : List ℕ) (request : Request) (answer : Answer)
    → IsHistory (history_of desk)
    → GoesOn desk desk'
    → IsAnswered desk desk' now user request answer
    → IfAlone (λ s s'. (answer.reply ≡ reply_of s now user request) × (s' ≡ state_after s now user request)) desk desk'

-- root is told so, and leaves that
abbrev pub IsTold : ℕ → Request → Reply → State → State → Type 0
IsTold now request reply s s' = (reply ≡ told now request s) × (s' ≡ behind now request s)

pub is_told : Follows → (desk desk' : Sight) (now : ℕ) (user : List ℕ) (request : Request) (answer : Answer)
    → user ≡ root
    → IsHistory (history_of desk)
    → GoesOn desk desk'
    → IsAnswered desk desk' now user request answer
    → IfAlone (IsTold now request answer.reply) desk desk'
unfolding told behind
is_told follows desk desk' now user request answer is_root history goes answered alone alone' =
    subst (λ u. (answer.reply ≡ reply_of (state_seen desk) now u request)
    × (state_seen desk' ≡ state_after (state_seen desk) now u request)) is_root
    (follows desk desk' now user request answer history goes answered alone alone')

-- what is shown is no entry
shows : (early late : Option Refusal) (room : Bool) (view : View)
    → is_entered (reply_by (unless_refused early (unless_refused late (unless_full room (Tells view))))) ≡ false
shows (Some refusal) late room view = refl
shows None (Some refusal) room view = refl
shows None None true view = refl
shows None None false view = refl

shows_only : (s : State) (now : ℕ) (user : List ℕ) (query : Query) → is_entered (reply_of s now user (Show query)) ≡ false
shows_only s now user query =
    shows (first_refusal (early_refusals s now (Show query)))
    (first_refusal (refusals_of s (raised s now) user (Show query)))
    (has_room s (Show query)) _

-- a desk shows what holds of all that it has seen
pub shown : (desk desk' : Sight) (now : ℕ) (user : List ℕ) (query : Query) (answer : Answer)
    → user ≡ root → GoesOn desk desk' → IsAnswered desk desk' now user (Show query) answer
    → answer.reply ≡ told now (Show query) (state_seen desk')
unfolding told
shown desk desk' now user query answer is_root goes answered =
    let all = seen desk' in
    let at = state_at desk.opening all answer.place in
    let no_entry = ap is_entered answered.reply ∙ shows_only at now user query in
    let last : answer.place ≡ length all = (answered.other no_entry).0 in
    let opening : desk.opening ≡ desk'.opening = ap (λ (d : Sight). d.opening) (sym goes.1) in
    let there : at ≡ state_seen desk' =
    ap (after_all desk.opening) (take_all answer.place all (omega (arith, last)))
    ∙ ap (λ o. after_all o all) opening in
    answered.reply ∙ ap (λ (s : State). reply_of s now user (Show query)) there
    ∙ ap (λ u. reply_of (state_seen desk') now u (Show query)) is_root
