-- What one more entry does to a history.
use Rattle.std.proofs.Common.{◌≡◌, ℕ, List, [], ◌∷◌, ◌++◌, length, take, Option, None, Some, refl, sym, ap, ◌∙◌, subst, arith, length-append, inl, inr, Bool, true, false, if◌then◌else◌}
use Rattle.std.specs.Prelude.{IfSome, slice_get}
use Rattle.std.proofs.lemmas.Bool.{cases_lt, cases_Bool, true≢false, false≢true}
use Rattle.std.proofs.lemmas.List.{take-append-le, take_all}
use Rattle.request_data.specs.declared.request.Request.{Request}
use Rattle.request_data.specs.declared.request.Request.TheVariants.{Pass}
use Rattle.ctl_node_side.specs.Passes.{PassIsFree}
use Rattle.ctl_state.specs.State.{State}
use Rattle.ctl_state.specs.Soundness.{IsSound}
use Rattle.ctl_state.specs.Verdicts.{left_by}
use Rattle.ctl_core.specs.Sizes.{size_of}
use Rattle.ctl_core.specs.Step.{state_after, verdict_of, reply_of, raised, is_entered, entered}
use Rattle.ctl_core.specs.declared.reply.Decided.{Decided}
use Rattle.ctl_desk.specs.declared.entry.Entry.{Entry}
use Rattle.ctl_desk.specs.History.{after_all, IsStep, IsLegal, StartsFree, StaysSound, History, IsHistory, entry_of}

-- the last entry acts last
pub after_all-push : (s : State) (es : List Entry) (e : Entry)
    → after_all s (es ++ e ∷ []) ≡ state_after (after_all s es) e.moment e.user e.request
after_all-push s [] e = refl
after_all-push s (a ∷ es) e = after_all-push (state_after s a.moment a.user a.request) es e

pub IsLegal-push : (s : State) (es : List Entry) (e : Entry) → IsLegal s es → IsStep (after_all s es) e
    → IsLegal s (es ++ e ∷ [])
IsLegal-push s [] e legal step = (step, tt)
IsLegal-push s (a ∷ es) e legal step = (
  legal.0,
  IsLegal-push
      (state_after s a.moment a.user a.request) es e legal.1 step,
)

pub StaysSound-push : (s : State) (es : List Entry) (e : Entry) → StaysSound s es
    → IsSound (after_all s (es ++ e ∷ [])) → StaysSound s (es ++ e ∷ [])
StaysSound-push s es e sound last n =
    elim (cases_lt (length es) n) [
      | inl h ↦ rw (take_all n (es ++ e ∷ []) (omega (arith, length-append es (e ∷ [])))) last
      | inr h ↦ rw (take-append-le n es (e ∷ []) h) (sound n)
    ]

-- the law that every pass starts jobs alone that nothing hinders
abbrev pub AllFree : Type 0
AllFree = (s : State) (now : ℕ) → PassIsFree s now

pub all-free : AllFree → (opening : State) (entries : List Entry) → StartsFree opening entries
all-free free opening entries n = by (slice_get entries n)
  where
    by : (found : Option Entry)
        → IfSome found (λ (e : Entry). e.request ≡ Pass → PassIsFree (after_all opening (take n entries)) e.moment)
    by None = tt
    by (Some e) = λ pass. free (after_all opening (take n entries)) e.moment

-- the entry that a decision makes
pub IsHistory-entered : AllFree → (h : History) (session now : ℕ) (user : List ℕ) (request : Request) (t : State) → IsHistory h
    → let s = after_all h.opening h.entries in
    is_entered (reply_of s now user request) ≡ true
    → reply_of s (raised s now) user request ≡ reply_of s now user request
    → state_after s (raised s now) user request ≡ t
    → IsSound t
    → IsHistory (record { opening = h.opening; entries = h.entries ++ entry_of s session now user request ∷ [] })
    × (t ≡ after_all h.opening (h.entries ++ entry_of s session now user request ∷ []))
IsHistory-entered free h session now user request t history accepted same_reply same_state sound =
    let s = after_all h.opening h.entries in
    let e = entry_of s session now user request in
    let reached : t ≡ after_all h.opening (h.entries ++ e ∷ []) =
    sym (after_all-push h.opening h.entries e ∙ same_state) in (
      record {
        legal = IsLegal-push h.opening h.entries e history.legal
            (record { moment = omega arith; reply = sym same_reply; accepted = accepted });
        sound = StaysSound-push h.opening h.entries e history.sound (subst IsSound reached sound);
        starts = all-free free h.opening (h.entries ++ e ∷ []);
      },
      reached,
    )

pub where_true : {X : Type 0} (b : Bool) (one other x : X) → x ≡ (if b then one else other) → b ≡ true → x ≡ one
where_true true one other x chosen is = chosen
where_true false one other x chosen is = absurd (false≢true is)

pub where_false : {X : Type 0} (b : Bool) (one other x : X) → x ≡ (if b then one else other) → b ≡ false → x ≡ other
where_false true one other x chosen is = absurd (true≢false is)
where_false false one other x chosen is = chosen

-- a request is decided at its raised moment as at the one handed in
pub record DecidesAlike : Type 0 where
  pub reply : (s : State) (now : ℕ) (user : List ℕ) (request : Request) → IsSound s
      → reply_of s (raised s now) user request ≡ reply_of s now user request
  pub state : (s : State) (now : ℕ) (user : List ℕ) (request : Request) → IsSound s
      → state_after s (raised s now) user request ≡ state_after s now user request

-- what was decided in the state `s`, which is `t` then
pub record IsDecided (s t : State) (now : ℕ) (user : List ℕ) (request : Request) (decided : Decided) : Type 0 where
  pub reply : decided.reply ≡ reply_of s now user request
  pub moment : decided.moment ≡ raised s now
  pub after : t ≡ state_after s now user request
  pub sound : IsSound s × IsSound t

-- What a decision makes of a history: one entry more where it is accepted, and else nothing.
pub IsHistory-decided : AllFree → (h : History) (session now : ℕ) (user : List ℕ) (request : Request) (decided : Decided)
    (s t : State) (entries : List Entry)
    → DecidesAlike → IsHistory h → s ≡ after_all h.opening h.entries → IsDecided s t now user request decided
    → entries ≡ (if is_entered decided.reply then h.entries ++ record {
      session = session;
      moment =
          decided.moment;
      user = user;
      request = request;
      reply = decided.reply;
    } ∷ [] else h.entries)
    → IsHistory (record { opening = h.opening; entries = entries }) × (t ≡ after_all h.opening entries)
IsHistory-decided free h session now user request decided s t entries alike history present made enters =
    let entry : Entry = record {
      session = session;
      moment = decided.moment;
      user = user;
      request = request;
      reply =
          decided.reply;
    } in
    let more = λ (at : State). h.entries ++ entry_of at session now user request ∷ [] in
    let keeps = λ (es : List Entry). IsHistory (record { opening = h.opening; entries = es }) ×
    (t ≡ after_all h.opening es) in
    elim (cases_Bool (is_entered decided.reply)) [
      | inl accepts ↦
          let entry_is : entry ≡ entry_of s session now user request = cc (made.reply, made.moment) in
          let all : entries ≡ more s = where_true (is_entered decided.reply)
          (h.entries ++ entry ∷ []) h.entries entries enters accepts
          ∙ ap (λ (e : Entry). h.entries ++ e ∷ []) entry_is in
          subst keeps (sym (all ∙ ap more present))
          (IsHistory-entered free h session now user request t history
          (subst (λ (at : State). is_entered (reply_of at now user request) ≡ true) present
          (sym (ap is_entered made.reply) ∙ accepts))
          (subst (λ (at : State). reply_of at (raised at now) user request ≡ reply_of at now user request) present
          (alike.reply s now user request made.sound.0))
          (subst (λ (at : State). state_after at (raised at now) user request ≡ t) present
          (alike.state s now user request made.sound.0 ∙ sym made.after))
          made.sound.1)
      | inr refuses ↦
          subst keeps (sym (where_false (is_entered decided.reply)
          (h.entries ++ entry ∷ []) h.entries entries enters refuses)) (
            history,
            where_false (is_entered (reply_of s now user request))
                (entered (raised s now) (size_of request) (left_by s (verdict_of s now user request))) s t made.after
                (sym (ap is_entered made.reply) ∙ refuses) ∙ present,
          )
    ]
