-- What holds of each step of a sound state holds along a history.
use Rattle.std.proofs.Common.{zero, suc, ℕ, ◌≡◌, ◌+◌, ◌∙◌, List, [], ◌∷◌, Some, slice_get, take, refl, sym, ap, subst, arith}
use Rattle.request_data.specs.declared.request.Request.{Request}
use Rattle.request_data.specs.declared.request.Request.TheVariants.{Pass}
use Rattle.ctl_state.specs.Soundness.{IsSound}
use Rattle.ctl_state.specs.State.{State}
use Rattle.ctl_core.specs.Step.{raised, state_after}
use Rattle.ctl_desk.specs.declared.entry.Entry.{Entry}
use Rattle.ctl_desk.specs.History.{History, IsHistory, IsLegal, IsStep, after_all}

-- the entry is a step from the state behind those before it, and leads to the next one
record IsNext (s : State) (entries : List Entry) (place : ℕ) (entry : Entry) : Type 0 where
  pub step : IsStep (after_all s (take place entries)) entry
  pub behind : after_all s (take (suc place) entries)
      ≡ state_after (after_all s (take place entries)) entry.moment entry.user entry.request

next-is : (s : State) (entries : List Entry) (place : ℕ) (entry : Entry) → IsLegal s entries
    → slice_get entries place ≡ Some entry → IsNext s entries place entry
next-is s [] place entry legal is = absurd (cc)
next-is s (first ∷ later) zero entry legal is =
    let same : first ≡ entry = cc in
    subst (λ (one : Entry). IsNext s (first ∷ later) 0 one) same (record { step = legal.0; behind = refl })
next-is s (first ∷ later) (suc place) entry legal is =
    let rest = next-is (state_after s first.moment first.user first.request) later place entry legal.1 is in
    record { step = rest.step; behind = rest.behind }

-- what holds of a pass in every sound state holds of those of a history
pub along_history : (P : State → State → ℕ → Type 0)
    → ((s : State) (now : ℕ) (user : List ℕ) → IsSound s → P s (state_after s now user Pass) (raised s now))
    → (h : History) (place : ℕ) (entry : Entry) → IsHistory h → slice_get h.entries place ≡ Some entry
    → entry.request ≡ Pass
    → P (after_all h.opening (take place h.entries)) (after_all h.opening (take (place + 1) h.entries)) entry.moment
along_history P each h place entry is there pass =
    let s = after_all h.opening (take place h.entries) in
    let next = next-is h.opening h.entries place entry is.legal there in
    let held = each s entry.moment entry.user (is.sound place) in
    let moment : raised s entry.moment ≡ entry.moment = omega (arith, next.step.moment) in
    let behind : state_after s entry.moment entry.user Pass ≡ after_all h.opening (take (suc place) h.entries) =
    sym (next.behind ∙ ap (λ (request : Request). state_after s entry.moment entry.user request) pass) in
    let count : suc place ≡ place + 1 = omega arith in
    subst (λ (n : ℕ). P s (after_all h.opening (take n h.entries)) entry.moment) count
    (subst (λ (after : State). P s after entry.moment) behind
    (subst (P s (state_after s entry.moment entry.user Pass)) moment held))
