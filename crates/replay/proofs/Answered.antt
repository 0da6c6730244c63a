-- Submissions that are due are handed in, each is answered once, and moments never fall.
use Rattle.reply_data.specs.declared.reply.Reply.{Reply}
use Rattle.ctl_state.specs.State.{State}
use Rattle.std.proofs.Common.{◌≡◌, ℕ, zero, suc, ◌+◌, ◌-◌, ◌≤◌, Bool, true, false, ◌&&◌, not, nat_le, List, [], ◌∷◌, ◌++◌, length, drop, Option, None, Some, refl, sym, ap, ◌∙◌, subst, inl, inr, arith, length-append, length-drop}
use Rattle.std.proofs.lemmas.Bool.{cases_Bool, leb-true}
use Rattle.std.specs.List.{list_any}
use Rattle.trace_text.specs.declared.submission.Submission.{Submission}
use Rattle.replay.specs.declared.pace.Pace.{Pace}
use Rattle.replay.specs.Laws.{EachIsAnswered, MomentsNeverFall}
use Rattle.replay.specs.Replay.{Standing, begun, cleared, event, events, first_moment, due_round, is_over, is_running, launched, most_events, next_moment, replayed, with_due, with_one, with_round}

-- the first that waits is due, or none is
pub due_more : (now : ℕ) (at : Standing) (submission : Submission) (others : List Submission)
    → nat_le submission.moment now ≡ true
    → with_due now at (submission ∷ others) ≡ with_due now (with_one now at submission) others
due_more now at submission others due = rw due refl

pub due_stop : (now : ℕ) (at : Standing) (submission : Submission) (others : List Submission)
    → nat_le submission.moment now ≡ false → with_due now at (submission ∷ others) ≡ at
due_stop now at submission others later = rw later refl

-- no more are answered than wait
few_answers : (now : ℕ) (at : Standing) (submissions : List Submission)
    → length (with_due now at submissions).replies ≤ length at.replies + length submissions
few_answers now at [] = omega arith
few_answers now at (submission ∷ others) = elim (cases_Bool (nat_le submission.moment now)) [
  | inl due ↦
      let more = few_answers now (with_one now at submission) others in
      let one : length (with_one now at submission).replies ≡ length at.replies + 1 = simp length-append in
      subst (λ (r : Standing). length r.replies ≤ length at.replies + suc (length others)) (sym (due_more now at submission others due))
      (omega (arith, more, one))
  | inr later ↦
      subst (λ (r : Standing). length r.replies ≤ length at.replies + suc (length others)) (sym (due_stop now at submission others later))
      (omega arith)
]

-- no more are answered than were handed in
abbrev AreFew : List Submission → Standing → Type 0
AreFew submissions at = length at.replies ≤ length submissions

few_behind : (pace : Pace) (submissions : List Submission) (at : Standing) → AreFew submissions at
    → AreFew submissions (event pace submissions at)
unfolding event cleared launched
few_behind pace submissions at few =
    let now = next_moment pace submissions at in
    let begun = with_round pace.reports (due_round now at) now (cleared now at) in
    let more = few_answers now begun (drop (length at.replies) submissions) in
    omega (arith, more, few, length-drop (length at.replies) submissions)

first_true : (a b c : Bool) → (a && b && c) ≡ true → a ≡ true
first_true true b c all = refl
first_true false b c all = all

all_answered : (submissions : List Submission) (at : Standing) → AreFew submissions at → is_over submissions at ≡ true
    → length at.replies ≡ length submissions
unfolding is_over
all_answered submissions at few over =
    let all : length submissions ≤ length at.replies =
    leb-true (length submissions) (length at.replies)
    (first_true (nat_le (length submissions) (length at.replies)) (not at.busy) (not (list_any is_running at.played)) over) in
    omega (arith, few, all)

along : (n : ℕ) (pace : Pace) (submissions : List Submission) (at end : Standing) → AreFew submissions at
    → events n pace submissions at ≡ Some end → length end.replies ≡ length submissions
along zero pace submissions at end few is = cc
along (suc n) pace submissions at end few is = elim (cases_Bool (is_over submissions (event pace submissions at))) [
  | inl over ↦
      let here : event pace submissions at ≡ end = cc (rw over at is) in
      subst (λ (r : Standing). length r.replies ≡ length submissions) here
      (all_answered submissions (event pace submissions at) (few_behind pace submissions at few) over)
  | inr more ↦
      along n pace submissions (event pace submissions at) end (few_behind pace submissions at few) (rw more at is)
]

pub each_answered : EachIsAnswered
unfolding replayed
each_answered pace submissions s end is =
    along most_events pace submissions (begun (first_moment submissions) s) end (omega arith) is

pub never_fall : MomentsNeverFall
unfolding event cleared launched next_moment
never_fall pace submissions at = omega arith
