-- Queries change nothing.
use Rattle.std.proofs.Common.{ℕ, ◌≡◌, Bool, true, false, List, [], ◌∷◌, Option, Some, None, if◌then◌else◌, refl}
use Rattle.std.specs.Prelude.{nat_lt}
use Rattle.reply_data.specs.declared.refusal.Refusal.{Refusal}
use Rattle.reply_data.specs.declared.refusal.Refusal.TheVariants.{MomentTooLarge}
use Rattle.reply_data.specs.declared.reply.Reply.TheVariants.{Refused}
use Rattle.reply_data.specs.declared.view.View.{View}
use Rattle.request_data.specs.declared.query.Query.{Query}
use Rattle.request_data.specs.declared.request.Request.TheVariants.{Show}
use Rattle.ctl_state.specs.Refusals.{first_refusal, refused_if, unless_refused}
use Rattle.ctl_state.specs.State.{State, last_moment}
use Rattle.ctl_state.specs.Verdicts.{Tells, reply_by}
use Rattle.ctl_show.specs.Showing.{show_refusals, view_of}
use Rattle.ctl_core.specs.Sizes.{has_room}
use Rattle.ctl_core.specs.Step.{raised, reply_of, state_after, unless_full}
use Rattle.user_laws.specs.Asking.{answer_to, shown_unless}
use Rattle.step_lemmas.proofs.Steps.{step_is}

pub query_stays : (s : State) (now : ℕ) (user : List ℕ) (query : Query) → state_after s now user (Show query) ≡ s
query_stays s now user query =
    step_is (λ (t : State). t ≡ s) s now user (Show query) refl
    (λ reply after is. absurd (let makes = is.makes in cc))

told : (refusal : Option Refusal) (room : Bool) (view : View)
    → reply_by (unless_refused refusal (unless_full room (Tells view))) ≡ shown_unless refusal view
told None true view = refl
told None false view = refl
told (Some refusal) room view = refl

pub query_answered : (s : State) (now : ℕ) (user : List ℕ) (query : Query)
    → reply_of s now user (Show query) ≡ answer_to s now user query
query_answered s now user query = by (nat_lt last_moment now)
  where
    by : (early : Bool)
        → reply_by (unless_refused (first_refusal (refused_if early MomentTooLarge ∷ None ∷ []))
        (unless_refused (first_refusal (show_refusals s query))
        (unless_full (has_room s (Show query)) (Tells (view_of s (raised s now) user query)))))
        ≡ (if early then Refused MomentTooLarge else
        shown_unless (first_refusal (show_refusals s query)) (view_of s (raised s now) user query))
    by true = refl
    by false =
        told (first_refusal (show_refusals s query)) (has_room s (Show query)) (view_of s (raised s now) user query)
