-- What a block is answered at a desk that nobody else asks.
use Rattle.std.proofs.Common.{◌≡◌, ℕ, true, List, Result, Ok, Err, IfOk, ap, subst, ◌∙◌}
use Rattle.std.specs.Prelude.{Vec, ◌==◌}
use Rattle.std.specs.declared.alloc.Global.{Global}
use Rattle.command_words.specs.declared.header.Asked.{Asked}
use Rattle.command_words.specs.declared.header.Meaning.{Meaning}
use Rattle.command_words.specs.declared.header.Meaning.TheVariants.{Asks}
use Rattle.ctl_core.specs.Step.{reply_of, state_after}
use Rattle.ctl_desk.specs.Desk.{Seat, state_of}
use Rattle.ctl_session.specs.Meaning.{state_behind, status_by, status_told, told}
use Rattle.ctl_state.specs.State.{State}
use Rattle.reply_data.specs.declared.reply.Reply.{Reply}
use Rattle.slurm_print.specs.Text.{text_of}
use Rattle.session_talk.specs.Answered.{IsAnswer}
use Rattle.session_talk.specs.declared.answer.Told.{Told}

-- a reply, and its text
pub asked_answer : (seat seat' : Seat) (asked : Asked) (reply : Reply) (answer : Told)
    → reply ≡ reply_of (state_of seat) asked.moment asked.user asked.request
    → state_of seat' ≡ state_after (state_of seat) asked.moment asked.user asked.request
    → answer.text.items ≡ text_of asked.request reply → answer.is_refused ≡ (status_by reply == 1)
    → IsAnswer (Asks asked) seat seat' answer
asked_answer seat seat' asked reply answer reply_is state_is text_is refused_is = record {
  text = text_is ∙ ap (text_of asked.request) reply_is;
  refused = refused_is ∙ ap (λ (r : Reply). status_by r == 1) reply_is;
  behind = state_is;
}

-- what asks nothing is told the same in every state, and leaves it
pub record AsksNone (meaning : Meaning) (text : List ℕ) : Type 0 where
  pub tells : (s : State) → text ≡ told s meaning
  pub status : (s : State) → true ≡ (status_told s meaning == 1)
  pub stays : (s : State) → s ≡ state_behind s meaning

pub unasked_answer : {E : Type 0} (result : Result Told E) (written : Result (Vec ℕ Global) E) (seat : Seat)
    (meaning : Meaning) (text : List ℕ) → AsksNone meaning text
    → IfOk written (λ bytes. bytes.items ≡ text)
    → IfOk result (λ answer. (written ≡ Ok answer.text) × (answer.is_refused ≡ true))
    → IfOk result (λ answer. IsAnswer meaning seat seat answer)
unasked_answer (Ok answer) written seat meaning text none is (written_is, refused) =
    let items : answer.text.items ≡ text = subst (λ (w : Result (Vec ℕ Global) _). IfOk w (λ bytes. bytes.items ≡ text)) written_is is in
    record {
      text = items ∙ none.tells (state_of seat);
      refused = refused ∙ none.status (state_of seat);
      behind = none.stays (state_of seat);
    }
unasked_answer (Err e) written seat meaning text none is so = tt
