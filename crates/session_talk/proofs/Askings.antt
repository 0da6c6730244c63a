-- One action, worked; and a call's, one moment after another.
use Rattle.std.proofs.Common.{◌≡◌, ℕ, suc, Bool, true, false, ◌||◌, List, [], ◌∷◌, ◌++◌, append_assoc, Option, Result, Ok, Err, IfOk, refl, sym, ap, subst, ◌∙◌}
use Rattle.std.proofs.lemmas.List.{append-nil}
use Rattle.command_words.specs.declared.header.Meaning.{Meaning}
use Rattle.block_frame.specs.declared.block.Block.{Block}
use Rattle.ctl_state.specs.State.{State}
use Rattle.ctl_desk.specs.Desk.{Seat, state_of}
use Rattle.ctl_session.specs.Meaning.{meaning_of, told}
use Rattle.session_text.specs.Blocks.{block_at}
use Rattle.session_text.specs.Moments.{later, moments_from}
use Rattle.session_text.specs.declared.call.Call.{Call}
use Rattle.session_text.specs.declared.fault.LineFault.{LineFault}
use Rattle.session_text.specs.Actions.{Action, Asks, Faults, Tells, asking, asking_at, calling}
use Rattle.session_text.specs.CallTexts.{fault_line}
use Rattle.session_talk.specs.Answered.{IsAnswer}
use Rattle.session_talk.specs.Telling.{answer_text, is_refused, told_by}
use Rattle.session_talk.specs.Working.{IsStopped, IsTold, IsWorked, Out, Works, Writes}
use Rattle.session_talk.specs.declared.answer.Told.{Told}
use Rattle.session_talk.specs.declared.fault.Fault.{Fault}
use Rattle.session_talk.proofs.Joining.{or_false, stopped_as, stopped_front, told_as, worked_none, worked_then, worked_then_stopped, works_as}

-- ---- one action

answer_is : (name : List ℕ) (number : ℕ) (s : State) (meaning : Meaning) (refused : Bool) (text : List ℕ)
    → refused ≡ is_refused s meaning → text ≡ told s meaning
    → answer_text name number refused text ≡ answer_text name number (is_refused s meaning) (told s meaning) ++ []
answer_is name number s meaning refused text refused_is text_is =
    ap (λ (r : Bool). answer_text name number r text) refused_is
    ∙ ap (λ (t : List ℕ). answer_text name number (is_refused s meaning) t) text_is
    ∙ sym (append-nil (answer_text name number (is_refused s meaning) (told s meaning)))

pub asked_worked : (name : List ℕ) (number : ℕ) (block : Block) (seat seat' : Seat) (a b : Out) (answer : Told)
    → IsAnswer (meaning_of block) seat seat' answer
    → IsTold (answer_text name number answer.is_refused answer.text.items) a b
    → IsWorked name (Asks number block ∷ []) (state_of seat) (state_of seat') a b answer.is_refused
asked_worked name number block seat seat' a b answer answered written = record {
  told = told_as a b (answer_text name number answer.is_refused answer.text.items)
      (told_by name (state_of seat) (Asks number block ∷ []))
      (answer_is name number (state_of seat) (meaning_of block) answer.is_refused answer.text.items answered.refused
      answered.text)
      written;
  state = answered.behind;
  wrong_is = answered.refused ∙ sym (or_false (is_refused (state_of seat) (meaning_of block)));
}

pub asked_stopped : (name : List ℕ) (number : ℕ) (block : Block) (seat seat' : Seat) (a b : Out) (answer : Told)
    (kind : Fault)
    → IsAnswer (meaning_of block) seat seat' answer
    → IsStopped (answer_text name number answer.is_refused answer.text.items) a b kind
    → IsStopped (told_by name (state_of seat) (Asks number block ∷ [])) a b kind
asked_stopped name number block seat seat' a b answer kind answered stopped =
    stopped_as a b (answer_text name number answer.is_refused answer.text.items)
    (told_by name (state_of seat) (Asks number block ∷ [])) kind
    (answer_is name number (state_of seat) (meaning_of block) answer.is_refused answer.text.items answered.refused
    answered.text)
    stopped

pub wrong_worked : (name : List ℕ) (number : ℕ) (fault : LineFault) (a b : Out) → IsTold (fault_line name number fault) a b
    → (s : State) → IsWorked name (Faults number fault ∷ []) s s a b true
wrong_worked name number fault a b told s = record {
  told = told_as a b (fault_line name number fault) (fault_line name number fault ++ [])
      (sym (append-nil (fault_line name number fault))) told;
  state = refl;
  wrong_is = refl;
}

pub wrong_stopped : (name : List ℕ) (number : ℕ) (fault : LineFault) (a b : Out) (kind : Fault)
    → IsStopped (fault_line name number fault) a b kind
    → (s : State) → IsStopped (told_by name s (Faults number fault ∷ [])) a b kind
wrong_stopped name number fault a b kind stopped s =
    stopped_as a b (fault_line name number fault) (fault_line name number fault ++ []) kind
    (sym (append-nil (fault_line name number fault))) stopped

pub text_worked : (name text : List ℕ) (a b : Out) → IsTold text a b
    → (s : State) → IsWorked name (Tells text ∷ []) s s a b false
text_worked name text a b told s = record {
  told = told_as a b text (text ++ []) (sym (append-nil text)) told;
  state = refl;
  wrong_is = refl;
}

pub text_stopped : (name text : List ℕ) (a b : Out) (kind : Fault) → IsStopped text a b kind
    → (s : State) → IsStopped (told_by name s (Tells text ∷ [])) a b kind
text_stopped name text a b kind stopped s = stopped_as a b text (text ++ []) kind (sym (append-nil text)) stopped

-- a block that was answered, and the answer told or not
pub asked_works : (name : List ℕ) (number : ℕ) (block : Block) (seat seat' : Seat) (a b : Out) (answer : Told)
    (r : Result Bool Fault) → IsAnswer (meaning_of block) seat seat' answer
    → IfOk r (λ refused. refused ≡ answer.is_refused)
    → Writes (answer_text name number answer.is_refused answer.text.items) a b r
    → Works name (Asks number block ∷ []) (state_of seat) (state_of seat') a b r
asked_works name number block seat seat' a b answer (Ok refused) answered is told =
    subst (λ (w : Bool). IsWorked name (Asks number block ∷ []) (state_of seat) (state_of seat') a b w) (sym is)
    (asked_worked name number block seat seat' a b answer answered told)
asked_works name number block seat seat' a b answer (Err kind) answered is stopped =
    asked_stopped name number block seat seat' a b answer kind answered stopped

-- what a call asks at a moment, as it was found
pub asking_works : (name : List ℕ) (number : ℕ) (found found' : Option Block) (s t : State) (a b : Out)
    (r : Result Bool Fault) → found ≡ found' → Works name (asking number found ∷ []) s t a b r
    → Works name (asking number found' ∷ []) s t a b r
asking_works name number found found' s t a b r same works =
    works_as name (asking number found ∷ []) (asking number found' ∷ []) s t a b r
    (ap (λ (o : Option Block). asking number o ∷ []) same) works

-- a call with the script that it has
pub calling_works : (name : List ℕ) (number : ℕ) (call : Call) (script script' : Option (Option (List ℕ))) (s t : State)
    (a b : Out) (r : Result Bool Fault) → script ≡ script' → Works name (calling number call script) s t a b r
    → Works name (calling number call script') s t a b r
calling_works name number call script script' s t a b r same works =
    works_as name (calling number call script) (calling number call script') s t a b r
    (ap (λ (o : Option (Option (List ℕ))). calling number call o) same) works

-- ---- a call's moments, one after another

-- the actions of a call behind its first moments
abbrev pub left_of : ℕ → Call → Option (List ℕ) → ℕ → ℕ → List Action
left_of number call script moment count = asking_at number call script (moments_from moment call.times.step count)

-- the first moments of a call were worked
pub record IsUnderWay (name : List ℕ) (number : ℕ) (call : Call) (script : Option (List ℕ)) (all : List Action)
    (moment count : ℕ) (s s' : State) (old new : Out) (wrong : Bool) : Type 0 where
  pub done : List Action
  pub all_is : all ≡ done ++ left_of number call script moment count
  pub worked : IsWorked name done s s' old new wrong

pub at_start : (name : List ℕ) (number : ℕ) (call : Call) (script : Option (List ℕ)) (moment count : ℕ) (s : State)
    (at : Out) → IsUnderWay name number call script (left_of number call script moment count) moment count s s at at false
at_start name number call script moment count s at =
    record { done = []; all_is = refl; worked = worked_none name s at }

cut_next : (number : ℕ) (call : Call) (script : Option (List ℕ)) (all done : List Action) (moment next count fewer : ℕ)
    → all ≡ done ++ left_of number call script moment count → count ≡ suc fewer → next ≡ later moment call.times.step
    → all ≡ (done ++ asking number (block_at next call.user call.words script) ∷ []) ++ left_of number call script next fewer
cut_next number call script all done moment next count fewer all_is count_is next_is =
    all_is
    ∙ ap (λ (n : ℕ). done ++ left_of number call script moment n) count_is
    ∙ ap (λ (m : ℕ). done ++ asking number (block_at m call.user call.words script) ∷ left_of number call script m fewer)
    (sym next_is)
    ∙ sym (append_assoc done (asking number (block_at next call.user call.words script) ∷ [])
    (left_of number call script next fewer))

pub one_more : (name : List ℕ) (number : ℕ) (call : Call) (script : Option (List ℕ)) (all : List Action)
    (moment next count fewer : ℕ) (s m t : State) (a b c : Out) (u v w : Bool)
    → IsUnderWay name number call script all moment count s m a b u
    → count ≡ suc fewer → next ≡ later moment call.times.step
    → IsWorked name (asking number (block_at next call.user call.words script) ∷ []) m t b c v → w ≡ (u || v)
    → IsUnderWay name number call script all next fewer s t a c w
one_more name number call script all moment next count fewer s m t a b c u v w under_way count_is next_is worked w_is =
    let one = asking number (block_at next call.user call.words script) ∷ [] in
    record {
      done = under_way.done ++ one;
      all_is = cut_next number call script all under_way.done moment next count fewer under_way.all_is count_is next_is;
      worked = subst (λ (x : Bool). IsWorked name (under_way.done ++ one) s t a c x) (sym w_is)
          (worked_then name under_way.done one s m t a b c u v under_way.worked worked);
    }

pub cut_short : (name : List ℕ) (number : ℕ) (call : Call) (script : Option (List ℕ)) (all : List Action)
    (moment next count fewer : ℕ) (s m : State) (a b c : Out) (u : Bool) (kind : Fault)
    → IsUnderWay name number call script all moment count s m a b u
    → count ≡ suc fewer → next ≡ later moment call.times.step
    → IsStopped (told_by name m (asking number (block_at next call.user call.words script) ∷ [])) b c kind
    → IsStopped (told_by name s all) a c kind
cut_short name number call script all moment next count fewer s m a b c u kind under_way count_is next_is stopped =
    let one = asking number (block_at next call.user call.words script) ∷ [] in
    subst (λ (l : List Action). IsStopped (told_by name s l) a c kind)
    (sym (cut_next number call script all under_way.done moment next count fewer under_way.all_is count_is next_is))
    (stopped_front name (under_way.done ++ one) (left_of number call script next fewer) s a c kind
    (worked_then_stopped name under_way.done one s m a b c u kind under_way.worked stopped))

pub at_end : (name : List ℕ) (number : ℕ) (call : Call) (script : Option (List ℕ)) (all : List Action)
    (moment count : ℕ) (s m : State) (a b : Out) (u : Bool)
    → IsUnderWay name number call script all moment count s m a b u → count ≡ 0
    → IsWorked name all s m a b u
at_end name number call script all moment count s m a b u under_way none =
    subst (λ (l : List Action). IsWorked name l s m a b u)
    (sym (under_way.all_is
    ∙ ap (λ (n : ℕ). under_way.done ++ left_of number call script moment n) none ∙ append-nil under_way.done))
    under_way.worked
