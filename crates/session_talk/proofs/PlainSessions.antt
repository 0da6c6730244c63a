-- The blocks that lines ask, as a session of the plain form.
use Rattle.std.proofs.Common.{◌≡◌, ◌⊎◌, inl, ℕ, ◌+◌, List, [], ◌∷◌, ◌++◌, Option, Some, None, refl, sym, ap, subst, All}
use Rattle.std.specs.Prelude.{map}
use Rattle.std.proofs.lemmas.List.{append-nil}
use Rattle.std.proofs.lemmas.List.Elements.{All-nil, All-cons, All-append}
use Rattle.block_frame.specs.Grammar.{IsBlock, IsPartial, IsBad, IsPlainBlock, blocks_of, rest_of, spelled_all}
use Rattle.block_frame.specs.declared.block.Block.{Block}
use Rattle.block_frame.specs.declared.form.Form.TheVariants.{Plain}
use Rattle.ctl_state.specs.State.{State}
use Rattle.ctl_session.specs.Meaning.{meaning_of, state_behind, told}
use Rattle.session_text.specs.Blocks.{block_at}
use Rattle.session_text.specs.Heard.{heard_in, reader_after}
use Rattle.session_text.specs.Moments.{moments_of}
use Rattle.session_text.specs.declared.call.Call.{Call}
use Rattle.session_text.specs.declared.reader.Heard.{Heard}
use Rattle.session_text.specs.declared.reader.Heard.TheVariants as heard
use Rattle.session_text.specs.declared.reader.Reader.{Reader}
use Rattle.session_text.specs.Actions.{Action, Tells, Faults, Asks, Line, actions_heard, actions_in, actions_of, asking, asking_at, blocks_asked, calling, script_read}
use Rattle.session_text.specs.declared.input.Input.{Input}
use Rattle.session_talk.specs.Plain.{IsPlainSession}
use Rattle.session_talk.specs.Telling.{answers_by, plain_answers, plain_state, state_by}

-- the laws on which this stands
abbrev pub OfCalls : Type 0
OfCalls = (moment : ℕ) (user : List ℕ) (words : List (List ℕ)) (script : Option (List ℕ)) (block : Block)
    → block_at moment user words script ≡ Some block → IsPlainBlock block

abbrev pub CutOnce : Type 0
CutOnce = (blocks : List Block) (rest : List ℕ) → All (IsBlock Plain) blocks → IsPartial Plain rest ⊎ IsBad Plain rest
    → (blocks_of Plain (spelled_all Plain blocks ++ rest) ≡ blocks)
    × (rest_of Plain (spelled_all Plain blocks ++ rest) ≡ rest)

-- the blocks of actions, one after another
blocks-append : (xs ys : List Action) → blocks_asked (xs ++ ys) ≡ blocks_asked xs ++ blocks_asked ys
blocks-append [] ys = refl
blocks-append (Tells text ∷ xs) ys = blocks-append xs ys
blocks-append (Faults number kind ∷ xs) ys = blocks-append xs ys
blocks-append (Asks number block ∷ xs) ys = ap (λ (l : List Block). block ∷ l) (blocks-append xs ys)

-- all of them are of the plain form
abbrev ArePlain : List Action → Type 0
ArePlain actions = All (IsBlock Plain) (blocks_asked actions)

plain_one : (number : ℕ) (found : Option Block) (actions : List Action)
    → ((block : Block) → found ≡ Some block → IsPlainBlock block) → ArePlain actions
    → ArePlain (asking number found ∷ actions)
plain_one number None actions plain others = others
plain_one number (Some block) actions plain others =
    All-cons (IsBlock Plain) block (blocks_asked actions) (plain block refl) others

plain_times : OfCalls → (number : ℕ) (call : Call) (script : Option (List ℕ)) (moments : List ℕ)
    → ArePlain (asking_at number call script moments)
plain_times law number call script [] = All-nil (IsBlock Plain)
plain_times law number call script (moment ∷ moments) =
    plain_one number (block_at moment call.user call.words script) (asking_at number call script moments)
    (law moment call.user call.words script) (plain_times law number call script moments)

plain_call : OfCalls → (number : ℕ) (call : Call) (script : Option (Option (List ℕ))) → ArePlain (calling number call script)
plain_call law number call None = All-nil (IsBlock Plain)
plain_call law number call (Some script) = plain_times law number call script (moments_of call.times)

plain_heard : OfCalls → (number : ℕ) (file : Option (List ℕ)) (h : Heard) → ArePlain (actions_heard number file h)
plain_heard law number file heard.Nothing = All-nil (IsBlock Plain)
plain_heard law number file (heard.Asks call) = plain_call law number call (script_read call.script file)
plain_heard law number file heard.Help = All-nil (IsBlock Plain)
plain_heard law number file heard.Quit = All-nil (IsBlock Plain)
plain_heard law number file (heard.Wrong kind) = All-nil (IsBlock Plain)

plain_lines : OfCalls → (input : Input) (reader : Reader) (number : ℕ) (lines : List Line)
    → ArePlain (actions_of input reader number lines)
plain_lines law input reader number [] = All-nil (IsBlock Plain)
plain_lines law input reader number (line ∷ lines) =
    let others = actions_of input (reader_after reader line.text) (number + 1) lines in
    subst (All (IsBlock Plain)) (sym (blocks-append (actions_in input reader number line) others))
    (All-append (IsBlock Plain) (blocks_asked (actions_in input reader number line)) (blocks_asked others)
    (plain_heard law number line.file (heard_in reader line.text))
    (plain_lines law input (reader_after reader line.text) (number + 1) lines))

-- their answers are those of the blocks alone
answers_are : (s : State) (actions : List Action)
    → answers_by s actions ≡ plain_answers s (map meaning_of (blocks_asked actions))
answers_are s [] = refl
answers_are s (Tells text ∷ actions) = answers_are s actions
answers_are s (Faults number kind ∷ actions) = answers_are s actions
answers_are s (Asks number block ∷ actions) =
    ap (λ (l : List ℕ). told s (meaning_of block) ++ l) (answers_are (state_behind s (meaning_of block)) actions)

state_is : (s : State) (actions : List Action) → state_by s actions ≡ plain_state s (map meaning_of (blocks_asked actions))
state_is s [] = refl
state_is s (Tells text ∷ actions) = state_is s actions
state_is s (Faults number kind ∷ actions) = state_is s actions
state_is s (Asks number block ∷ actions) = state_is (state_behind s (meaning_of block)) actions

pub plain_session : OfCalls → CutOnce → IsPartial Plain [] → (s : State) (input : Input) (reader : Reader) (number : ℕ)
    (lines : List Line) → IsPlainSession s (actions_of input reader number lines)
plain_session law once empty s input reader number lines =
    let actions = actions_of input reader number lines in
    let text = spelled_all Plain (blocks_asked actions) in
    let cut = once (blocks_asked actions) [] (plain_lines law input reader number lines) (inl empty) in
    record {
      cut = subst (λ (l : List ℕ). blocks_of Plain l ≡ blocks_asked actions) (append-nil text) cut.0;
      whole = subst (λ (l : List ℕ). rest_of Plain l ≡ []) (append-nil text) cut.1;
      answers = answers_are s actions;
      state = state_is s actions;
    }
