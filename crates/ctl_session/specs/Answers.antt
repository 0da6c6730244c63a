-- What a session's blocks are answered.
use Rattle.std.specs.Prelude.{◌≡◌, ℕ, ◌+◌, ◌≤◌, false, Option, Some, List, [], ◌∷◌, length, slice_get, map, All}
use Rattle.std.specs.List.{flat_map}
use Rattle.std.specs.Option.{option_to_list}
use Rattle.block_frame.specs.declared.block.Block.{Block}
use Rattle.block_frame.specs.declared.form.Form.{Form}
use Rattle.command_words.specs.declared.header.Meaning.{Meaning}
use Rattle.ctl_state.specs.State.{State}
use Rattle.ctl_desk.specs.declared.entry.Entry.{Entry}
use Rattle.ctl_desk.specs.Desk.{Sight, later, seen, state_at}
use Rattle.ctl_desk.specs.History.{of_session}
use Rattle.ctl_session.specs.Meaning.{Means, answer_in, entry_made}

-- A block that was answered: the moment that the clock gave for it, if it was read; what the block asked; the place of
-- the history at which it was answered; the bytes of its answer; and the entry that it made there, if any.
pub record Answered : Type 0 where
  pub moment : Option ℕ
  pub meaning : Meaning
  pub place : ℕ
  pub reply : List ℕ
  pub entry : Option Entry

-- It is the controller's answer at that place of the history, in this form, and its entry stands there.
pub record IsAnswerIn (form : Form) (opening : State) (number : ℕ) (history : List Entry) (answer : Answered)
    : Type 0 where
  pub within : answer.place ≤ length history
  pub reply : answer.reply ≡ answer_in form (state_at opening history answer.place) answer.place answer.meaning
  pub entry : answer.entry ≡ entry_made (state_at opening history answer.place) number answer.meaning
  pub stands : (entry : Entry) → answer.entry ≡ Some entry → slice_get history answer.place ≡ Some entry

-- what blocks asked that were answered so
abbrev pub meanings : List Answered → List Meaning
meanings answers = map (λ answer. answer.meaning) answers

-- the moments that the clock gave for them
abbrev pub moments : List Answered → List ℕ
moments answers = flat_map (λ answer. option_to_list answer.moment) answers

-- Blocks and the answers to them go together, one by one.
abbrev pub AreAsked : Form → List Block → List Answered → Type 0
AreAsked form [] [] = Unit {0}
AreAsked form (block ∷ blocks) (answer ∷ answers) =
    Means form block answer.meaning answer.moment × AreAsked form blocks answers
AreAsked form _ _ = ⊥

-- the bytes of the answers, joined
abbrev pub replies : List Answered → List ℕ
replies answers = flat_map (λ answer. answer.reply) answers

-- the entries that they made
abbrev pub entries : List Answered → List Entry
entries answers = flat_map (λ answer. option_to_list answer.entry) answers

-- the first place behind an answer
abbrev pub behind : Answered → ℕ
behind answer = answer.place + length (option_to_list answer.entry)

-- The places rise: the first answer is at `low` or later, each other one behind the one before, and all are up to
-- `high`.
abbrev pub Rise : ℕ → List Answered → ℕ → Type 0
Rise low [] high = low ≤ high
Rise low (answer ∷ answers) high = (low ≤ answer.place) × Rise (behind answer) answers high

-- the history up to the place behind it has no accepted shutdown
abbrev pub IsOpenBehind : State → List Entry → Answered → Type 0
IsOpenBehind opening history answer = (state_at opening history (behind answer)).is_shut ≡ false

-- A desk gave these answers in this form, in turn: each is the controller's at its place, the places rise from what the desk had
-- seen before to what it has seen now, and the entries that came in between and bear its number are those of the
-- answers.
pub record Answers (form : Form) (desk desk' : Sight) (answers : List Answered) : Type 0 where
  pub since : List Entry
  pub goes_on : desk' ≡ later desk since
  pub own : entries answers ≡ of_session desk.number since
  pub each : All (IsAnswerIn form desk.opening desk.number (seen desk')) answers
  pub rise : Rise (length (seen desk)) answers (length (seen desk'))
