-- What the lines of a session come to, one action after another: a function of the lines and of the files that were read.
use Rattle.std.specs.Prelude.{ℕ, ◌+◌, Bool, true, false, List, [], ◌∷◌, ◌++◌, map, filter_map, Option, Some, None}
use Rattle.block_frame.specs.declared.block.Block.{Block}
use Rattle.session_text.specs.Blocks.{block_at}
use Rattle.session_text.specs.Heard.{heard_in, reader_after}
use Rattle.session_text.specs.Moments.{moments_of}
use Rattle.session_text.specs.declared.call.Call.{Call}
use Rattle.session_text.specs.declared.call.Script.{Script}
use Rattle.session_text.specs.declared.call.Script.TheVariants as script
use Rattle.session_text.specs.declared.fault.LineFault.{LineFault}
use Rattle.session_text.specs.declared.fault.LineFault.TheVariants.{NoEndLine, NoScript, TooLong}
use Rattle.session_text.specs.declared.reader.Heard.{Heard}
use Rattle.session_text.specs.declared.reader.Heard.TheVariants as heard
use Rattle.session_text.specs.declared.reader.Open.{Open}
use Rattle.session_text.specs.declared.reader.Reader.{Reader}
use Rattle.session_text.specs.CallTexts.{before, end_shown, help_text, shown}
use Rattle.session_text.specs.declared.input.Input.{Input}

-- A text is told; or something is wrong with the line of this number; or that line asks the controller a block.
pub data Action : Type 0 where
  Tells : List ℕ → Action
  Faults : ℕ → LineFault → Action
  Asks : ℕ → Block → Action

-- a call asks this block at one of its moments, or the block would be too long
abbrev pub asking : ℕ → Option Block → Action
asking number (Some block) = Asks number block
asking number None = Faults number TooLong

-- a call that asks at these moments, with this script where it has one
abbrev pub asking_at : ℕ → Call → Option (List ℕ) → List ℕ → List Action
asking_at number call text moments =
    map (λ moment. asking number (block_at moment call.user call.words text)) moments

-- the script that a call has: what was read of its file, where it names one; None is that this couldn't be read
abbrev pub named_script : Option (List ℕ) → Option (Option (List ℕ))
named_script None = None
named_script (Some text) = Some (Some text)

abbrev pub script_read : Script → Option (List ℕ) → Option (Option (List ℕ))
script_read script.Absent file = Some None
script_read (script.Given text) file = Some (Some text)
script_read (script.Named number) file = named_script file

abbrev pub calling : ℕ → Call → Option (Option (List ℕ)) → List Action
calling number call None = Faults number NoScript ∷ []
calling number call (Some text) = asking_at number call text (moments_of call.times)

-- what is heard in the line of this number comes to these actions, where this was read of the file that it names
abbrev pub actions_heard : ℕ → Option (List ℕ) → Heard → List Action
actions_heard number file heard.Nothing = []
actions_heard number file (heard.Asks call) = calling number call (script_read call.script file)
actions_heard number file heard.Help = Tells help_text ∷ []
actions_heard number file heard.Quit = []
actions_heard number file (heard.Wrong fault) = Faults number fault ∷ []

-- a line that was read, and what was read of the file that it names
pub record Line : Type 0 where
  pub text : List ℕ
  pub file : Option (List ℕ)

-- the actions of a line: first it is shown
abbrev pub actions_in : Input → Reader → ℕ → Line → List Action
actions_in input reader number line =
    Tells (shown input line.text) ∷ actions_heard number line.file (heard_in reader line.text)

-- the actions of lines, the first of which has this number
abbrev pub actions_of : Input → Reader → ℕ → List Line → List Action
actions_of input reader number [] = []
actions_of input reader number (line ∷ lines) =
    actions_in input reader number line ++ actions_of input (reader_after reader line.text) (number + 1) lines

-- a script that is open at the end of the input lacks its last line
abbrev pub open_at_end : ℕ → Option Open → List Action
open_at_end number None = []
open_at_end number (Some begun) = Faults number NoEndLine ∷ []

-- the actions at the end of the input, behind the line of this number
abbrev pub actions_at_end : Input → Reader → ℕ → List Action
actions_at_end input reader number = Tells (before input ++ end_shown input) ∷ open_at_end number reader.begun

-- the actions of a line that is longer than a line may be
abbrev pub actions_too_long : Input → ℕ → List Action
actions_too_long input number = Tells (before input) ∷ Faults number TooLong ∷ []

-- whether a line ends the session
abbrev pub is_quit : Heard → Bool
is_quit heard.Quit = true
is_quit other = false

-- what an action asks
abbrev pub block_asked : Action → Option Block
block_asked (Asks number block) = Some block
block_asked action = None

-- the blocks that actions ask
abbrev pub blocks_asked : List Action → List Block
blocks_asked actions = filter_map block_asked actions
