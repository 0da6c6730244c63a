-- A session: what it read, what its blocks were answered, what it wrote, and why it ended.
use Rattle.std.specs.Prelude.{◌≡◌, ◌≢◌, ◌⊎◌, ℕ, ◌-◌, ◌<◌, ◌≤◌, Bool, true, false, Option, IfSome, List, [], ◌∷◌, ◌++◌, length, take, All}
use Rattle.std.specs.Io.KnownBytes.{Appends, Consumes, IsAtEnd}
use Rattle.std.specs.Option.{option_to_list}
use Rattle.slurm_io.specs.Faults.{CountsOne}
use Rattle.slurm_io.specs.Wire.{Wire}
use Rattle.block_frame.specs.declared.block.Block.{Block}
use Rattle.block_frame.specs.declared.form.Form.{Form}
use Rattle.block_frame.specs.declared.form.Form.TheVariants.{Plain, Framed}
use Rattle.block_frame.specs.Grammar.{IsBlock, IsPartial, IsBad, spelled, spelled_all}
use Rattle.command_words.specs.declared.framed.Caller.{Caller}
use Rattle.command_words.specs.declared.framed.FramedHead.TheVariants.{Calls}
use Rattle.ctl_desk.specs.Desk.{Sight, history_of, seen}
use Rattle.ctl_desk.specs.History.{IsHistory, present}
use Rattle.ctl_session.specs.declared.session.How.{How}
use Rattle.ctl_session.specs.declared.session.How.TheVariants.{Closed, Truncated, Bad, Spent, ReadFault, WriteFault, Shut, Memory}
use Rattle.ctl_session.specs.declared.session.Ended.{Ended}
use Rattle.ctl_session.specs.Answers.{Answered, Answers, AreAsked, IsOpenBehind, moments, replies}
use Rattle.ctl_session.specs.Clock.{Gives, Timing}
use Rattle.ctl_session.specs.Meaning.{head_of}

-- the most blocks that one session answers
unfoldable pub most_blocks : ℕ
most_blocks = 1048576

-- What a session leaves: the bytes that were read, as the blocks that were answered whole and a rest; at most one block
-- more, with which the rest begins and which was worked, without a whole answer; the answers to the ones and the other;
-- and the moment of a block that wasn't worked, if the clock gave one.
pub record Ending : Type 0 where
  pub blocks : List Block
  pub rest : List ℕ
  pub worked : List Block
  pub answers : List Answered
  pub last : List Answered
  pub unused : Option ℕ

-- the moments that the clock gave, in turn
abbrev pub given : Ending → List ℕ
given e = moments (e.answers ++ e.last) ++ option_to_list e.unused

-- where the rest begins
abbrev pub rest_place : Form → Ending → ℕ
rest_place form e = length (spelled_all form e.blocks)

-- each block that was worked was answered whole, and no write failed
pub record IsWhole (old new : Wire) (e : Ending) : Type 0 where
  pub none_worked : e.worked ≡ []
  pub none_last : e.last ≡ []
  pub sent : Appends old.taken new.taken (replies e.answers)
  pub writes : new.writes ≡ old.writes

-- Why a session ended.
abbrev pub IsCause : Form → Wire → Wire → Ending → How → Type 0
-- the input ended on a block's end
IsCause form old new e Closed = IsWhole old new e × (new.reads ≡ old.reads) × IsAtEnd new.left × (e.rest ≡ [])
-- the input ended within a block
IsCause form old new e (Truncated place) =
    IsWhole old new e × (new.reads ≡ old.reads) × IsAtEnd new.left × IsPartial form e.rest × (e.rest ≢ [])
    × (place ≡ rest_place form e) × (length e.blocks < most_blocks)
-- what follows the blocks can't begin one
IsCause form old new e (Bad place) =
    IsWhole old new e × (new.reads ≡ old.reads) × IsBad form e.rest
    × (place ≡ rest_place form e) × (length e.blocks < most_blocks)
-- as many blocks as one session answers, and more bytes
IsCause form old new e Spent =
    IsWhole old new e × (new.reads ≡ old.reads) × (length e.blocks ≡ most_blocks) × (e.rest ≢ [])
-- a read failed; each whole block of what was read is answered
IsCause form old new e ReadFault = IsWhole old new e × CountsOne old.reads new.reads × IsPartial form e.rest
-- a shutdown was seen behind an answer
IsCause form old new e Shut = IsWhole old new e × (new.reads ≡ old.reads) × (0 < length e.blocks)
-- a write failed within the last answer
IsCause form old new e WriteFault =
    (new.reads ≡ old.reads) × CountsOne old.writes new.writes
    × ((sent : ℕ) × (sent < length (replies e.last))
    × Appends old.taken new.taken (replies e.answers ++ take sent (replies e.last)))
-- memory was wanting, before a last answer was begun
IsCause form old new e Memory =
    (new.reads ≡ old.reads) × (new.writes ≡ old.writes) × Appends old.taken new.taken (replies e.answers)

-- whether a shutdown was accepted, as far as a desk has seen
abbrev pub is_shut : Sight → Bool
is_shut desk = (present (history_of desk)).is_shut

-- no shutdown was seen behind any of these answers
abbrev pub StaysOpen : Sight → List Answered → Type 0
StaysOpen desk answers = All (IsOpenBehind desk.opening (seen desk)) answers

-- How a framed session goes by a shutdown: it ends so at once, behind the first answer where the desk has seen one. No
-- other end follows an answer where one was seen.
abbrev pub EndsByShut : Sight → Ending → How → Type 0
EndsByShut desk e Shut = (is_shut desk ≡ true) × StaysOpen desk (take (length e.answers - 1) e.answers)
EndsByShut desk e WriteFault = StaysOpen desk e.answers
EndsByShut desk e Memory = StaysOpen desk e.answers
EndsByShut desk e how = (0 < length e.blocks → is_shut desk ≡ false) × StaysOpen desk e.answers

-- In the plain form no session ends so.
abbrev pub MindsShut : Form → Sight → Ending → How → Type 0
MindsShut Framed desk e how = EndsByShut desk e how
MindsShut Plain desk e Shut = ⊥
MindsShut Plain desk e how = Unit {0}

-- A clock was read for a block that wasn't worked: want of memory ended the session before, and the block, with which
-- the rest begins, has a caller.
pub record IsUnused (form : Form) (e : Ending) (how : How) : Type 0 where
  pub framed : form ≡ Framed
  pub memory : how ≡ Memory
  pub none_worked : e.worked ≡ []
  pub bounded : length e.blocks < most_blocks
  pub block : Block
  pub more : List ℕ
  pub is_block : IsBlock form block
  pub begins : e.rest ≡ spelled form block ++ more
  pub caller : Caller
  pub calls : head_of block ≡ Calls caller

-- A session was served, from what a desk had seen to what it has seen now, which is a history that the controller
-- keeps, and with a clock that gave these moments meanwhile.
pub record IsServed (form : Form) (old new : Wire) (desk desk' : Sight) (clock clock' : Timing) (ended : Ended)
    (e : Ending) : Type 0 where
  pub consumed : Consumes old.left new.left (spelled_all form e.blocks ++ e.rest)
  pub blocks : All (IsBlock form) e.blocks
  pub one_more : (e.worked ≡ [])
      ⊎ ((block : Block) × (more : List ℕ) × (e.worked ≡ block ∷ []) × IsBlock form block
      × (e.rest ≡ spelled form block ++ more))
  pub bounded : length (e.blocks ++ e.worked) ≤ most_blocks
  pub answered : ended.answered ≡ length e.blocks
  pub asked : AreAsked form e.blocks e.answers
  pub asked_last : AreAsked form e.worked e.last
  pub answers : Answers form desk desk' (e.answers ++ e.last)
  pub history : IsHistory (history_of desk')
  pub cause : IsCause form old new e ended.how
  pub shut : MindsShut form desk' e ended.how
  pub gives : Gives clock clock' (given e)
  pub readings : ended.readings ≡ length (given e)
  pub unused : IfSome e.unused (λ _. IsUnused form e ended.how)
