-- One turn of a session: what it reads, works and writes.
use Rattle.std.specs.Prelude.{◌≡◌, ◌≢◌, ◌⊎◌, ℕ, ◌+◌, ◌≤◌, IfSome, Option, None, Some, Result, Ok, Err, List, [], ◌∷◌, ◌++◌, length, slice_get}
use Rattle.std.specs.Io.KnownBytes.{Appends, Consumes, Keeps, IsAtEnd}
use Rattle.std.specs.Option.{option_to_list}
use Rattle.slurm_io.specs.Bytes.{AppendsFront}
use Rattle.slurm_io.specs.Faults.{CountsOne}
use Rattle.slurm_io.specs.Wire.{Wire}
use Rattle.block_frame.specs.declared.block.Block.{Block}
use Rattle.block_frame.specs.declared.form.Form.{Form}
use Rattle.block_frame.specs.declared.form.Form.TheVariants.{Plain, Framed}
use Rattle.block_frame.specs.Grammar.{IsPartial, IsBad}
use Rattle.block_frame.specs.Replies.{reply_frame}
use Rattle.block_frame.specs.State.{BlocksState}
use Rattle.command_words.specs.declared.framed.Caller.{Caller}
use Rattle.command_words.specs.declared.framed.FramedHead.TheVariants.{Calls}
use Rattle.command_words.specs.declared.header.Meaning.{Meaning}
use Rattle.ctl_desk.specs.declared.entry.Entry.{Entry}
use Rattle.ctl_desk.specs.Desk.{Sight, GoesOn, later, seen, state_at}
use Rattle.ctl_desk.specs.History.{of_session}
use Rattle.ctl_session.specs.declared.answer.Fault.{Fault}
use Rattle.ctl_session.specs.declared.answer.Fault.TheVariants as fault
use Rattle.ctl_session.specs.declared.answer.Told.{Told}
use Rattle.ctl_session.specs.declared.session.How.{How}
use Rattle.ctl_session.specs.declared.session.How.TheVariants as how
use Rattle.ctl_session.specs.Answers.{Answered, Answers, behind}
use Rattle.ctl_session.specs.Clock.{Gives, Timing}
use Rattle.ctl_session.specs.Meaning.{Means, entry_made, head_of, place_told, status_told, told}
use Rattle.ctl_session.specs.Reading.{TakesBlock, TakesNone, ReadsStay, WritesStay}

-- Where a session asks: the desk and the clock, and how often it has read the clock.
pub record Post : Type 0 where
  pub desk : Sight
  pub clock : Timing
  pub count : ℕ

abbrev pub post : Sight → Timing → ℕ → Post
post desk clock count = record { desk = desk; clock = clock; count = count }

-- the clock gave these moments, and as many readings were counted
abbrev pub Reads : Timing → Timing → ℕ → ℕ → List ℕ → Type 0
Reads clock clock' count count' given = Gives clock clock' given × (count' ≡ count + length given)

abbrev pub ReadsMoment : Timing → Timing → ℕ → ℕ → Option ℕ → Type 0
ReadsMoment clock clock' count count' moment = Reads clock clock' count count' (option_to_list moment)

abbrev pub PostReads : Post → Post → Option ℕ → Type 0
PostReads old new moment = ReadsMoment old.clock new.clock old.count new.count moment

-- the clock is read for such a block
abbrev pub NeedsClock : Form → Block → Type 0
NeedsClock Plain block = ⊥
NeedsClock Framed block = (caller : Caller) × (head_of block ≡ Calls caller)

-- a desk went on, and nothing was made at it
abbrev pub MakesNone : Sight → Sight → Type 0
MakesNone desk desk' = GoesOn desk desk' × (desk'.mine ≡ desk.mine)

-- A desk answered what was asked at a place of the history, which it has seen since up to behind the answer.
pub record Works (meaning : Meaning) (desk desk' : Sight) : Type 0 where
  pub place : ℕ
  pub entry : Option Entry
  pub since : List Entry
  pub goes_on : desk' ≡ later desk since
  pub own : option_to_list entry ≡ of_session desk.number since
  pub from : length (seen desk) ≤ place
  pub behind : place + length (option_to_list entry) ≡ length (seen desk')
  pub made : entry ≡ entry_made (state_at desk.opening (seen desk') place) desk.number meaning
  pub stands : (e : Entry) → entry ≡ Some e → slice_get (seen desk') place ≡ Some e

-- the text, the status and the place of an answer
pub record Tells (meaning : Meaning) (desk desk' : Sight) (answer : Told) : Type 0 where
  pub works : Works meaning desk desk'
  pub text : answer.text.items ≡ told (state_at desk.opening (seen desk') works.place) meaning
  pub status : answer.status ≡ status_told (state_at desk.opening (seen desk') works.place) meaning
  pub place : answer.place ≡ place_told works.place meaning

-- the bytes of an answer in a form
abbrev pub bytes_in : Form → Told → List ℕ
bytes_in Plain answer = answer.text.items
bytes_in Framed answer = reply_frame answer.status answer.place answer.text.items

-- a desk answered a block
pub record AnswersOne (form : Form) (block : Block) (desk desk' : Sight) : Type 0 where
  pub answer : Answered
  pub means : Means form block answer.meaning answer.moment
  pub answers : Answers form desk desk' (answer ∷ [])
  pub behind : behind answer ≡ length (seen desk')

-- A block was answered whole, or its answer's write failed, or memory was wanting before that.
abbrev pub AnswersBlock : Form → Block → Wire → Wire → Post → Post → Result (Unit {0}) Fault → Type 0
AnswersBlock form block old new at at' (Ok done) =
    ReadsStay old new × (new.writes ≡ old.writes)
    × ((one : AnswersOne form block at.desk at'.desk) × Appends old.taken new.taken one.answer.reply
    × PostReads at at' one.answer.moment)
AnswersBlock form block old new at at' (Err fault.Write) =
    ReadsStay old new × CountsOne old.writes new.writes
    × ((one : AnswersOne form block at.desk at'.desk) × AppendsFront old.taken new.taken one.answer.reply
    × PostReads at at' one.answer.moment)
AnswersBlock form block old new at at' (Err fault.Memory) =
    (new ≡ old)
    × (((moment : Option ℕ) × IfSome moment (λ _. NeedsClock form block) × MakesNone at.desk at'.desk
    × PostReads at at' moment)
    ⊎ ((one : AnswersOne form block at.desk at'.desk) × PostReads at at' one.answer.moment))

-- a block was read, and answered by the desk, and the clock was read for it where it needs that
pub record WorksBlock (form : Form) (old new : Wire) (at at' : Post) (blocks blocks' : BlocksState) : Type 0 where
  pub block : Block
  pub takes : TakesBlock old new blocks blocks' block
  pub one : AnswersOne form block at.desk at'.desk
  pub reads : PostReads at at' one.answer.moment

-- a block was read, and the clock for it perhaps, and nothing of it was worked
pub record DropsBlock (form : Form) (old new : Wire) (at at' : Post) (blocks blocks' : BlocksState) : Type 0 where
  pub block : Block
  pub takes : TakesBlock old new blocks blocks' block
  pub moment : Option ℕ
  pub needs : IfSome moment (λ _. NeedsClock form block)
  pub none : MakesNone at.desk at'.desk
  pub reads : PostReads at at' moment

-- all that was read is pending, nothing was written, nothing asked, and the clock not read
pub record IsQuiet (old new : Wire) (at at' : Post) (blocks blocks' : BlocksState) : Type 0 where
  pub takes : TakesNone old new blocks blocks'
  pub writes : WritesStay old new
  pub stays : at' ≡ at

-- A turn answers a block, or it is the last one.
abbrev pub IsTurn : Form → Wire → Wire → Post → Post → BlocksState → BlocksState → Option How → Type 0
IsTurn form old new at at' blocks blocks' None =
    (works : WorksBlock form old new at at' blocks blocks')
    × Appends old.taken new.taken works.one.answer.reply × (new.reads ≡ old.reads) × (new.writes ≡ old.writes)
IsTurn form old new at at' blocks blocks' (Some how.Closed) =
    IsQuiet old new at at' blocks blocks' × (new.reads ≡ old.reads) × IsAtEnd new.left × (blocks'.pending ≡ [])
IsTurn form old new at at' blocks blocks' (Some (how.Truncated place)) =
    IsQuiet old new at at' blocks blocks' × (new.reads ≡ old.reads) × IsAtEnd new.left
    × IsPartial blocks'.form blocks'.pending × (blocks'.pending ≢ []) × (place ≡ blocks'.place)
IsTurn form old new at at' blocks blocks' (Some (how.Bad place)) =
    IsQuiet old new at at' blocks blocks' × (new.reads ≡ old.reads)
    × IsBad blocks'.form blocks'.pending × (place ≡ blocks'.place)
IsTurn form old new at at' blocks blocks' (Some how.Spent) = ⊥
IsTurn form old new at at' blocks blocks' (Some how.Shut) = ⊥
IsTurn form old new at at' blocks blocks' (Some how.ReadFault) =
    IsQuiet old new at at' blocks blocks' × CountsOne old.reads new.reads × IsPartial blocks'.form blocks'.pending
IsTurn form old new at at' blocks blocks' (Some how.WriteFault) =
    (works : WorksBlock form old new at at' blocks blocks')
    × AppendsFront old.taken new.taken works.one.answer.reply
    × (new.reads ≡ old.reads) × CountsOne old.writes new.writes
IsTurn form old new at at' blocks blocks' (Some how.Memory) =
    WritesStay old new × (new.reads ≡ old.reads)
    × (((read : List ℕ) × Consumes old.left new.left read × (at' ≡ at))
    ⊎ (DropsBlock form old new at at' blocks blocks' ⊎ WorksBlock form old new at at' blocks blocks'))

-- After the last block that a session may answer: more bytes, the end of the input, or a read that failed.
abbrev pub IsLastLook : Wire → Wire → List ℕ → How → Type 0
IsLastLook old new pending how.Spent =
    (read : List ℕ) × Consumes old.left new.left read × (pending ++ read ≢ [])
    × WritesStay old new × (new.reads ≡ old.reads)
IsLastLook old new pending how.Closed =
    Keeps old.left new.left × IsAtEnd new.left × (pending ≡ []) × WritesStay old new × (new.reads ≡ old.reads)
IsLastLook old new pending how.ReadFault =
    Keeps old.left new.left × (pending ≡ []) × WritesStay old new × CountsOne old.reads new.reads
IsLastLook old new pending _ = ⊥
