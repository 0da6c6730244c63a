-- What a block asks, and the clock that was read for it.
use Rattle.std.proofs.Common.{◌≡◌, ℕ, [], ◌∷◌, Option, Some, IfSome, Result, Ok, Err, IfOk, OnErr, refl, sym, subst}
use Rattle.block_frame.specs.declared.block.Block.{Block}
use Rattle.block_frame.specs.declared.form.Form.{Form}
use Rattle.block_frame.specs.declared.form.Form.TheVariants.{Framed}
use Rattle.command_words.specs.FramedHeader.{asked_at}
use Rattle.command_words.specs.declared.framed.Caller.{Caller}
use Rattle.command_words.specs.declared.framed.FramedHead.{FramedHead}
use Rattle.command_words.specs.declared.framed.FramedHead.TheVariants as head
use Rattle.command_words.specs.declared.header.Meaning.{Meaning}
use Rattle.ctl_session.specs.Clock.{Timing}
use Rattle.ctl_session.specs.Meaning.{HeadMeans, Means, head_of}
use Rattle.ctl_session.specs.Turn.{NeedsClock, Reads, ReadsMoment}

-- what a call brings that reads what a block asks
abbrev pub AsksSo : Form → Block → Timing → Timing → ℕ → ℕ → Meaning → Type 0
AsksSo form block clock clock' count count' meaning =
    (moment : Option ℕ) × Means form block meaning moment × ReadsMoment clock clock' count count' moment

-- and where memory was wanting
abbrev pub AsksNot : Form → Block → Timing → Timing → ℕ → ℕ → Type 0
AsksNot form block clock clock' count count' =
    (moment : Option ℕ) × IfSome moment (λ _. NeedsClock form block) × ReadsMoment clock clock' count count' moment

-- a block with a caller, at the moment of the clock
pub called : {E : Type 0} (result : Result Meaning E) (block : Block) (caller : Caller) (moment : ℕ)
    (clock clock' : Timing) (count count' : ℕ) → head_of block ≡ head.Calls caller
    → IfOk result (λ meaning. meaning ≡ asked_at caller moment block.attachment)
    → Reads clock clock' count count' (moment ∷ [])
    → IfOk result (AsksSo Framed block clock clock' count count')
called (Ok meaning) block caller moment clock clock' count count' says is reads =
    let Said : FramedHead → Type 0 = λ h. HeadMeans block.attachment h meaning (Some moment) in
    (Some moment, subst Said (sym says) (moment, refl, is), reads)
called (Err e) block caller moment clock clock' count count' says is reads = tt

pub called_not : {T E : Type 0} (result : Result T E) (block : Block) (caller : Caller) (moment : ℕ)
    (clock clock' : Timing) (count count' : ℕ) → head_of block ≡ head.Calls caller
    → Reads clock clock' count count' (moment ∷ []) → OnErr result (AsksNot Framed block clock clock' count count')
called_not (Ok x) block caller moment clock clock' count count' says reads = tt
called_not (Err e) block caller moment clock clock' count count' says reads = (Some moment, (caller, says), reads)
