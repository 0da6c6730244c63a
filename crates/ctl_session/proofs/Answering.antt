-- What answering a block comes to.
use Rattle.std.proofs.Common.{◌≡◌, ◌⊎◌, ℕ, List, Option, IfSome, Ok, Err, inl, inr, refl, sym, ◌∙◌, subst}
use Rattle.std.specs.Io.KnownBytes.{Appends}
use Rattle.slurm_io.specs.Bytes.{AppendsFront}
use Rattle.slurm_io.specs.Faults.{CountsOne}
use Rattle.slurm_io.specs.Wire.{Wire}
use Rattle.block_frame.specs.declared.block.Block.{Block}
use Rattle.block_frame.specs.declared.form.Form.{Form}
use Rattle.block_frame.specs.declared.form.Form.TheVariants.{Plain, Framed}
use Rattle.command_words.specs.declared.framed.FramedHead.{FramedHead}
use Rattle.command_words.specs.declared.framed.FramedHead.TheVariants as head
use Rattle.command_words.specs.declared.header.Meaning.{Meaning}
use Rattle.ctl_session.specs.declared.answer.Fault.TheVariants as fault
use Rattle.ctl_session.specs.declared.answer.Told.{Told}
use Rattle.ctl_session.specs.Meaning.{HeadMeans, Means, head_of}
use Rattle.ctl_session.specs.Reading.{ReadsStay}
use Rattle.ctl_session.specs.Turn.{AnswersBlock, AnswersOne, MakesNone, NeedsClock, Post, PostReads, Tells, Works, bytes_in}
use Rattle.ctl_session.proofs.Asking.{AsksSo}
use Rattle.ctl_session.proofs.Working.{one_of, told_one}

head_needs : (block : Block) (says : FramedHead) (meaning : Meaning) (moment : Option ℕ) → head_of block ≡ says
    → HeadMeans block.attachment says meaning moment → IfSome moment (λ _. NeedsClock Framed block)
head_needs block (head.Calls caller) meaning moment is means = rw means.1 (caller, is)
head_needs block (head.BadWords place) meaning moment is means = rw means.0 tt
head_needs block head.BadHeader meaning moment is means = rw means.0 tt

-- the clock is read only for a block that needs it
needs : (form : Form) (block : Block) (meaning : Meaning) (moment : Option ℕ) → Means form block meaning moment
    → IfSome moment (λ _. NeedsClock form block)
needs Plain block meaning moment means = rw means.0 tt
needs Framed block meaning moment means = head_needs block (head_of block) meaning moment refl means

-- what was asked and told of a block, as its answer
record Answer (form : Form) (block : Block) (at at' : Post) (bytes : List ℕ) : Type 0 where
  one : AnswersOne form block at.desk at'.desk
  reply : bytes ≡ one.answer.reply
  reads : PostReads at at' one.answer.moment

answer : (form : Form) (block : Block) (at at' : Post) (meaning : Meaning) (told : Told) (bytes : List ℕ)
    → AsksSo form block at.clock at'.clock at.count at'.count meaning → Tells meaning at.desk at'.desk told
    → bytes ≡ bytes_in form told → Answer form block at at' bytes
answer form block at at' meaning told bytes (moment, means, reads) tells spelled =
    let all = told_one form block meaning moment at.desk at'.desk told means tells in
    record { one = all.0; reply = spelled ∙ all.1; reads = subst (PostReads at at') (sym all.2) reads }

pub answered_whole : (form : Form) (block : Block) (old new : Wire) (at at' : Post) (meaning : Meaning) (told : Told)
    (bytes : List ℕ)
    → AsksSo form block at.clock at'.clock at.count at'.count meaning → Tells meaning at.desk at'.desk told
    → bytes ≡ bytes_in form told → ReadsStay old new → new.writes ≡ old.writes
    → Appends old.taken new.taken bytes → AnswersBlock form block old new at at' (Ok tt)
answered_whole form block old new at at' meaning told bytes asked tells spelled stay writes sent =
    let all = answer form block at at' meaning told bytes asked tells spelled in
    (stay, writes, (all.one, subst (Appends old.taken new.taken) all.reply sent, all.reads))

pub answered_part : (form : Form) (block : Block) (old new : Wire) (at at' : Post) (meaning : Meaning) (told : Told)
    (bytes : List ℕ)
    → AsksSo form block at.clock at'.clock at.count at'.count meaning → Tells meaning at.desk at'.desk told
    → bytes ≡ bytes_in form told → ReadsStay old new → CountsOne old.writes new.writes
    → AppendsFront old.taken new.taken bytes → AnswersBlock form block old new at at' (Err fault.Write)
answered_part form block old new at at' meaning told bytes asked tells spelled stay writes sent =
    let all = answer form block at at' meaning told bytes asked tells spelled in
    (stay, writes, (all.one, subst (AppendsFront old.taken new.taken) all.reply sent, all.reads))

-- memory was wanting when it was asked or told
pub untold : (form : Form) (block : Block) (wire : Wire) (at at' : Post) (meaning : Meaning)
    → AsksSo form block at.clock at'.clock at.count at'.count meaning
    → MakesNone at.desk at'.desk ⊎ Works meaning at.desk at'.desk
    → AnswersBlock form block wire wire at at' (Err fault.Memory)
untold form block wire at at' meaning (moment, means, reads) (inl none) =
    (refl, inl (moment, needs form block meaning moment means, none, reads))
untold form block wire at at' meaning (moment, means, reads) (inr works) =
    (refl, inr (one_of form block meaning moment at.desk at'.desk works means, reads))

-- and when its answer was spelled
pub unspelled : (form : Form) (block : Block) (wire : Wire) (at at' : Post) (meaning : Meaning) (told : Told)
    → AsksSo form block at.clock at'.clock at.count at'.count meaning → Tells meaning at.desk at'.desk told
    → AnswersBlock form block wire wire at at' (Err fault.Memory)
unspelled form block wire at at' meaning told asked tells =
    untold form block wire at at' meaning asked (inr tells.works)
