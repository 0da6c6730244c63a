-- Reading a block and answering it make a turn.
use Rattle.std.proofs.Common.{◌≡◌, None, Some, Ok, Err, inl, inr, refl, sym, ◌∙◌, subst}
use Rattle.std.specs.Io.KnownBytes.{Consumes, Appends}
use Rattle.slurm_io.specs.Bytes.{AppendsFront}
use Rattle.slurm_io.specs.Faults.{CountsOne}
use Rattle.slurm_io.specs.Wire.{Wire}
use Rattle.block_frame.specs.declared.block.Block.{Block}
use Rattle.block_frame.specs.declared.form.Form.{Form}
use Rattle.block_frame.specs.State.{BlocksState}
use Rattle.ctl_session.specs.declared.answer.Fault.TheVariants as fault
use Rattle.ctl_session.specs.declared.reading.Found.TheVariants as found
use Rattle.ctl_session.specs.declared.session.How.TheVariants as how
use Rattle.ctl_session.specs.Reading.{IsFound, TakesBlock, WritesStay}
use Rattle.ctl_session.specs.Turn.{AnswersBlock, AnswersOne, IsTurn, Post, PostReads, WorksBlock}

-- a block that was read, where writing leaves what is left
takes : (old mid new : Wire) (blocks blocks' : BlocksState) (block : Block) → TakesBlock old mid blocks blocks' block
    → new.left ≡ mid.left → TakesBlock old new blocks blocks' block
takes old mid new blocks blocks' block own left = record {
  read = own.read;
  consumed = subst (λ l. Consumes old.left l own.read) (sym left) own.consumed;
  is_block = own.is_block;
  cut = own.cut;
  form = own.form;
  place = own.place;
}

abbrev works : (form : Form) (old mid new : Wire) (at at' : Post) (blocks blocks' : BlocksState) (block : Block)
    → IsFound old mid blocks blocks' (found.Whole block) → new.left ≡ mid.left
    → (one : AnswersOne form block at.desk at'.desk) → PostReads at at' one.answer.moment
    → WorksBlock form old new at at' blocks blocks'
works form old mid new at at' blocks blocks' block found left one reads =
    record { block = block; takes = takes old mid new blocks blocks' block found.0 left; one = one; reads = reads }

pub answered_turn : (form : Form) (old mid new : Wire) (at at' : Post) (blocks blocks' : BlocksState) (block : Block)
    → IsFound old mid blocks blocks' (found.Whole block) → WritesStay old mid
    → AnswersBlock form block mid new at at' (Ok tt)
    → IsTurn form old new at at' blocks blocks' None
answered_turn form old mid new at at' blocks blocks' block found quiet answers =
    let one = answers.2.0 in (
      works form old mid new at at' blocks blocks' block found answers.0.0 one answers.2.2,
      subst (λ t. Appends t new.taken one.answer.reply) quiet.0 answers.2.1,
      answers.0.1 ∙ found.1,
      answers.1 ∙ quiet.1,
    )

pub unwritten_turn : (form : Form) (old mid new : Wire) (at at' : Post) (blocks blocks' : BlocksState) (block : Block)
    → IsFound old mid blocks blocks' (found.Whole block) → WritesStay old mid
    → AnswersBlock form block mid new at at' (Err fault.Write)
    → IsTurn form old new at at' blocks blocks' (Some how.WriteFault)
unwritten_turn form old mid new at at' blocks blocks' block found quiet answers =
    let one = answers.2.0 in (
      works form old mid new at at' blocks blocks' block found answers.0.0 one answers.2.2,
      subst (λ t. AppendsFront t new.taken one.answer.reply) quiet.0 answers.2.1,
      answers.0.1 ∙ found.1,
      subst (λ n. CountsOne n new.writes) quiet.1 answers.1,
    )

pub unanswered_turn : (form : Form) (old mid new : Wire) (at at' : Post) (blocks blocks' : BlocksState) (block : Block)
    → IsFound old mid blocks blocks' (found.Whole block) → WritesStay old mid
    → AnswersBlock form block mid new at at' (Err fault.Memory)
    → IsTurn form old new at at' blocks blocks' (Some how.Memory)
unanswered_turn form old mid new at at' blocks blocks' block found quiet answers =
    let same = answers.0 in
    rw same (
      quiet,
      found.1,
      elim answers.1 [
        | inl none ↦
            inr (inl (record {
              block = block;
              takes = found.0;
              moment = none.0;
              needs = none.1;
              none = none.2;
              reads = none.3;
            }))
        | inr one ↦ inr (inr (works form old mid mid at at' blocks blocks' block found refl one.0 one.1))
      ],
    )
