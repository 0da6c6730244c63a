-- What was sent, read and written make a call.
use Rattle.std.proofs.Common.{◌≡◌, ℕ, ◌+◌, ◌≤◌, ◌++◌, List, [], length, take, Ok, Err, Option, None, Some, inl, inr, refl, sym, ap, ◌∙◌, subst, arith}
use Rattle.std.specs.declared.alloc.Global.{Global}
use Rattle.std.specs.Prelude.{Vec}
use Rattle.std.specs.Io.KnownBytes.{Appends, Consumes}
use Rattle.std.proofs.lemmas.List.{append-nil, take_at}
use Rattle.slurm_io.specs.Faults.{CountsNone, CountsOne}
use Rattle.slurm_io.specs.Wire.{Wire}
use Rattle.block_frame.specs.declared.block.Block.{Block}
use Rattle.block_frame.specs.declared.form.Form.TheVariants.{Framed}
use Rattle.block_frame.specs.Frames.{announced}
use Rattle.block_frame.specs.Grammar.{IsBlock, spelled}
use Rattle.block_frame.specs.Replies.{IsReply, BeginsWithReply}
use Rattle.slurm_client.specs.declared.called.Called.{Called}
use Rattle.slurm_client.specs.declared.called.Called.TheVariants as called
use Rattle.slurm_client.specs.declared.reading.Unread.TheVariants as unread
use Rattle.slurm_client.specs.Calling.{Completes, HasNoReply, IsCalled, IsOff, IsShown, IsWritten, Received, Sinks}
use Rattle.slurm_client.specs.Reading.{IsFrameRead, IsTooShort, IsUnended, ReadsWithin, WritesStay}
use Rattle.slurm_client.specs.Requests.{IsSent, ReadsStay}
use Rattle.slurm_client.proofs.Filling.{LengthStays}

-- a reply frame ends where its length says
abbrev pub RepliesEnd : Type 0
RepliesEnd = (bytes text : List ℕ) (status place : ℕ) → BeginsWithReply bytes status place text
    → (9 ≤ announced bytes) × (4 + announced bytes ≤ length bytes)
    × IsReply (take (4 + announced bytes) bytes) status place text

-- bytes say one reply at the most
abbrev pub RepliesAreOne : Type 0
RepliesAreOne = (bytes text text' : List ℕ) (status place status' place' : ℕ)
    → IsReply bytes status place text → IsReply bytes status' place' text'
    → (status ≡ status') × (place ≡ place') × (text ≡ text')

-- what is no reply frame

too_short : (read : List ℕ) → RepliesEnd → LengthStays → IsTooShort read → (more : List ℕ) → HasNoReply (read ++ more)
too_short read ends stays (four, low) more status place text begins =
    let high = (ends (read ++ more) text status place begins).0 in
    let says = stays read more (omega arith) in
    absurd (omega arith)

unended : (read : List ℕ) → RepliesEnd → IsUnended read → HasNoReply read
unended read ends less status place text begins =
    let whole = (ends read text status place begins).1 in
    absurd (omega arith)

off_status : (read : List ℕ) → RepliesEnd → LengthStays → length read ≡ 4 + announced read
    → ((status place : ℕ) (text : List ℕ) → ¬ IsReply read status place text)
    → (more : List ℕ) → HasNoReply (read ++ more)
off_status read ends stays whole none more status place text begins =
    let says = stays read more (omega arith) in
    let front : take (4 + announced (read ++ more)) (read ++ more) ≡ read =
    take_at read more (4 + announced (read ++ more)) (omega arith) in
    none status place text (subst (λ f. IsReply f status place text) front (ends (read ++ more) text status place begins).2)

-- what was sent stays so while a reply is read
pub sent : (block : Block) (old mid new : Wire) (frame : List ℕ) → IsBlock Framed block → frame ≡ spelled Framed block
    → Appends old.taken mid.taken frame → mid.writes ≡ old.writes → WritesStay mid new → IsSent block old new
sent block old mid new frame is_block is appended writes stay = record {
  is_block = is_block;
  sent = subst (λ t. Appends old.taken t (spelled Framed block)) (sym stay.0)
      (subst (Appends old.taken mid.taken) is appended);
  writes = stay.1 ∙ writes;
}

-- what is read behind a frame that was sent
consumed : (old mid new : Wire) (read : List ℕ) → ReadsStay old mid → Consumes mid.left new.left read
    → Consumes old.left new.left read
consumed old mid new read stay read_mid = subst (λ l. Consumes l new.left read) stay.0 read_mid

within : (old mid new : Wire) (read : List ℕ) → ReadsStay old mid → ReadsWithin mid new read → ReadsWithin old new read
within old mid new read stay reads = record {
  consumed = consumed old mid new read stay reads.consumed;
  within = reads.within;
  at_once = reads.at_once;
}

received : (old mid new : Wire) (frame : Vec ℕ Global) (status place : ℕ) (text : List ℕ) → ReadsStay old mid
    → IsFrameRead mid new (Ok frame) → IsReply frame.items status place text → Received old new status
received old mid new frame status place text stay (taken, whole, high, reads) is_reply = record {
  read = frame.items;
  place = place;
  text = text;
  consumed = consumed old mid new frame.items stay taken;
  is_reply = is_reply;
  reads = reads ∙ stay.1;
}

-- a frame was read whole, and shown
pub shown_call : (block : Block) (old mid new : Wire) (at at' : Sinks) (frame : Vec ℕ Global) (result : Called)
    → RepliesEnd → LengthStays → IsSent block old new → ReadsStay old mid → IsFrameRead mid new (Ok frame)
    → IsShown frame.items at at' result → IsCalled block old new at at' result
unfolding received
shown_call block old mid new at at' frame (called.Replied status) ends stays is_sent stay read (place, text, is_reply, written) =
    (is_sent, (received old mid new frame status place text stay read is_reply, written))
shown_call block old mid new at at' frame called.ReadFault ends stays is_sent stay read shown = absurd shown
shown_call block old mid new at at' frame called.WriteFault ends stays is_sent stay read (place, text, is_reply, part) =
    inr (is_sent, (received old mid new frame 0 place text stay read is_reply, part))
shown_call block old mid new at at' frame called.BadReply ends stays is_sent stay (taken, whole, high, reads) (none, same) = (
  is_sent,
  reads ∙ stay.1,
  same,
  (
    frame.items,
    record { consumed = consumed old mid new frame.items stay taken; within = omega arith; at_once = λ low. absurd (omega arith) },
    inl (off_status frame.items ends stays whole none),
  ),
)
shown_call block old mid new at at' frame called.Memory ends stays is_sent stay read shown = absurd shown

-- no frame came
pub bad_call : (block : Block) (old mid new : Wire) (at : Sinks) → RepliesEnd → LengthStays → IsSent block old new
    → ReadsStay old mid → IsFrameRead mid new (Err unread.Bad) → IsCalled block old new at at called.BadReply
bad_call block old mid new at ends stays is_sent stay ((read, reads_within, inl short), reads) =
    (is_sent, reads ∙ stay.1, refl, (read, within old mid new read stay reads_within, inl (too_short read ends stays short)))
bad_call block old mid new at ends stays is_sent stay ((read, reads_within, inr (less, end)), reads) =
    (is_sent, reads ∙ stay.1, refl, (read, within old mid new read stay reads_within, inr (unended read ends less, end)))

pub failed_call : (block : Block) (old mid new : Wire) (at : Sinks) → RepliesEnd → IsSent block old new
    → ReadsStay old mid → IsFrameRead mid new (Err unread.ReadFault) → IsCalled block old new at at called.ReadFault
failed_call block old mid new at ends is_sent stay ((read, reads_within, less), counted) = (
  is_sent,
  subst (λ n. CountsOne n new.reads) stay.1 counted,
  refl,
  (read, within old mid new read stay reads_within, unended read ends less),
)

-- where the link tells its bytes and no count rises

-- known bytes that were consumed, and what is left of them
record Split (left : List ℕ) (after : Option (List ℕ)) (read : List ℕ) : Type 0 where
  rest : List ℕ
  told : after ≡ Some rest
  cut : left ≡ read ++ rest

split : (before after : Option (List ℕ)) (left read : List ℕ) → before ≡ Some left → Consumes before after read
    → Split left after read
split None after left read is taken = absurd (cc)
split (Some xs) None left read is taken = absurd taken
split (Some xs) (Some ys) left read is taken = record { rest = ys; told = refl; cut = (let same : left ≡ xs = cc in same) ∙ taken }

none_counted : (before after : ℕ) → CountsNone before after → CountsOne before after → ⊥
none_counted before after none one = omega arith

same_answer : (old new : Wire) (at at' : Sinks) (status' : ℕ) (reply : Received old new status') → RepliesEnd → RepliesAreOne
    → IsWritten status' reply.text at at'
    → (left text : List ℕ) (status place : ℕ) → old.left ≡ Some left → BeginsWithReply left status place text
    → (called.Replied status' ≡ called.Replied status) × IsWritten status text at at'
same_answer old new at at' status' reply ends one written left text status place is begins =
    let cut = split old.left new.left left reply.read is reply.consumed in
    let other : BeginsWithReply left status' reply.place reply.text =
    record { frame = reply.read; more = cut.rest; is_reply = reply.is_reply; cut = cut.cut } in
    let same = one _ reply.text text status' reply.place status place (ends left reply.text status' reply.place other).2
    (ends left text status place begins).2 in (
      ap called.Replied same.0,
      subst (λ s. IsWritten s text at at') same.0 (subst (λ t. IsWritten status' t at at') same.2 written),
    )

none_off : (before after : Option (List ℕ)) (read left text : List ℕ) (status place : ℕ) → before ≡ Some left
    → Consumes before after read → IsOff read after → BeginsWithReply left status place text → ⊥
none_off before after read left text status place is taken (inl off) begins =
    let cut = split before after left read is taken in
    off cut.rest status place text (subst (λ t. BeginsWithReply t status place text) cut.cut begins)
none_off before after read left text status place is taken (inr (none, end)) begins =
    let cut = split before after left read is taken in
    let nothing : cut.rest ≡ [] = rw cut.told at end in
    let all : left ≡ read = cut.cut ∙ ap (λ l. read ++ l) nothing ∙ append-nil read in
    none status place text (subst (λ t. BeginsWithReply t status place text) all begins)

pub completes : (block : Block) (old new : Wire) (at at' : Sinks) (result : Called) → RepliesEnd → RepliesAreOne
    → IsCalled block old new at at' result → Completes old new at at' result
completes block old new at at' (called.Replied status') ends one (is_sent, (reply, written)) left text status place is begins calm =
    inl (same_answer old new at at' status' reply ends one written left text status place is begins)
completes block old new at at' called.ReadFault ends one (is_sent, counted, same, rest) left text status place is begins calm =
    absurd (none_counted _ _ calm.reads counted)
completes block old new at at' called.WriteFault ends one (inl (short, same)) left text status place is begins calm =
    absurd (none_counted _ _ calm.writes short.writes)
completes block old new at at' called.WriteFault ends one (inr (is_sent, (reply, part))) left text status place is begins calm =
    absurd (none_counted _ _ calm.output part.faults)
completes block old new at at' called.BadReply ends one (is_sent, reads, same, (read, reads_within, off)) left text status place is begins calm =
    absurd (none_off old.left new.left read left text status place is reads_within.consumed off begins)
completes block old new at at' called.Memory ends one call left text status place is begins calm = inr refl
