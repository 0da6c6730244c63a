-- What the ends of a call say of counts, replies and lengths.
use Rattle.std.proofs.Common.{◌≡◌, ◌⊎◌, ℕ, ◌+◌, ◌<◌, ◌≤◌, List, [], ◌++◌, length, Option, None, Some, IfSome, IsSomeAnd, Bool, true, false, nat_lt, inl, inr, refl, sym, ap, ◌∙◌, subst, arith, append-nil, append_assoc, length-append}
use Rattle.std.specs.Io.KnownBytes.{Consumes, IsAtEnd}
use Rattle.std.proofs.lemmas.Bool.Decides.{nat_tests}
use Rattle.slurm_io.specs.Faults.{CountsOne, CountsNone}
use Rattle.slurm_io.specs.Shelf.{ShelfFile, bytes_named}
use Rattle.slurm_io.specs.Wire.{Wire}
use Rattle.slurm_net.specs.Host.{CountsIf, Hosting}
use Rattle.block_frame.specs.declared.block.Block.{Block}
use Rattle.block_frame.specs.Replies.{IsReply, BeginsWithReply}
use Rattle.slurm_client.specs.Calling.{Sinks, IsCalled, IsAnswered, Completes, HasNoReply, IsOff, Received}
use Rattle.slurm_client.specs.Reading.{ReadsWithin}
use Rattle.slurm_client.specs.declared.called.Called.{Called}
use Rattle.slurm_client.specs.declared.called.Called.TheVariants as called
use Rattle.program_words.specs.declared.call.Call.{Call}
use Rattle.slurm_top.specs.declared.call_end.CallEnd.{CallEnd}
use Rattle.slurm_top.specs.declared.call_end.CallEnd.TheVariants.{Replied, ReadFault, WriteFault, BadReply, Memory, Spent, DoorFault}
use Rattle.slurm_top.specs.declared.refusal.ScriptRefusal.{ScriptRefusal}
use Rattle.slurm_top.specs.declared.refusal.ScriptRefusal.TheVariants as refusal
use Rattle.slurm_top.specs.Outside.{Outside, Beside}
use Rattle.slurm_top.specs.Scripts.{Place, Nowhere, File, Input, IsScript, IsRefused, IsToldLong, IsLongWhereTold, IsShort, IsLong}
use Rattle.slurm_top.specs.Calls.{IsEnd, IsCarriedOut, IsOver, IsDialled, IsHungUp, IsCaused, IsFaultless, IsOneOf, IsDecided, IsSpent, told_by, end_of, place_of}

-- ---- counts

-- the count of a new link that rose is counted when it is hung up
link_count : (came went before after : ℕ) → came ≡ 0 → CountsOne came went → CountsIf (nat_lt 0 went) before after
    → CountsOne before after
link_count came went before after new one counted = go (nat_lt 0 went) refl counted
  where
    go : (b : Bool) → nat_lt 0 went ≡ b → CountsIf b before after → CountsOne before after
    go true e c = c
    go false e c = absurd (grind (arith, nat_tests))

-- the count of a new link that wasn't counted then didn't rise
link_stays : (came went before after : ℕ) → came ≡ 0 → CountsNone before after → CountsIf (nat_lt 0 went) before after
    → CountsNone came went
link_stays came went before after new none counted = go (nat_lt 0 went) refl counted
  where
    go : (b : Bool) → nat_lt 0 went ≡ b → CountsIf b before after → CountsNone came went
    go true e c = absurd (omega (arith, c.0, none.0, none.1))
    go false e c = let is : went ≡ 0 = grind (arith, nat_tests) in (is ∙ sym new, omega arith)

own_reads : (call : Call) (old new : Outside) (host host' : Hosting) → (place : Place)
    → IsRefused place old new refusal.ReadFault → IsCaused old new host host' ReadFault
own_reads call old new host host' Nowhere refused = absurd refused
own_reads call old new host host' (File name) refused = inl refused.0
own_reads call old new host host' Input refused = inr (inl refused.1)

-- a script that was read left the counts of the shelf and of what is written as they were
script_keeps : (place : Place) (old new : Outside) (script : Option (List ℕ)) → IsScript place old new script
    → (new.faults ≡ old.faults) × (new.wire.reads ≡ old.wire.reads) × (new.wire.writes ≡ old.wire.writes)
script_keeps Nowhere old new None is = (ap (λ (o : Outside). o.faults) is, ap (λ (o : Outside). o.wire.reads) is, ap (λ (o : Outside). o.wire.writes) is)
script_keeps Nowhere old new (Some script) is = absurd is
script_keeps (File name) old new None is = absurd is
script_keeps (File name) old new (Some script) is = (ap (λ (o : Outside). o.faults) is.2, ap (λ (o : Outside). o.wire.reads) is.2, ap (λ (o : Outside). o.wire.writes) is.2)
script_keeps Input old new None is = absurd is
script_keeps Input old new (Some script) is = (ap (λ (o : Outside). o.faults) is.3, ap (λ (o : Outside). o.wire.reads) is.3, ap (λ (o : Outside). o.wire.writes) is.3)

-- a write of the link failed, or one of the output
write_failed : (block : Block) (own own' : Wire) (b b' : Beside) → IsOver block own own' b b' called.WriteFault
    → CountsOne own.writes own'.writes ⊎ CountsOne b.host.link_writes b'.host.link_writes
write_failed block own own' b b' over = go over.called
  where
    go : IsCalled block over.came over.went (told_by own b) (told_by own' b') called.WriteFault
        → CountsOne own.writes own'.writes ⊎ CountsOne b.host.link_writes b'.host.link_writes
    go (inl cut) = inr (link_count _ _ _ _ over.dialled.is_new.writes cut.0.writes over.hung_up.writes)
    go (inr shown) = inl shown.1.1.faults

pub caused : (call : Call) (old new : Outside) (b b' : Beside) (end : CallEnd) → IsEnd call old new b b' end
    → IsCaused old new b.host b'.host end
caused call old new b b' (Replied status) ended = tt
caused call old new b b' ReadFault (inl refused) = own_reads call old new b.host b'.host (place_of call) refused.0
caused call old new b b' ReadFault (inr out) =
    inr (inr (link_count _ _ _ _ out.over.dialled.is_new.reads out.over.called.1 out.over.hung_up.reads))
caused call old new b b' WriteFault out =
    let keeps = script_keeps _ _ _ _ out.is_script in
    subst (λ w. CountsOne w new.wire.writes ⊎ CountsOne b.host.link_writes b'.host.link_writes) keeps.2
    (write_failed _ _ _ b b' out.over)
caused call old new b b' BadReply ended = tt
caused call old new b b' Memory ended = tt
caused call old new b b' Spent ended = tt
caused call old new b b' DoorFault ended = ended.1.0

-- ---- lengths

both_lengths : (one : List ℕ) → IsShort one → IsLong one → ⊥
both_lengths one short long = omega arith

not_both : (told : Option (List ShelfFile)) (name script : List ℕ) → IsShort script
    → IfSome told (λ files. bytes_named files name ≡ Some script)
    → IsSomeAnd told (λ files. IsSomeAnd (bytes_named files name) IsLong) → ⊥
not_both None name script short is long = absurd long
not_both (Some files) name script short is long =
    both_lengths script short (subst (λ (o : Option (List ℕ)). IsSomeAnd o IsLong) is long)

all_read : (left left' : Option (List ℕ)) (script : List ℕ) → Consumes left left' script → IsAtEnd left' → IsShort script
    → IsSomeAnd left IsLong → ⊥
all_read None left' script consumed ended short long = absurd long
all_read (Some text) None script consumed ended short long = absurd consumed
all_read (Some text) (Some more) script consumed ended short long =
    both_lengths script short (subst IsLong (consumed ∙ ap (λ t. script ++ t) ended ∙ append-nil script) long)

-- a script that is told to be too long isn't read
isnt_read : (place : Place) (old new : Outside) (script : Option (List ℕ)) → IsScript place old new script
    → IsToldLong place old → ⊥
isnt_read Nowhere old new script is long = absurd long
isnt_read (File name) old new None is long = absurd is
isnt_read (File name) old new (Some script) is long = not_both old.files name script is.1 is.0 long
isnt_read Input old new None is long = absurd is
isnt_read Input old new (Some script) is long = all_read old.wire.left new.wire.left script is.0 is.1 is.2 long

no_read_failed : (place : Place) (old new : Outside) → IsRefused place old new refusal.ReadFault
    → CountsNone old.faults new.faults → CountsNone old.wire.reads new.wire.reads → ⊥
no_read_failed Nowhere old new refused files reads = absurd refused
no_read_failed (File name) old new refused files reads = omega (arith, refused.0.0, files.0, files.1)
no_read_failed Input old new refused files reads = omega (arith, refused.1.0, reads.0, reads.1)

-- the input of which so much was read is long
long_input : (left left' : Option (List ℕ)) (read : List ℕ) → Consumes left left' read → length read ≡ 65537
    → IfSome left IsLong
long_input None left' read consumed is = tt
long_input (Some text) None read consumed is = absurd consumed
long_input (Some text) (Some more) read consumed is =
    omega (arith, is, ap length consumed, length-append read more)

refused_is_long : (place : Place) (old new : Outside) → IsRefused place old new refusal.TooLong → IsLongWhereTold place old
refused_is_long Nowhere old new refused = absurd refused
refused_is_long (File name) old new refused = refused.0
refused_is_long Input old new refused = long_input old.wire.left new.wire.left refused.0.0 refused.0.1 refused.0.2

-- such a call isn't spent
not_spent : (call : Call) (old new : Outside) (end : CallEnd) → (end ≡ Spent → ⊥)
    → (IsToldLong (place_of call) old → CountsNone old.faults new.faults → CountsNone old.wire.reads new.wire.reads
    → (end ≡ Spent) ⊎ (end ≡ Memory)) → IsSpent call old new end
not_spent call old new end isnt told = record { told = told; only = λ e. absurd (isnt e) }

pub spent : (call : Call) (old new : Outside) (b b' : Beside) (end : CallEnd) → IsEnd call old new b b' end
    → IsSpent call old new end
spent call old new b b' (Replied status) out =
    not_spent call old new _ (λ e. cc) (λ long files reads. absurd (isnt_read _ _ _ _ out.is_script long))
spent call old new b b' ReadFault (inl refused) =
    not_spent call old new _ (λ e. cc) (λ long files reads. absurd (no_read_failed _ _ _ refused.0 files reads))
spent call old new b b' ReadFault (inr out) =
    not_spent call old new _ (λ e. cc) (λ long files reads. absurd (isnt_read _ _ _ _ out.is_script long))
spent call old new b b' WriteFault out =
    not_spent call old new _ (λ e. cc) (λ long files reads. absurd (isnt_read _ _ _ _ out.is_script long))
spent call old new b b' BadReply out =
    not_spent call old new _ (λ e. cc) (λ long files reads. absurd (isnt_read _ _ _ _ out.is_script long))
spent call old new b b' Memory ended = not_spent call old new _ (λ e. cc) (λ long files reads. inr refl)
spent call old new b b' Spent ended =
    record { told = λ long files reads. inl refl; only = λ e. refused_is_long _ _ _ ended.0 }
spent call old new b b' DoorFault ended =
    not_spent call old new _ (λ e. cc) (λ long files reads. absurd (isnt_read _ _ _ _ ended.0.1 long))

-- ---- replies

-- what the link had left, where the host told it
came_left : (host : Hosting) (came : Wire) (left : List ℕ) → IsDialled host came → host.next_left ≡ Some left
    → came.left ≡ Some left
came_left host came left dialled told =
    subst (λ (o : Option (List ℕ)). IfSome o (λ bytes. came.left ≡ Some bytes)) told dialled.left

-- a text begins with what was read of it
begins_so : (left : Option (List ℕ)) (left' : Option (List ℕ)) (text read : List ℕ) → left ≡ Some text
    → Consumes left left' read → (more : List ℕ) × (text ≡ read ++ more)
begins_so None left' text read told consumed = absurd (none_isnt _ told)
  where
    none_isnt : (x : List ℕ) → None ≡ Some x → ⊥
    none_isnt x e = cc
begins_so (Some same) None text read told consumed = absurd consumed
begins_so (Some same) (Some more) text read told consumed =
    let is : same ≡ text = cc in (more, sym is ∙ consumed)

replied_begins : (left text : List ℕ) (came went : Wire) (status : ℕ) → came.left ≡ Some left → Received came went status
    → (place : ℕ) × (text : List ℕ) × BeginsWithReply left status place text
replied_begins left text came went status told reply =
    let rest = begins_so came.left went.left left reply.read told reply.consumed in (
      reply.place,
      reply.text,
      record { frame = reply.read; more = rest.0; is_reply = reply.is_reply; cut = rest.1 },
    )

at_end : (left left' : Option (List ℕ)) (text read : List ℕ) → left ≡ Some text → Consumes left left' read → IsAtEnd left'
    → text ≡ read
at_end None left' text read told consumed ended = absurd (none_isnt _ told)
  where
    none_isnt : (x : List ℕ) → None ≡ Some x → ⊥
    none_isnt x e = cc
at_end (Some same) None text read told consumed ended = absurd consumed
at_end (Some same) (Some more) text read told consumed ended =
    let is : same ≡ text = cc in sym is ∙ consumed ∙ ap (λ t. read ++ t) ended ∙ append-nil read

-- bytes that are off are no reply, with all that follows them
off_has_none : (left : List ℕ) (came went : Wire) (read : List ℕ) → came.left ≡ Some left → Consumes came.left went.left read
    → IsOff read went.left → HasNoReply left
off_has_none left came went read told consumed (inl off) =
    let rest = begins_so came.left went.left left read told consumed in subst HasNoReply (sym rest.1) (off rest.0)
off_has_none left came went read told consumed (inr cut) =
    subst HasNoReply (sym (at_end came.left went.left left read told consumed cut.1)) cut.0

-- no count of a call's link or output rose
over_faultless : (block : Block) (old new mid : Outside) (b b' : Beside) (became : Called)
    → (over : IsOver block mid.wire new.wire b b' became) → IsFaultless old new b.host b'.host
    → mid.wire.writes ≡ old.wire.writes
    → CountsNone over.came.reads over.went.reads × CountsNone over.came.writes over.went.writes
    × CountsNone mid.wire.writes new.wire.writes
over_faultless block old new mid b b' became over none same = (
  link_stays _ _ _ _ over.dialled.is_new.reads none.link_reads over.hung_up.reads,
  link_stays _ _ _ _ over.dialled.is_new.writes none.link_writes over.hung_up.writes,
  subst (λ w. CountsNone w new.wire.writes) (sym same) none.writes,
)

-- a call whose bytes begin with a reply is answered by it
carried_replied : (call : Call) (old new : Outside) (b b' : Beside) (became : Called)
    → IsCarriedOut call old new b b' became → (left text : List ℕ) (status place : ℕ) → b.host.next_left ≡ Some left
    → BeginsWithReply left status place text → IsFaultless old new b.host b'.host
    → IsOneOf (Replied status) Spent (end_of became)
carried_replied call old new b b' became out left text status place told begins none =
    let keeps = script_keeps _ _ _ _ out.is_script in
    let counts = over_faultless _ old new out.mid b b' became out.over none keeps.2 in
    elim (out.over.completes left text status place (came_left b.host out.over.came left out.over.dialled told) begins
    (record { reads = counts.0; writes = counts.1; output = counts.2 })) [
      | inl answered ↦ inl (ap end_of answered.0)
      | inr memory ↦ inr (inr (ap end_of memory))
    ]

none_rose : (before after : ℕ) → CountsOne before after → CountsNone before after → ⊥
none_rose before after one none = omega (arith, one.0, none.0, none.1)

carried_bad : (call : Call) (old new : Outside) (b b' : Beside) (became : Called)
    → IsCarriedOut call old new b b' became → (left : List ℕ) → b.host.next_left ≡ Some left → HasNoReply left
    → IsFaultless old new b.host b'.host → IsOneOf BadReply Spent (end_of became)
carried_bad call old new b b' (called.Replied status) out left told off none =
    let begins = replied_begins left [] _ _ status (came_left b.host out.over.came left out.over.dialled told) out.over.called.1.0 in
    absurd (off status begins.0 begins.1 begins.2)
carried_bad call old new b b' called.ReadFault out left told off none =
    let keeps = script_keeps _ _ _ _ out.is_script in
    let counts = over_faultless _ old new out.mid b b' called.ReadFault out.over none keeps.2 in
    absurd (none_rose _ _ out.over.called.1 counts.0)
carried_bad call old new b b' called.WriteFault out left told off none =
    let keeps = script_keeps _ _ _ _ out.is_script in
    let counts = over_faultless _ old new out.mid b b' called.WriteFault out.over none keeps.2 in
    elim (write_failed _ _ _ b b' out.over) [
      | inl own ↦ absurd (none_rose _ _ own counts.2)
      | inr link ↦ absurd (none_rose _ _ link none.link_writes)
    ]
carried_bad call old new b b' called.BadReply out left told off none = inl refl
carried_bad call old new b b' called.Memory out left told off none = inr (inr refl)

is_replied : (one other : ℕ) → Replied one ≡ Replied other → one ≡ other
is_replied one other e = cc

carried_decided : (call : Call) (old new : Outside) (b b' : Beside) (became : Called)
    → IsCarriedOut call old new b b' became
    → (is_status : (status : ℕ) → end_of became ≡ Replied status → status ≤ 1)
    → (only_bad : (left : List ℕ) → b.host.next_left ≡ Some left → end_of became ≡ BadReply → HasNoReply left)
    → (only_replied : (left : List ℕ) (status : ℕ) → b.host.next_left ≡ Some left → end_of became ≡ Replied status
    → (place : ℕ) × (text : List ℕ) × BeginsWithReply left status place text)
    → IsDecided old new b.host b'.host (end_of became)
carried_decided call old new b b' became out is_status only_bad only_replied = record {
  is_status = is_status;
  replied = carried_replied call old new b b' became out;
  bad = carried_bad call old new b b' became out;
  only_bad = only_bad;
  only_replied = only_replied;
}

bad_is_off : (call : Call) (old new : Outside) (b b' : Beside) → IsCarriedOut call old new b b' called.BadReply
    → (left : List ℕ) → b.host.next_left ≡ Some left → HasNoReply left
bad_is_off call old new b b' out left told =
    let read = out.over.called.3 in
    off_has_none left out.over.came out.over.went read.0 (came_left b.host out.over.came left out.over.dialled told)
    read.1.consumed read.2

pub decided : (call : Call) (old new : Outside) (b b' : Beside) (end : CallEnd) → IsEnd call old new b b' end
    → IsDecided old new b.host b'.host end
decided call old new b b' (Replied status) out =
    carried_decided call old new b b' (called.Replied status) out
    (λ other e. subst (λ s. s ≤ 1) (is_replied status other e) out.over.called.1.0.is_reply.is_status)
    (λ left told e. absurd (cc))
    (λ left other told e. subst (λ s. (place : ℕ) × (text : List ℕ) × BeginsWithReply left s place text)
    (is_replied status other e)
    (replied_begins left [] _ _ status (came_left b.host out.over.came left out.over.dialled told) out.over.called.1.0))
decided call old new b b' ReadFault (inl refused) =
    let fails : IsFaultless old new b.host b'.host → ⊥ =
    λ none. no_read_failed (place_of call) old new refused.0 none.files none.reads in record {
      is_status = λ status e. absurd (cc);
      replied = λ left text status place told begins none. absurd (fails none);
      bad = λ left told off none. absurd (fails none);
      only_bad = λ left told e. absurd (cc);
      only_replied = λ left status told e. absurd (cc);
    }
decided call old new b b' ReadFault (inr out) =
    carried_decided call old new b b' called.ReadFault out (λ status e. absurd (cc)) (λ left told e. absurd (cc)) (λ left status told e. absurd (cc))
decided call old new b b' WriteFault out =
    carried_decided call old new b b' called.WriteFault out (λ status e. absurd (cc)) (λ left told e. absurd (cc)) (λ left status told e. absurd (cc))
decided call old new b b' BadReply out =
    carried_decided call old new b b' called.BadReply out (λ status e. absurd (cc)) (λ left told e. bad_is_off call old new b b' out left told)
    (λ left status told e. absurd (cc))
decided call old new b b' Memory ended = record {
  is_status = λ status e. absurd (cc);
  replied = λ left text status place told begins none. inr (inr refl);
  bad = λ left told off none. inr (inr refl);
  only_bad = λ left told e. absurd (cc);
  only_replied = λ left status told e. absurd (cc);
}
decided call old new b b' Spent ended = record {
  is_status = λ status e. absurd (cc);
  replied = λ left text status place told begins none. inr (inl refl);
  bad = λ left told off none. inr (inl refl);
  only_bad = λ left told e. absurd (cc);
  only_replied = λ left status told e. absurd (cc);
}
decided call old new b b' DoorFault ended =
    let fails : IsFaultless old new b.host b'.host → ⊥ = λ none. none_rose _ _ ended.1.0 none.dials in record {
      is_status = λ status e. absurd (cc);
      replied = λ left text status place told begins none. absurd (fails none);
      bad = λ left told off none. absurd (fails none);
      only_bad = λ left told e. absurd (cc);
      only_replied = λ left status told e. absurd (cc);
    }
