-- A call over a link, put together of what its parts say.
use Rattle.std.proofs.Common.{◌≡◌, ℕ, List, Option, Some, IfSome, nat_lt, inl, inr, refl, sym, ap, ◌∙◌, subst}
use Rattle.slurm_io.specs.Kept.{Kept}
use Rattle.slurm_io.specs.Wire.{Wire}
use Rattle.slurm_net.specs.Accepted.{IsNewLink}
use Rattle.slurm_net.specs.Host.{CountsIf}
use Rattle.block_frame.specs.declared.block.Block.{Block}
use Rattle.slurm_client.specs.Calling.{Sinks, sinks, IsCalled, Completes}
use Rattle.slurm_client.specs.declared.called.Called.{Called}
use Rattle.slurm_client.specs.declared.called.Called.TheVariants as called
use Rattle.program_words.specs.declared.call.Call.{Call}
use Rattle.slurm_top.specs.Outside.{Outside, Beside}
use Rattle.slurm_top.specs.Calls.{IsEnd, IsCarriedOut, IsOver, end_of, told_by}

-- what a link's two sides tell is what the link tells
pub told_eq : (own : Wire) (beside : Beside) (left taken : Option (List ℕ)) (reads writes : ℕ)
    → own ≡ record { left = left; taken = taken; reads = reads; writes = writes }
    → sinks taken writes beside.errors beside.errors_faults ≡ told_by own beside
told_eq own beside left taken reads writes tells = ap (λ (w : Wire). told_by w beside) (sym tells)

-- the input's side of a link, by what its writes keep
abbrev pub input_side : Wire → Kept
input_side own = record { bytes = own.left; faults = own.reads }

pub side_eq : (own : Wire) (side : Kept) (left taken : Option (List ℕ)) (reads writes : ℕ)
    → own ≡ record { left = left; taken = taken; reads = reads; writes = writes }
    → side ≡ record { bytes = left; faults = reads } → side ≡ input_side own
side_eq own side left taken reads writes tells keeps = keeps ∙ ap input_side (sym tells)

pub input_kept : (own own' : Wire) (side side' : Kept) → side ≡ input_side own → side' ≡ input_side own' → side' ≡ side
    → (own'.left ≡ own.left) × (own'.reads ≡ own.reads)
input_kept own own' side side' is is' same =
    let both : input_side own' ≡ input_side own = sym is' ∙ same ∙ is in
    (ap (λ (k : Kept). k.bytes) both, ap (λ (k : Kept). k.faults) both)

pub is_over : (block : Block) (own own' : Wire) (b b' : Beside) (became : Called) (came went : Wire) (told told' : Sinks)
    (reads writes : ℕ) → IsNewLink came → IfSome b.host.next_left (λ bytes. came.left ≡ Some bytes)
    → told ≡ told_by own b → told' ≡ told_by own' b'
    → IsCalled block came went told told' became → Completes came went told told' became
    → IfSome b'.host.last_taken (λ bytes. went.taken ≡ Some bytes)
    → reads ≡ b.host.link_reads → writes ≡ b.host.link_writes
    → CountsIf (nat_lt 0 went.reads) reads b'.host.link_reads → CountsIf (nat_lt 0 went.writes) writes b'.host.link_writes
    → b'.host.faults ≡ b.host.faults → (own'.left ≡ own.left) × (own'.reads ≡ own.reads)
    → IsOver block own own' b b' became
is_over block own own' b b' became came went told told' reads writes new left is is' called completes taken same_reads same_writes counted counted' faults input = record {
  came = came;
  went = went;
  dialled = record { is_new = new; left = left };
  called = subst (λ t. IsCalled block came went (told_by own b) t became) is'
      (subst (λ t. IsCalled block came went t told' became) is called);
  completes = subst (λ t. Completes came went (told_by own b) t became) is'
      (subst (λ t. Completes came went t told' became) is completes);
  hung_up = record {
    taken = taken;
    reads = subst (λ n. CountsIf (nat_lt 0 went.reads) n b'.host.link_reads) same_reads counted;
    writes = subst (λ n. CountsIf (nat_lt 0 went.writes) n b'.host.link_writes) same_writes counted';
    faults = faults;
  };
  input = input;
}

-- a call that was carried out ends as it became
pub carried_ends : (call : Call) (old new : Outside) (b b' : Beside) (became : Called)
    → IsCarriedOut call old new b b' became → IsEnd call old new b b' (end_of became)
carried_ends call old new b b' (called.Replied status) out = out
carried_ends call old new b b' called.ReadFault out = inr out
carried_ends call old new b b' called.WriteFault out = out
carried_ends call old new b b' called.BadReply out = out
carried_ends call old new b b' called.Memory out = inr out
