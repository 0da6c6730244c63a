-- What several reads bring.
use Rattle.std.proofs.Common.{◌≡◌, ℕ, ◌+◌, ◌<◌, ◌≤◌, List, [], ◌++◌, length, Result, Ok, Err, inr, sym, ap, ◌∙◌, subst, arith, length-append}
use Rattle.std.specs.declared.alloc.Global.{Global}
use Rattle.std.specs.Prelude.{Vec, IsErrAnd}
use Rattle.std.specs.Io.KnownBytes.{Consumes}
use Rattle.std.proofs.KnownBytes.{Consumes-kept, Consumes-trans}
use Rattle.slurm_io.specs.Faults.{CountsOne}
use Rattle.slurm_io.specs.Wire.{Wire}
use Rattle.block_frame.specs.Frames.{announced}
use Rattle.slurm_client.specs.declared.reading.Unread.{Unread}
use Rattle.slurm_client.specs.declared.reading.Unread.TheVariants.{Bad, ReadFault, Memory}
use Rattle.slurm_client.specs.Reading.{Brings, Gains, IsFilled, IsFrameRead}

-- an error that is handed on
pub handed_on : {T : Type 0} (result : Result T Unread) (e : Unread) → IsErrAnd result (λ v. v ≡ e) → result ≡ Err e
handed_on (Ok x) e given = absurd given
handed_on (Err v) e given = ap Err given

-- the last of several reads brought none
pub filled_short : (old mid new : Wire) (bytes bytes' bytes'' : List ℕ) (room want : ℕ) (e : Unread)
    → Gains old mid bytes bytes' → mid.reads ≡ old.reads → length bytes' < want → length bytes' + room ≤ want
    → Brings mid new bytes' bytes'' room (Err e) → IsFilled old new bytes bytes'' want (Err e)
filled_short old mid new bytes bytes' bytes'' room want Bad gains reads less fits (keeps, end, same, stay) = (
  record {
    read = gains.read;
    consumed = Consumes-kept _ _ _ gains.read gains.consumed keeps;
    gained = same ∙ gains.gained;
  },
  rw same less,
  stay ∙ reads,
  end,
)
filled_short old mid new bytes bytes' bytes'' room want ReadFault gains reads less fits (keeps, same, counted) = (
  record {
    read = gains.read;
    consumed = Consumes-kept _ _ _ gains.read gains.consumed keeps;
    gained = same ∙ gains.gained;
  },
  rw same less,
  subst (λ n. CountsOne n new.reads) reads counted,
)
filled_short old mid new bytes bytes' bytes'' room want Memory gains reads less fits (last, stay) = (
  (
    gains.read ++ last.0,
    Consumes-trans _ _ _ gains.read last.0 gains.consumed last.1,
    omega (arith, last.2, ap length gains.gained, length-append bytes gains.read, length-append gains.read last.0),
  ),
  stay ∙ reads,
)

pub first_read : (old mid : Wire) (none bytes : List ℕ) → none ≡ [] → Gains old mid none bytes
    → Consumes old.left mid.left bytes
first_read old mid none bytes empty gains =
    subst (Consumes old.left mid.left) (sym (gains.gained ∙ ap (λ l. l ++ gains.read) empty)) gains.consumed

-- four bytes say a length, whatever follows
abbrev pub LengthStays : Type 0
LengthStays = (text more : List ℕ) → 4 ≤ length text → announced (text ++ more) ≡ announced text

-- what was read first, and then
all_read : (old mid new : Wire) (bytes bytes' : List ℕ) → Consumes old.left mid.left bytes → Gains mid new bytes bytes'
    → Consumes old.left new.left bytes'
all_read old mid new bytes bytes' first gains =
    subst (Consumes old.left new.left) (sym gains.gained)
    (Consumes-trans _ _ _ bytes gains.read first gains.consumed)

says_same : (mid new : Wire) (bytes bytes' : List ℕ) → LengthStays → Gains mid new bytes bytes' → 4 ≤ length bytes
    → announced bytes' ≡ announced bytes
says_same mid new bytes bytes' stays gains whole = ap announced gains.gained ∙ stays bytes gains.read whole

-- a length was read, and as many bytes as it says, or fewer
pub frame_filled : (old mid new : Wire) (bytes : List ℕ) (frame : Vec ℕ Global) → LengthStays
    → Consumes old.left mid.left bytes → length bytes ≡ 4 → 9 ≤ announced bytes → mid.reads ≡ old.reads
    → IsFilled mid new bytes frame.items (4 + announced bytes) (Ok tt) → IsFrameRead old new (Ok frame)
frame_filled old mid new bytes frame stays first four high reads (gains, full, stay) =
    let says = says_same mid new bytes frame.items stays gains (omega arith) in
    (all_read old mid new bytes frame.items first gains, omega arith, omega arith, stay ∙ reads)

pub frame_short : (old mid new : Wire) (bytes bytes' : List ℕ) (e : Unread) → LengthStays
    → Consumes old.left mid.left bytes → length bytes ≡ 4 → 9 ≤ announced bytes → mid.reads ≡ old.reads
    → IsFilled mid new bytes bytes' (4 + announced bytes) (Err e) → IsFrameRead old new (Err e)
frame_short old mid new bytes bytes' Bad stays first four high reads (gains, less, stay, end) =
    let says = says_same mid new bytes bytes' stays gains (omega arith) in (
      (
        bytes',
        record { consumed = all_read old mid new bytes bytes' first gains; within = omega arith; at_once = λ low. absurd (omega arith) },
        inr (omega arith, end),
      ),
      stay ∙ reads,
    )
frame_short old mid new bytes bytes' ReadFault stays first four high reads (gains, less, counted) =
    let says = says_same mid new bytes bytes' stays gains (omega arith) in (
      (
        bytes',
        record { consumed = all_read old mid new bytes bytes' first gains; within = omega arith; at_once = λ low. absurd (omega arith) },
        omega arith,
      ),
      subst (λ n. CountsOne n new.reads) reads counted,
    )
frame_short old mid new bytes bytes' Memory stays first four high reads (last, stay) =
    let says = stays bytes last.0 (omega arith) in (
      (
        bytes ++ last.0,
        record {
          consumed = Consumes-trans _ _ _ bytes last.0 first last.1;
          within = omega (arith, last.2, length-append bytes last.0);
          at_once = λ low. absurd (omega arith);
        },
      ),
      stay ∙ reads,
    )
