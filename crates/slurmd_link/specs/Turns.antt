-- The turns of a daemon over a link.
use Rattle.std.specs.Prelude.{◌≡◌, ◌⊎◌, ℕ, ◌+◌, List, [], ◌∷◌, ◌++◌, length, take, map, flat_map, All, Option, IfSome, IsSomeAnd, Result, Ok, Err}
use Rattle.std.specs.Io.KnownBytes.{Appends, Consumes, IsAtEnd}
use Rattle.slurm_io.specs.Bytes.{AppendsFront}
use Rattle.slurm_io.specs.Faults.{CountsOne}
use Rattle.slurm_io.specs.Wire.{Wire}
use Rattle.block_frame.specs.declared.framed.TheConstants.{LENGTH_SIZE}
use Rattle.block_frame.specs.Frames.{announced}
use Rattle.block_frame.specs.Replies.{IsReply}
use Rattle.slurm_client.specs.Reading.{IsTooShort, IsUnended}
use Rattle.slurm_client.specs.declared.reading.Unread.{Unread}
use Rattle.slurm_client.specs.declared.reading.Unread.TheVariants as unread
use Rattle.slurm_net.specs.Course.{AddsMoment}
use Rattle.reply_data.specs.declared.orders.Orders.{Orders}
use Rattle.node_daemon.specs.Daemon.{Daemon, given, polled, reported}
use Rattle.orders_text.specs.Orders.{AreOrdersOf}
use Rattle.slurmd_link.specs.Reports.{report_frame}
use Rattle.slurmd_link.specs.declared.turn.Cut.{Cut}
use Rattle.slurmd_link.specs.declared.turn.Cut.TheVariants as cut

-- One turn: its moment, the reply frame that was read, and the orders that the reply was.
pub record Turn : Type 0 where
  pub moment : ℕ
  pub reply : List ℕ
  pub orders : Orders

-- the frame that a daemon sends when it polls at a moment
abbrev pub frame_at : List ℕ → ℕ → Daemon → List ℕ
frame_at user now daemon = report_frame user (reported (polled now daemon))

-- a reply frame of status 0 whose text is these orders for a node
pub record IsOrdersReply (node reply : List ℕ) (orders : Orders) : Type 0 where
  pub place : ℕ
  pub text : List ℕ
  pub is_reply : IsReply reply 0 place text
  pub are_orders : AreOrdersOf node text orders

-- the daemon after a turn: it polled, and was given the orders of that turn's reply at the same moment
abbrev pub after_turn : Daemon → Turn → Daemon
after_turn daemon turn = given turn.moment turn.orders (polled turn.moment daemon)

-- the daemon after turns, one after the other
abbrev pub after_turns : Daemon → List Turn → Daemon
after_turns daemon [] = daemon
after_turns daemon (turn ∷ turns) = after_turns (after_turn daemon turn) turns

-- what is sent in turns: each time the frame of the daemon as the turns before left it
abbrev pub sent_in : List ℕ → Daemon → List Turn → List ℕ
sent_in user daemon [] = []
sent_in user daemon (turn ∷ turns) = frame_at user turn.moment daemon ++ sent_in user (after_turn daemon turn) turns

-- what is read in turns: the reply frames
abbrev pub read_in : List Turn → List ℕ
read_in turns = flat_map (λ (turn : Turn). turn.reply) turns

-- a link, what its clock gave so far, and a daemon
pub record Scene : Type 0 where
  pub wire : Wire
  pub moments : Option (List ℕ)
  pub daemon : Daemon

abbrev pub scene : Wire → Option (List ℕ) → Daemon → Scene
scene wire moments daemon = record { wire = wire; moments = moments; daemon = daemon }

-- no call on the link failed
abbrev pub IsFaultless : Scene → Scene → Type 0
IsFaultless old new = (new.wire.reads ≡ old.wire.reads) × (new.wire.writes ≡ old.wire.writes)

-- where the moments are told after readings, they were told before them and grew by these
abbrev pub AddsMoments : Option (List ℕ) → Option (List ℕ) → List ℕ → Type 0
AddsMoments old new moments = IfSome new (λ after. IsSomeAnd old (λ before. after ≡ before ++ moments))

-- a turn was made
pub record IsTurned (user : List ℕ) (old new : Scene) (turn : Turn) : Type 0 where
  pub clock : AddsMoment old.moments new.moments turn.moment
  pub sent : Appends old.wire.taken new.wire.taken (frame_at user turn.moment old.daemon)
  pub read : Consumes old.wire.left new.wire.left turn.reply
  pub reply : IsOrdersReply old.daemon.node turn.reply turn.orders
  pub after : new.daemon ≡ after_turn old.daemon turn
  pub faultless : IsFaultless old new

-- Turns were made, one after the other: what was read are replies that are orders for the node, and what was sent and
-- the daemon are those that follow from these and the moments, however the replies were cut.
pub record AreMade (user : List ℕ) (old new : Scene) (turns : List Turn) : Type 0 where
  pub replies : All (λ (turn : Turn). IsOrdersReply old.daemon.node turn.reply turn.orders) turns
  pub clock : AddsMoments old.moments new.moments (map (λ (turn : Turn). turn.moment) turns)
  pub read : Consumes old.wire.left new.wire.left (read_in turns)
  pub sent : Appends old.wire.taken new.wire.taken (sent_in user old.daemon turns)
  pub after : new.daemon ≡ after_turns old.daemon turns
  pub faultless : IsFaultless old new

-- bytes as many as their length says, which are no reply
abbrev pub IsOddFrame : List ℕ → Type 0
IsOddFrame read =
    (length read ≡ LENGTH_SIZE + announced read) × ((status place : ℕ) (text : List ℕ) → ¬ IsReply read status place text)

-- what was read is no reply frame: its length is below that of any, the input ended before its end, or all of it says no
-- reply
abbrev pub IsNoReply : List ℕ → Option (List ℕ) → Type 0
IsNoReply read left = IsTooShort read ⊎ ((IsUnended read × IsAtEnd left) ⊎ IsOddFrame read)

-- it is a reply frame of status 0, and its text is no orders for the node
pub record IsNoOrders (node read : List ℕ) : Type 0 where
  pub place : ℕ
  pub text : List ℕ
  pub is_reply : IsReply read 0 place text
  pub none : (orders : Orders) → ¬ AreOrdersOf node text orders

-- What was heard behind a frame that was sent: the orders of a whole reply frame of so many bytes, or else what came.
abbrev pub Hears : List ℕ → Wire → Wire → Result (Orders × ℕ) Cut → Type 0
Hears node old new (Ok heard) =
    (reply : List ℕ) × Consumes old.left new.left reply × IsOrdersReply node reply heard.0 × (length reply ≡ heard.1)
    × (new.reads ≡ old.reads)
Hears node old new (Err (cut.Refused text)) =
    (place : ℕ) × (reply : List ℕ) × Consumes old.left new.left reply × IsReply reply 1 place text × (new.reads ≡ old.reads)
Hears node old new (Err cut.BadReply) =
    (read : List ℕ) × Consumes old.left new.left read × (IsNoReply read new.left ⊎ IsNoOrders node read)
    × (new.reads ≡ old.reads)
Hears node old new (Err cut.ReadFault) =
    (read : List ℕ) × Consumes old.left new.left read × IsUnended read × CountsOne old.reads new.reads
Hears node old new (Err cut.WriteFault) = ⊥
Hears node old new (Err cut.Memory) =
    (read : List ℕ) × Consumes old.left new.left read × (new.reads ≡ old.reads)

-- the daemon polled at a moment, and its frame was sent whole
pub record IsAsked (user : List ℕ) (old new : Scene) (moment : ℕ) : Type 0 where
  pub clock : AddsMoment old.moments new.moments moment
  pub after : new.daemon ≡ polled moment old.daemon
  pub sent : Appends old.wire.taken new.wire.taken (frame_at user moment old.daemon)
  pub writes : new.wire.writes ≡ old.wire.writes

-- What a turn left that was cut short: none of its orders were taken.
abbrev pub IsCut : List ℕ → Scene → Scene → Cut → Type 0
IsCut user old new cut.WriteFault =
    (moment : ℕ) × AddsMoment old.moments new.moments moment × (new.daemon ≡ polled moment old.daemon)
    × AppendsFront old.wire.taken new.wire.taken (frame_at user moment old.daemon)
    × (new.wire.left ≡ old.wire.left) × (new.wire.reads ≡ old.wire.reads) × CountsOne old.wire.writes new.wire.writes
IsCut user old new cut.Memory =
    (moment : ℕ) × AddsMoment old.moments new.moments moment
    × ((new.daemon ≡ old.daemon) ⊎ (new.daemon ≡ polled moment old.daemon))
    × ((n : ℕ) × Appends old.wire.taken new.wire.taken (take n (frame_at user moment old.daemon)))
    × ((read : List ℕ) × Consumes old.wire.left new.wire.left read) × IsFaultless old new
IsCut user old new (cut.Refused text) =
    ((moment : ℕ) × IsAsked user old new moment) × Hears old.daemon.node old.wire new.wire (Err (cut.Refused text))
IsCut user old new cut.BadReply =
    ((moment : ℕ) × IsAsked user old new moment) × Hears old.daemon.node old.wire new.wire (Err cut.BadReply)
IsCut user old new cut.ReadFault =
    ((moment : ℕ) × IsAsked user old new moment) × Hears old.daemon.node old.wire new.wire (Err cut.ReadFault)

-- A turn was made, and its reply frame has so many bytes; or it was cut short.
abbrev pub IsTurnOrCut : List ℕ → Scene → Scene → Result ℕ Cut → Type 0
IsTurnOrCut user old new (Ok size) = (turn : Turn) × IsTurned user old new turn × (length turn.reply ≡ size)
IsTurnOrCut user old new (Err cut) = IsCut user old new cut

-- what a frame that was not read makes of a turn
abbrev pub cut_of : Unread → Cut
cut_of unread.Bad = cut.BadReply
cut_of unread.ReadFault = cut.ReadFault
cut_of unread.Memory = cut.Memory

-- It was asked, and nothing was read yet; or that was cut short.
abbrev pub AsksOrCut : List ℕ → Scene → Scene → Result (ℕ × List ℕ) Cut → Type 0
AsksOrCut user old new (Ok asked) =
    IsAsked user old new asked.0 × (asked.1 ≡ old.daemon.node) × (new.wire.left ≡ old.wire.left)
    × (new.wire.reads ≡ old.wire.reads)
AsksOrCut user old new (Err cut) = IsCut user old new cut

-- What a frame says to a node that is as long as it says.
abbrev pub IsAnswered : List ℕ → List ℕ → Result Orders Cut → Type 0
IsAnswered node frame (Ok orders) = IsOrdersReply node frame orders
IsAnswered node frame (Err (cut.Refused text)) = (place : ℕ) × IsReply frame 1 place text
IsAnswered node frame (Err cut.BadReply) =
    ((status place : ℕ) (text : List ℕ) → ¬ IsReply frame status place text) ⊎ IsNoOrders node frame
IsAnswered node frame (Err cut.Memory) = Unit {0}
IsAnswered node frame (Err cut.ReadFault) = ⊥
IsAnswered node frame (Err cut.WriteFault) = ⊥
