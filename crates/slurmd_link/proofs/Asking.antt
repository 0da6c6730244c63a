-- The parts of a turn, put together.
use Rattle.std.proofs.Common.{◌≡◌, ◌⊎◌, inr, ℕ, List, [], length, take, Ok, Err, sym, ap, ◌∙◌, subst, arith}
use Rattle.std.proofs.KnownBytes.{Appends-nil, Consumes-nil}
use Rattle.std.proofs.lemmas.List.{take_all}
use Rattle.std.specs.Io.KnownBytes.{Appends, Consumes}
use Rattle.slurm_io.specs.Bytes.{AppendsFront}
use Rattle.slurm_io.specs.Faults.{CountsOne}
use Rattle.slurm_io.specs.Wire.{Wire}
use Rattle.slurm_client.specs.Reading.{WritesStay}
use Rattle.slurm_client.specs.Requests.{ReadsStay}
use Rattle.slurm_net.specs.Course.{AddsMoment}
use Rattle.request_data.specs.declared.report.Report.{Report}
use Rattle.reply_data.specs.declared.orders.Orders.{Orders}
use Rattle.node_daemon.specs.Daemon.{Daemon, given, polled, reported}
use Rattle.slurmd_link.specs.Reports.{report_frame}
use Rattle.slurmd_link.specs.Turns.{AsksOrCut, Hears, IsAsked, IsCut, IsNoOrders, IsNoReply, IsOrdersReply, IsTurnOrCut, Scene, frame_at}
use Rattle.slurmd_link.specs.declared.turn.Cut.{Cut}
use Rattle.slurmd_link.specs.declared.turn.Cut.TheVariants as cut

-- memory was wanting before anything was sent
pub unasked : (user : List ℕ) (old new : Scene) (moment : ℕ) → AddsMoment old.moments new.moments moment
    → (new.daemon ≡ old.daemon) ⊎ (new.daemon ≡ polled moment old.daemon) → new.wire ≡ old.wire
    → AsksOrCut user old new (Err cut.Memory)
unasked user old new moment clock after same = (
  moment,
  clock,
  after,
  (0, subst (λ (w : Wire). Appends old.wire.taken w.taken (take 0 (frame_at user moment old.daemon))) (sym same) (Appends-nil old.wire.taken)),
  ([], subst (λ (w : Wire). Consumes old.wire.left w.left []) (sym same) (Consumes-nil old.wire.left)),
  (ap (λ (w : Wire). w.reads) same, ap (λ (w : Wire). w.writes) same),
)

frame_is : (user frame : List ℕ) (moment : ℕ) (daemon : Daemon) (report : Report) → report ≡ reported (polled moment daemon)
    → frame ≡ report_frame user report → frame ≡ frame_at user moment daemon
frame_is user frame moment daemon report told framed = framed ∙ ap (report_frame user) told

-- the frame was sent
pub sent_whole : (user frame node : List ℕ) (old new : Scene) (moment : ℕ) (report : Report)
    → AddsMoment old.moments new.moments moment → new.daemon ≡ polled moment old.daemon
    → report ≡ reported (polled moment old.daemon) → frame ≡ report_frame user report
    → Appends old.wire.taken new.wire.taken frame → new.wire.writes ≡ old.wire.writes → ReadsStay old.wire new.wire
    → node ≡ report.node → AsksOrCut user old new (Ok (moment, node))
sent_whole user frame node old new moment report clock after told framed sent writes reads named = (
  record {
    clock = clock;
    after = after;
    sent = subst (Appends old.wire.taken new.wire.taken) (frame_is user frame moment old.daemon report told framed) sent;
    writes = writes;
  },
  named ∙ ap (λ (r : Report). r.node) told,
  reads.0,
  reads.1,
)

-- a write of it failed
pub sent_in_part : (user frame : List ℕ) (old new : Scene) (moment : ℕ) (report : Report)
    → AddsMoment old.moments new.moments moment → new.daemon ≡ polled moment old.daemon
    → report ≡ reported (polled moment old.daemon) → frame ≡ report_frame user report
    → AppendsFront old.wire.taken new.wire.taken frame → CountsOne old.wire.writes new.wire.writes
    → ReadsStay old.wire new.wire → AsksOrCut user old new (Err cut.WriteFault)
sent_in_part user frame old new moment report clock after told framed sent writes reads = (
  moment,
  clock,
  after,
  subst (AppendsFront old.wire.taken new.wire.taken) (frame_is user frame moment old.daemon report told framed) sent,
  reads.0,
  reads.1,
  writes,
)

-- what was asked stays so while a reply is read
still_asked : (user : List ℕ) (old mid new : Scene) (moment : ℕ) → IsAsked user old mid moment → new.moments ≡ mid.moments
    → new.daemon ≡ mid.daemon → WritesStay mid.wire new.wire → IsAsked user old new moment
still_asked user old mid new moment asked clock daemon stay = record {
  clock = subst (λ m. AddsMoment old.moments m moment) (sym clock) asked.clock;
  after = daemon ∙ asked.after;
  sent = subst (λ t. Appends old.wire.taken t (frame_at user moment old.daemon)) (sym stay.0) asked.sent;
  writes = stay.1 ∙ asked.writes;
}

-- what memory leaves that was wanting behind the frame
unfinished : (user read : List ℕ) (old new : Scene) (moment : ℕ) → IsAsked user old new moment
    → Consumes old.wire.left new.wire.left read → new.wire.reads ≡ old.wire.reads → IsCut user old new cut.Memory
unfinished user read old new moment asked consumed reads =
    let frame = frame_at user moment old.daemon in (
      moment,
      asked.clock,
      inr asked.after,
      (length frame, subst (Appends old.wire.taken new.wire.taken) (sym (take_all (length frame) frame (omega arith))) asked.sent),
      (read, consumed),
      (reads, asked.writes),
    )

-- no orders came
pub unheard_turn : (user node : List ℕ) (old mid new : Scene) (moment : ℕ) (why : Cut)
    → AsksOrCut user old mid (Ok (moment, node)) → new.moments ≡ mid.moments → new.daemon ≡ mid.daemon
    → WritesStay mid.wire new.wire → Hears node mid.wire new.wire (Err why) → IsTurnOrCut user old new (Err why)
unheard_turn user node old mid new moment (cut.Refused text) (asked, named, left, reads) clock daemon stay (place, reply, consumed, is, same) = (
  (moment, still_asked user old mid new moment asked clock daemon stay),
  (place, reply, subst (λ l. Consumes l new.wire.left reply) left consumed, is, same ∙ reads),
)
unheard_turn user node old mid new moment cut.BadReply (asked, named, left, reads) clock daemon stay (read, consumed, off, same) = (
  (moment, still_asked user old mid new moment asked clock daemon stay),
  (
    read,
    subst (λ l. Consumes l new.wire.left read) left consumed,
    subst (λ n. IsNoReply read new.wire.left ⊎ IsNoOrders n read) named off,
    same ∙ reads,
  ),
)
unheard_turn user node old mid new moment cut.ReadFault (asked, named, left, reads) clock daemon stay (read, consumed, less, counted) = (
  (moment, still_asked user old mid new moment asked clock daemon stay),
  (read, subst (λ l. Consumes l new.wire.left read) left consumed, less, subst (λ n. CountsOne n new.wire.reads) reads counted),
)
unheard_turn user node old mid new moment cut.WriteFault asked clock daemon stay heard = absurd heard
unheard_turn user node old mid new moment cut.Memory (asked, named, left, reads) clock daemon stay (read, consumed, same) =
    unfinished user read old new moment (still_asked user old mid new moment asked clock daemon stay)
    (subst (λ l. Consumes l new.wire.left read) left consumed) (same ∙ reads)

-- orders came, and memory was wanting to take them
pub untaken_turn : (user node : List ℕ) (old mid new : Scene) (moment size : ℕ) (orders : Orders)
    → AsksOrCut user old mid (Ok (moment, node)) → new.moments ≡ mid.moments → new.daemon ≡ mid.daemon
    → WritesStay mid.wire new.wire → Hears node mid.wire new.wire (Ok (orders, size)) → IsTurnOrCut user old new (Err cut.Memory)
untaken_turn user node old mid new moment size orders (asked, named, left, reads) clock daemon stay (reply, consumed, is, long, same) =
    unfinished user reply old new moment (still_asked user old mid new moment asked clock daemon stay)
    (subst (λ l. Consumes l new.wire.left reply) left consumed) (same ∙ reads)

-- orders came, and were taken
pub turned : (user node : List ℕ) (old mid new : Scene) (moment size : ℕ) (orders : Orders)
    → AsksOrCut user old mid (Ok (moment, node)) → new.moments ≡ mid.moments → new.daemon ≡ given moment orders mid.daemon
    → WritesStay mid.wire new.wire → Hears node mid.wire new.wire (Ok (orders, size)) → IsTurnOrCut user old new (Ok size)
turned user node old mid new moment size orders (asked, named, left, reads) clock daemon stay (reply, consumed, is, long, same) = (
  record { moment = moment; reply = reply; orders = orders },
  record {
    clock = subst (λ m. AddsMoment old.moments m moment) (sym clock) asked.clock;
    sent = subst (λ t. Appends old.wire.taken t (frame_at user moment old.daemon)) (sym stay.0) asked.sent;
    read = subst (λ l. Consumes l new.wire.left reply) left consumed;
    reply = subst (λ n. IsOrdersReply n reply orders) named is;
    after = daemon ∙ ap (given moment orders) asked.after;
    faultless = (same ∙ reads, stay.1 ∙ asked.writes);
  },
  long,
)
