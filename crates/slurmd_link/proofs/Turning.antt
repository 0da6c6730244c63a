-- Turns that are made one after the other.
use Rattle.std.specs.Prelude.{All, min}
use Rattle.std.proofs.Common.{◌≡◌, ℕ, ◌+◌, ◌-◌, ◌^◌, ◌<◌, Bool, true, false, if◌then◌else◌, List, [], ◌∷◌, ◌++◌, length, map, Option, Some, None, refl, sym, ap, ◌∙◌, subst, arith, append_assoc, length-append}
use Rattle.std.proofs.KnownBytes.{Appends-nil, Appends-trans, Consumes-nil, Consumes-trans}
use Rattle.std.proofs.lemmas.Grind.{flat_map-append}
use Rattle.std.proofs.lemmas.List.{append-nil, map-append}
use Rattle.std.proofs.lemmas.List.Elements.{All-append}
use Rattle.std.specs.Io.KnownBytes.{Appends, Consumes}
use Rattle.slurm_net.specs.Course.{AddsMoment}
use Rattle.node_daemon.specs.Daemon.{Daemon, accepted, are_due, polled}
use Rattle.slurmd_link.specs.declared.link.LinkEnd.{LinkEnd}
use Rattle.slurmd_link.specs.declared.link.LinkHow.TheVariants as how
use Rattle.slurmd_link.specs.declared.turn.Cut.{Cut}
use Rattle.slurmd_link.specs.declared.turn.Cut.TheVariants as cut
use Rattle.slurmd_link.specs.Links.{IsEndedBy, IsLinked, how_of, size_read}
use Rattle.slurmd_link.specs.Turns.{AddsMoments, AreMade, IsCut, IsOrdersReply, IsTurned, Scene, Turn, after_turn, after_turns, frame_at, read_in, sent_in}

-- what a turn keeps of a daemon, and what it counts

given_node : (t : Bool) (daemon other : Daemon) → other.node ≡ daemon.node → (if t then other else daemon).node ≡ daemon.node
given_node true daemon other same = same
given_node false daemon other same = refl

given_number : (t : Bool) (daemon other : Daemon) → other.number ≡ daemon.number
    → (if t then other else daemon).number ≡ daemon.number
given_number true daemon other same = same
given_number false daemon other same = refl

turn_node : (daemon : Daemon) (turn : Turn) → (after_turn daemon turn).node ≡ daemon.node
turn_node daemon turn =
    let asked = polled turn.moment daemon in
    given_node (are_due turn.orders asked) asked (accepted turn.moment turn.orders asked) refl

turn_number : (daemon : Daemon) (turn : Turn) → (after_turn daemon turn).number ≡ daemon.number + 1
turn_number daemon turn =
    let asked = polled turn.moment daemon in
    given_number (are_due turn.orders asked) asked (accepted turn.moment turn.orders asked) refl

turns_node : (daemon : Daemon) (turns : List Turn) → (after_turns daemon turns).node ≡ daemon.node
turns_node daemon [] = refl
turns_node daemon (turn ∷ turns) = turns_node (after_turn daemon turn) turns ∙ turn_node daemon turn

pub turns_number : (daemon : Daemon) (turns : List Turn) → (after_turns daemon turns).number ≡ daemon.number + length turns
turns_number daemon [] = omega arith
turns_number daemon (turn ∷ turns) =
    omega (arith, turns_number (after_turn daemon turn) turns, turn_number daemon turn)

-- one turn more

after_more : (daemon : Daemon) (turns : List Turn) (turn : Turn)
    → after_turns daemon (turns ++ turn ∷ []) ≡ after_turn (after_turns daemon turns) turn
after_more daemon [] turn = refl
after_more daemon (first ∷ turns) turn = after_more (after_turn daemon first) turns turn

sent_more : (user : List ℕ) (daemon : Daemon) (turns : List Turn) (turn : Turn)
    → sent_in user daemon (turns ++ turn ∷ [])
    ≡ sent_in user daemon turns ++ frame_at user turn.moment (after_turns daemon turns)
sent_more user daemon [] turn = append-nil (frame_at user turn.moment daemon)
sent_more user daemon (first ∷ turns) turn =
    ap (λ t. frame_at user first.moment daemon ++ t) (sent_more user (after_turn daemon first) turns turn)
    ∙ sym (append_assoc (frame_at user first.moment daemon) (sent_in user (after_turn daemon first) turns)
    (frame_at user turn.moment (after_turns (after_turn daemon first) turns)))

abbrev reply_of : Turn → List ℕ
reply_of turn = turn.reply

read_more : (turns : List Turn) (turn : Turn) → read_in (turns ++ turn ∷ []) ≡ read_in turns ++ turn.reply
read_more turns turn =
    flat_map-append reply_of turns (turn ∷ []) ∙ ap (λ t. read_in turns ++ t) (append-nil turn.reply)

moments_more : (old mid new : Option (List ℕ)) (moments : List ℕ) (moment : ℕ) → AddsMoments old mid moments
    → AddsMoment mid new moment → AddsMoments old new (moments ++ moment ∷ [])
moments_more old mid None moments moment first next = tt
moments_more old None (Some after) moments moment first next = absurd next
moments_more None (Some between) (Some after) moments moment first next = absurd first
moments_more (Some before) (Some between) (Some after) moments moment first next =
    next ∙ ap (λ l. l ++ moment ∷ []) first ∙ append_assoc before moments (moment ∷ [])

same_moments : (old : Option (List ℕ)) → AddsMoments old old []
same_moments None = tt
same_moments (Some before) = sym (append-nil before)

pub none_made : (user : List ℕ) (old : Scene) → AreMade user old old []
none_made user old = record {
  replies = λ k d within. absurd (omega arith);
  clock = same_moments old.moments;
  read = Consumes-nil old.wire.left;
  sent = Appends-nil old.wire.taken;
  after = refl;
  faultless = (refl, refl);
}

one_reply : (node : List ℕ) (turn : Turn) → IsOrdersReply node turn.reply turn.orders
    → All (λ (one : Turn). IsOrdersReply node one.reply one.orders) (turn ∷ [])
one_reply node turn is k d within =
    let none : k ≡ 0 = omega arith in
    rw none is

pub more_made : (user : List ℕ) (old mid new : Scene) (turns : List Turn) (turn : Turn) → AreMade user old mid turns
    → IsTurned user mid new turn → AreMade user old new (turns ++ turn ∷ [])
more_made user old mid new turns turn made turned =
    let node : mid.daemon.node ≡ old.daemon.node = ap (λ (d : Daemon). d.node) made.after ∙ turns_node old.daemon turns in
    let frame : frame_at user turn.moment mid.daemon ≡ frame_at user turn.moment (after_turns old.daemon turns) =
    ap (frame_at user turn.moment) made.after in record {
      replies = All-append (λ (one : Turn). IsOrdersReply old.daemon.node one.reply one.orders) turns (turn ∷ []) made.replies
          (one_reply old.daemon.node turn (subst (λ n. IsOrdersReply n turn.reply turn.orders) node turned.reply));
      clock = subst (AddsMoments old.moments new.moments)
          (sym (map-append (λ (one : Turn). one.moment) turns (turn ∷ [])))
          (moments_more old.moments mid.moments new.moments (map (λ (one : Turn). one.moment) turns) turn.moment made.clock turned.clock);
      read = subst (Consumes old.wire.left new.wire.left) (sym (read_more turns turn))
          (Consumes-trans old.wire.left mid.wire.left new.wire.left (read_in turns) turn.reply made.read turned.read);
      sent = subst (Appends old.wire.taken new.wire.taken)
          (ap (λ f. sent_in user old.daemon turns ++ f) frame ∙ sym (sent_more user old.daemon turns turn))
          (Appends-trans old.wire.taken mid.wire.taken new.wire.taken (sent_in user old.daemon turns)
          (frame_at user turn.moment mid.daemon) made.sent turned.sent);
      after = turned.after ∙ ap (λ d. after_turn d turn) made.after ∙ sym (after_more old.daemon turns turn);
      faultless = (turned.faultless.0 ∙ made.faultless.0, turned.faultless.1 ∙ made.faultless.1);
    }

pub size_more : (turns : List Turn) (turn : Turn) (place size : ℕ) → place ≡ size_read turns → length turn.reply ≡ size
    → min (place + size) (2 ^ 64 - 1) ≡ size_read (turns ++ turn ∷ [])
size_more turns turn place size is same =
    omega (arith, ap length (read_more turns turn), length-append (read_in turns) turn.reply)

-- so many turns were made, whose replies have so many bytes
pub record Going (user : List ℕ) (old new : Scene) (count place : ℕ) : Type 0 where
  pub turns : List Turn
  pub made : AreMade user old new turns
  pub counted : length turns ≡ count
  pub sized : place ≡ size_read turns

pub begun : (user : List ℕ) (old : Scene) → Going user old old 0 0
begun user old = record { turns = []; made = none_made user old; counted = refl; sized = omega arith }

pub gone_on : (user : List ℕ) (old mid new : Scene) (count place size after : ℕ) (going : Going user old mid count place) (turn : Turn)
    → IsTurned user mid new turn → length turn.reply ≡ size → after ≡ min (place + size) (2 ^ 64 - 1)
    → Going user old new (count + 1) after
gone_on user old mid new count place size after going turn turned same more = record {
  turns = going.turns ++ turn ∷ [];
  made = more_made user old mid new going.turns turn going.made turned;
  counted = omega (arith, going.counted, length-append going.turns (turn ∷ []));
  sized = more ∙ size_more going.turns turn place size going.sized same;
}

pub going_number : (user : List ℕ) (old new : Scene) (count place : ℕ) → Going user old new count place
    → new.daemon.number ≡ old.daemon.number + count
going_number user old new count place going =
    ap (λ (d : Daemon). d.number) going.made.after ∙ turns_number old.daemon going.turns
    ∙ ap (λ n. old.daemon.number + n) going.counted

-- how a run ends

cut_ends : (user : List ℕ) (mid new : Scene) (turns : List Turn) (asked place : ℕ) (why : Cut) → IsCut user mid new why
    → length turns < asked → place ≡ size_read turns → IsEndedBy user mid new turns asked (how_of why place)
cut_ends user mid new turns asked place (cut.Refused text) is less sized = (is, less)
cut_ends user mid new turns asked place cut.BadReply is less sized = (is, less, sized)
cut_ends user mid new turns asked place cut.ReadFault is less sized = (is, less)
cut_ends user mid new turns asked place cut.WriteFault is less sized = (is, less)
cut_ends user mid new turns asked place cut.Memory is less sized = (is, less)

pub linked_cut : (user : List ℕ) (old mid new : Scene) (count place asked : ℕ) (why : Cut) (end : LinkEnd)
    → Going user old mid count place → IsCut user mid new why → count < asked
    → end.how ≡ how_of why place → end.made ≡ count → IsLinked user old new asked end
linked_cut user old mid new count place asked why end going is less same made = record {
  turns = going.turns;
  mid = mid;
  made = going.made;
  counted = going.counted ∙ sym made;
  ended = subst (IsEndedBy user mid new going.turns asked) (sym same)
      (cut_ends user mid new going.turns asked place why is (let n = going.counted in omega arith) going.sized);
}

pub linked_whole : (user : List ℕ) (old new : Scene) (count place asked : ℕ) (end : LinkEnd)
    → Going user old new count place → count ≡ asked → end.how ≡ how.Done → end.made ≡ asked
    → IsLinked user old new asked end
linked_whole user old new count place asked end going all same made = record {
  turns = going.turns;
  mid = new;
  made = going.made;
  counted = going.counted ∙ all ∙ sym made;
  ended = subst (IsEndedBy user new new going.turns asked) (sym same) (refl, going.counted ∙ all);
}
