-- What a frame says to a node, and what is heard of a link.
use Rattle.std.proofs.Common.{◌≡◌, inl, inr, ℕ, ◌<◌, List, length, Ok, Err, sym, ap, subst, arith}
use Rattle.std.specs.declared.alloc.Global.{Global}
use Rattle.std.specs.Prelude.{Vec, IsErrAnd, Result}
use Rattle.slurm_io.specs.Wire.{Wire}
use Rattle.block_frame.specs.Replies.{IsReply}
use Rattle.slurm_client.specs.Reading.{IsFrameRead}
use Rattle.slurm_client.specs.declared.reading.Unread.{Unread}
use Rattle.slurm_client.specs.declared.reading.Unread.TheVariants as unread
use Rattle.reply_data.specs.declared.orders.Orders.{Orders}
use Rattle.orders_text.specs.Orders.{AreOrdersOf}
use Rattle.slurmd_link.specs.Turns.{Hears, IsAnswered, cut_of}
use Rattle.slurmd_link.specs.declared.turn.Cut.{Cut}
use Rattle.slurmd_link.specs.declared.turn.Cut.TheVariants as cut

-- what `?` hands on
pub handed_on : {T : Type 0} (result : Result T Cut) (why : Cut) → IsErrAnd result (λ v. v ≡ why) → result ≡ Err why
handed_on (Ok x) why given = absurd given
handed_on (Err v) why given = ap Err given

-- a frame that was read as a reply

pub refused : (node frame text heard : List ℕ) (status place : ℕ) → IsReply frame status place text → 0 < status → heard ≡ text
    → IsAnswered node frame (Err (cut.Refused heard))
refused node frame text heard status place reply above same =
    let low = reply.is_status in
    let one : status ≡ 1 = omega arith in
    (place, subst (λ t. IsReply frame 1 place t) (sym same) (subst (λ s. IsReply frame s place text) one reply))

pub orders_reply : (node frame text : List ℕ) (status place : ℕ) (orders : Orders) → IsReply frame status place text
    → status ≡ 0 → AreOrdersOf node text orders → IsAnswered node frame (Ok orders)
orders_reply node frame text status place orders reply none are =
    record { place = place; text = text; is_reply = subst (λ s. IsReply frame s place text) none reply; are_orders = are }

pub no_orders : (node frame text : List ℕ) (status place : ℕ) → IsReply frame status place text → status ≡ 0
    → ((orders : Orders) → ¬ AreOrdersOf node text orders) → IsAnswered node frame (Err cut.BadReply)
no_orders node frame text status place reply none off =
    inr (record { place = place; text = text; is_reply = subst (λ s. IsReply frame s place text) none reply; none = off })

-- a frame was read, and answered

pub heard_orders : (node : List ℕ) (old new : Wire) (frame : Vec ℕ Global) (orders : Orders) (size : ℕ)
    → IsFrameRead old new (Ok frame) → IsAnswered node frame.items (Ok orders) → length frame.items ≡ size
    → Hears node old new (Ok (orders, size))
heard_orders node old new frame orders size (taken, whole, high, reads) is same = (frame.items, taken, is, same, reads)

pub heard_cut : (node : List ℕ) (old new : Wire) (frame : Vec ℕ Global) (why : Cut) → IsFrameRead old new (Ok frame)
    → IsAnswered node frame.items (Err why) → Hears node old new (Err why)
heard_cut node old new frame (cut.Refused text) (taken, whole, high, reads) (place, reply) =
    (place, frame.items, taken, reply, reads)
heard_cut node old new frame cut.BadReply (taken, whole, high, reads) (inl none) =
    (frame.items, taken, inl (inr (inr (whole, none))), reads)
heard_cut node old new frame cut.BadReply (taken, whole, high, reads) (inr none) = (frame.items, taken, inr none, reads)
heard_cut node old new frame cut.ReadFault read is = absurd is
heard_cut node old new frame cut.WriteFault read is = absurd is
heard_cut node old new frame cut.Memory (taken, whole, high, reads) is = (frame.items, taken, reads)

-- no frame was read
pub unheard : (node : List ℕ) (old new : Wire) (why : Unread) → IsFrameRead old new (Err why)
    → Hears node old new (Err (cut_of why))
unheard node old new unread.Bad ((read, within, inl short), reads) = (read, within.consumed, inl (inl short), reads)
unheard node old new unread.Bad ((read, within, inr end), reads) = (read, within.consumed, inl (inr (inl end)), reads)
unheard node old new unread.ReadFault ((read, within, less), counted) = (read, within.consumed, less, counted)
unheard node old new unread.Memory ((read, within), reads) = (read, within.consumed, reads)
