use Rattle.std.proofs.Common.{refl, arith}
use Rattle.slurmd_link.proofs.Hearing.{no_orders, orders_reply, refused}
use Rattle.slurmd_link.proofs.turn.orders_of.Goals as goal

pub returns-then-reply-gt0 : goal.returns-then-reply-gt0
returns-then-reply-gt0 c =
    let r = c.in-Some.reply in
    let reply = (c.in-Some.ensures r.status r.place r.text.now).0 (refl, refl, refl) in
    refused c.args.node.now c.args.frame.now r.text.now c.in_ok-copy_of.field-0 r.status r.place reply c.if-reply-gt0.true
    c.in_ok-copy_of.ensures

pub read_orders-requires : goal.read_orders-requires
read_orders-requires c =
    let r = c.in-Some.reply in
    let fits = ((c.in-Some.ensures r.status r.place r.text.now).0 (refl, refl, refl)).fits in
    omega arith

pub returns-in-Ok : goal.returns-in-Ok
returns-in-Ok c =
    let r = c.in-Some.reply in
    let reply = (c.in-Some.ensures r.status r.place r.text.now).0 (refl, refl, refl) in
    let none = c.if-reply-gt0.false in
    orders_reply c.args.node.now c.args.frame.now r.text.now r.status r.place c.in-Ok.orders reply (omega arith) c.in-Ok.ensures.read

pub returns-in-Err-BadOrders : goal.returns-in-Err-BadOrders
returns-in-Err-BadOrders c =
    let r = c.in-Some.reply in
    let reply = (c.in-Some.ensures r.status r.place r.text.now).0 (refl, refl, refl) in
    let none = c.if-reply-gt0.false in
    no_orders c.args.node.now c.args.frame.now r.text.now r.status r.place reply (omega arith)
    (λ orders are. rw c.in-Err-BadOrders.field-0-is at (c.in-Err-BadOrders.ensures.only orders are))
