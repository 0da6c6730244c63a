use Rattle.slurm_client.proofs.Calls.{sent, shown_call, bad_call, failed_call}
use Rattle.slurm_client.proofs.client.exchange.Goals as goal

pub returns-in-Ok-read_frame-clause-called : goal.returns-in-Ok-read_frame-clause-called
returns-in-Ok-read_frame-clause-called g c = λ block is_block is.
    let old = g.L.Link.wire c.args.link.now in
    let mid = g.L.Link.wire c.send.new.link in
    let new = g.L.Link.wire c.read_frame.new.link in
    let law = c.replies_say_their_end.ensures in
    let is_sent = sent block old mid new c.args.frame.now is_block is c.in-Ok.ensures.written c.in-Ok.ensures.faults c.read_frame.ensures.writes in
    shown_call block old mid new _ _ c.in-Ok-read_frame.reply c.show.result law.end law.said is_sent c.send.ensures.reads
    c.in-Ok-read_frame.ensures.read (rw c.as_slice.ensures.value at c.show.ensures.shown)

pub returns-in-Err-Bad-clause-called : goal.returns-in-Err-Bad-clause-called
returns-in-Err-Bad-clause-called g c = λ block is_block is.
    let old = g.L.Link.wire c.args.link.now in
    let mid = g.L.Link.wire c.send.new.link in
    let new = g.L.Link.wire c.read_frame.new.link in
    let law = c.replies_say_their_end.ensures in
    let is_sent = sent block old mid new c.args.frame.now is_block is c.in-Ok.ensures.written c.in-Ok.ensures.faults c.read_frame.ensures.writes in
    bad_call block old mid new _ law.end law.said is_sent c.send.ensures.reads (rw c.in-Err-Bad.field-0-is at c.in-Err-Bad.ensures.read)

pub returns-in-Err-ReadFault-clause-called : goal.returns-in-Err-ReadFault-clause-called
returns-in-Err-ReadFault-clause-called g c = λ block is_block is.
    let old = g.L.Link.wire c.args.link.now in
    let mid = g.L.Link.wire c.send.new.link in
    let new = g.L.Link.wire c.read_frame.new.link in
    let law = c.replies_say_their_end.ensures in
    let is_sent = sent block old mid new c.args.frame.now is_block is c.in-Ok.ensures.written c.in-Ok.ensures.faults c.read_frame.ensures.writes in
    failed_call block old mid new _ law.end is_sent c.send.ensures.reads (rw c.in-Err-ReadFault.field-0-is at c.in-Err-ReadFault.ensures.read)
