use Rattle.std.proofs.Common.{◌+◌, ◌≤◌, arith, Ok, Err, subst, ap, ◌∙◌}
use Rattle.block_frame.specs.Frames.{announced}
use Rattle.slurm_client.specs.Reading.{IsFilled}
use Rattle.slurm_client.proofs.Filling.{first_read, frame_filled, frame_short, handed_on}
use Rattle.slurm_client.proofs.reading.read_frame.Goals as goal

pub returns-in_err-read_up_to-2-clause-read : goal.returns-in_err-read_up_to-2-clause-read
returns-in_err-read_up_to-2-clause-read g c =
    let e = c.in_err-read_up_to-2.field-0.0 in
    let (gains, four, reads) = c.in_ok-read_up_to.ensures.filled in
    let says = c.announced-len.ensures.value ∙ ap announced c.as_slice.ensures.value in
    let high : 9 ≤ announced c.read_up_to.new.bytes.items = omega arith in
    rw (handed_on c.from_residual-in_err-read_up_to-2.result e c.from_residual-in_err-read_up_to-2.ensures.1)
    (frame_short (g.L.Link.wire c.args.link.now) (g.L.Link.wire c.read_up_to.new.link) (g.L.Link.wire c.read_up_to-2.new.link) _ _ e c.replies_say_their_end.ensures.said (first_read _ _ _ _ c.new-frame.ensures.items gains) four high reads
    (subst (λ n. IsFilled (g.L.Link.wire c.read_up_to.new.link) (g.L.Link.wire c.read_up_to-2.new.link)
    c.read_up_to.new.bytes.items c.read_up_to-2.new.bytes.items (4 + n) (Err e)) says c.in_err-read_up_to-2.ensures.filled))

pub returns-clause-read : goal.returns-clause-read
returns-clause-read g c =
    let (gains, four, reads) = c.in_ok-read_up_to.ensures.filled in
    let says = c.announced-len.ensures.value ∙ ap announced c.as_slice.ensures.value in
    let high : 9 ≤ announced c.read_up_to.new.bytes.items = omega arith in
    frame_filled (g.L.Link.wire c.args.link.now) (g.L.Link.wire c.read_up_to.new.link) (g.L.Link.wire c.read_up_to-2.new.link) _ c.read_up_to-2.new.bytes c.replies_say_their_end.ensures.said
    (first_read _ _ _ _ c.new-frame.ensures.items gains) four high reads
    (subst (λ n. IsFilled (g.L.Link.wire c.read_up_to.new.link) (g.L.Link.wire c.read_up_to-2.new.link)
    c.read_up_to.new.bytes.items c.read_up_to-2.new.bytes.items (4 + n) (Ok tt)) says c.in_ok-read_up_to-2.ensures.filled)
