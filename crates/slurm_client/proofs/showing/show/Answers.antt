use Rattle.std.proofs.Common.{◌≡◌, refl, arith}
use Rattle.slurm_client.proofs.showing.show.Goals as goal

pub returns-then-reply-gt0-clause-shown : goal.returns-then-reply-gt0-clause-shown
returns-then-reply-gt0-clause-shown g c =
    let reply = c.in-Some.reply in
    let is_reply = (c.in-Some.ensures reply.status reply.place reply.text.now).0 (refl, refl, refl) in (
      reply.place,
      reply.text.now,
      is_reply,
      record {
        output = λ none. absurd (omega arith);
        errors = λ one. (c.tell.ensures, (refl, refl));
      },
    )

pub returns-in-Ok-clause-shown : goal.returns-in-Ok-clause-shown
returns-in-Ok-clause-shown g c =
    let reply = c.in-Some.reply in
    let none : reply.status ≡ 0 = omega arith in
    let is_reply = (c.in-Some.ensures 0 reply.place reply.text.now).0 (none, refl, refl) in (
      reply.place,
      reply.text.now,
      is_reply,
      record {
        output = λ same. (c.in-Ok.ensures.written, c.in-Ok.ensures.faults, (refl, refl));
        errors = λ one. absurd (omega arith);
      },
    )

pub returns-in-Err-clause-shown : goal.returns-in-Err-clause-shown
returns-in-Err-clause-shown g c =
    let reply = c.in-Some.reply in
    let none : reply.status ≡ 0 = omega arith in
    let is_reply = (c.in-Some.ensures 0 reply.place reply.text.now).0 (none, refl, refl) in (
      reply.place,
      reply.text.now,
      is_reply,
      record {
        output = c.in-Err.ensures.cut;
        faults = c.in-Err.ensures.faults;
        errors = (refl, refl);
      },
    )
