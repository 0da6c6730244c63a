use Rattle.std.proofs.Common.{◌≡◌, ◌+◌, length, drop, ap, sym, ◌∙◌, arith}
use Rattle.block_frame.specs.Frames.{announced}
use Rattle.block_frame.specs.Replies.{place_said}
use Rattle.block_frame.proofs.ReplyFrames.{SaidAt, reply_said, reply_from_parts}
use Rattle.block_frame.proofs.replies.read_reply.Goals.{then-bytes-via-then-bytes, then-bytes-via-else-bytes+then-announced-bytes}
use Rattle.block_frame.proofs.replies.read_reply.Goals as goal

pub returns-then-bytes : goal.returns-then-bytes
returns-then-bytes c = λ status place text. (
  λ none. absurd none,
  λ reply.
      let said = reply_said c.args.bytes.now status place text reply in
      let whole = said.whole in
      let says = said.says in
      elim c.then-bytes.branch [
        | then-bytes-via-then-bytes w ↦ absurd (omega arith)
        | then-bytes-via-else-bytes+then-announced-bytes w ↦ absurd (omega (arith, w.announced.ensures.value, w.if-announced-bytes.true))
      ],
)

pub returns-then-status-gt1 : goal.returns-then-status-gt1
returns-then-status-gt1 c = λ status place text. (
  λ none. absurd none,
  λ reply.
      let said = reply_said c.args.bytes.now status place text reply in
      let status_is = said.status_is in
      let is_status = reply.is_status in
      absurd (omega arith),
)

pub returns : goal.returns
returns c =
    let bytes = c.args.bytes.now in
    let place_is : c.place_said.result ≡ place_said (drop 5 bytes) = c.place_said.ensures ∙ ap place_said c.split_at.ensures.back in
    let text_is : c.split_at-2.result.1.now ≡ drop 13 bytes = c.split_at-2.ensures.back in
    let says : announced bytes + 4 ≡ length bytes = omega (arith, c.announced.ensures.value) in
    λ status place text. (
      λ parts.
          let said : SaidAt bytes status place text = record {
            whole = omega arith;
            says = says;
            status_is = parts.0;
            place_is = sym place_is ∙ parts.1;
            text_is = sym text_is ∙ parts.2;
          } in
          reply_from_parts bytes status place text c.type_inv.bytes said (omega arith),
      λ reply.
          let said = reply_said bytes status place text reply in
          (said.status_is, place_is ∙ said.place_is, text_is ∙ said.text_is),
    )
