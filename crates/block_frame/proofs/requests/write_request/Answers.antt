use Rattle.std.proofs.Common.{◌≡◌, ◌++◌, length, ap, ◌∙◌, append_assoc, option_copied}
use Rattle.block_frame.specs.Frames.{length_bytes, content_of, request_of, behind_header}
use Rattle.block_frame.proofs.requests.write_request.Goals as goal

pub returns : goal.returns
unfolding length_bytes
returns c =
    let header = c.args.header.now in
    let behind = behind_header (option_copied c.args.attachment) in
    let front : c.extend_from_slice.new.self.items ≡ length_bytes (length (content_of (request_of header (option_copied c.args.attachment)))) =
    c.in_ok-extend_from_slice.ensures.items
    ∙ ap (λ t. t ++ c.to_be_bytes.result) c.in_ok-frame.ensures.items
    ∙ c.to_be_bytes.ensures
    ∙ ap length_bytes c.content_len-len.ensures in
    c.in_ok-push_behind.ensures
    ∙ ap (λ t. t ++ behind) (c.in_ok-extend_from_slice-2.ensures.items ∙ ap (λ t. t ++ header) front)
    ∙ append_assoc (length_bytes (length (content_of (request_of header (option_copied c.args.attachment))))) header behind
