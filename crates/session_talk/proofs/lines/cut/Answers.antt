use Rattle.std.proofs.Common.{◌≡◌, ◌++◌, ap, ◌∙◌, arith, length, take, ◌≤◌, ◌<◌}
use Rattle.session_talk.proofs.Feeds.{len_of, cut_whole, cut_open}
use Rattle.session_talk.proofs.lines.cut.Goals as goal

pub returns-then-len : goal.returns-then-len
returns-then-len c =
    let text = c.args.pending.now.items in
    let len = c.line_len-len.result in
    let is : len ≡ len_of text = c.line_len-len.ensures.value ∙ ap len_of c.as_slice.ensures in
    let within : len < length text = omega arith in
    cut_whole text c.args.line.now.items c.advance.new.self.items c.extend_from_slice.new.self.items len is within
    c.advance.ensures.items
    (c.in_ok-extend_from_slice.ensures.items
    ∙ ap (λ l. c.args.line.now.items ++ l) (c.split_at.ensures.front ∙ ap (take len) c.as_slice-2.ensures))

pub returns-else-len : goal.returns-else-len
returns-else-len c =
    let text = c.args.pending.now.items in
    let len = c.line_len-len.result in
    let is : len ≡ len_of text = c.line_len-len.ensures.value ∙ ap len_of c.as_slice.ensures in
    let all : length text ≤ len = omega arith in
    cut_open text c.args.line.now.items c.advance-else-len.new.self.items c.extend_from_slice.new.self.items len is all
    c.advance-else-len.ensures.items
    (c.in_ok-extend_from_slice.ensures.items
    ∙ ap (λ l. c.args.line.now.items ++ l) (c.split_at.ensures.front ∙ ap (take len) c.as_slice-2.ensures))
