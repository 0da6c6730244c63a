use Rattle.std.proofs.Common.{map, string_bytes, ap, ◌∙◌}
use Rattle.std.proofs.lemmas.Iterator.Consumers.{YieldsList-end}
use Rattle.std.proofs.lemmas.Iterator.Splits.{YieldsList-from_lines}
use Rattle.std.proofs.lemmas.List.{map_push}
use Rattle.std.specs.Str.Iter.{lines_rest}
use Rattle.table_lines.proofs.Told.{told-more}
use Rattle.table_lines.proofs.table.answers.Goals as goal

pub loop-line-preserved : goal.loop-line-preserved
loop-line-preserved g c =
    let told = c.in_ok-push_told.ensures in
    let lines = map (λ line. line.now) c.loop-line.yielded in
    rw (map_push, c.in_ok-push_str.ensures.bytes, told.1)
    (told-more lines (string_bytes c.loop-line.out) c.in-Some.line.now told.0 c.loop-line.invariant)

pub returns : goal.returns
returns g c =
    let first = c.into_iter-line-iterator.result in
    let rest = ap lines_rest c.into_iter-line-iterator.ensures.into_iter_gives ∙ c.lines-line-items.ensures.rest in
    let chain = YieldsList-from_lines {s = first} c.args.table.now rest in
    let all = YieldsList-end chain c.loop-line.yielded c.loop-line.line-iterator c.loop-line.yielded_by
    c.next.result c.next.new.self c.in-None.is c.next.ensures.steps in
    rw all.0 at c.loop-line.invariant
